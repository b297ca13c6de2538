-- max, min and clamp as the specification words them. Definitions only.
use Rattle.std.specs.Prelude.{cond, Float}
use Rattle.std.specs.Float.Ieee.{lt}

-- the left, unless the right is strictly greater: max of -0 and +0 is the left one, a NaN on the left stays, one on the right is passed over
unfoldable pub max_of : Float → Float → Float
max_of a b = cond (lt a b) b a

-- the left, unless the right is strictly smaller
unfoldable pub min_of : Float → Float → Float
min_of a b = cond (lt b a) b a

-- x, unless it is strictly below `low` or strictly above `high`. The lower end is tried first, so that an inverted range
-- gives `low` to what lies below it, and `high` to what lies above `high` and not below `low`. A NaN stays, and a NaN for an end does nothing.
unfoldable pub clamp_of : Float → Float → Float → Float
clamp_of x low high = cond (lt x low) low (cond (lt high x) high x)
