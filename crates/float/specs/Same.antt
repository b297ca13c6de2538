-- Whether two values are the same, bit for bit.
use Rattle.std.specs.Prelude.{Bool, not, ◌&&◌, List, ◌==◌, is_nan, to_bits, Float}
use Rattle.std.specs.Float.{binary64}
use Rattle.sequence.specs.All.{all}

-- no NaN, and the same bits: 0 and -0 differ
unfoldable pub same_of : Float → Float → Bool
same_of a b = not (is_nan a) && not (is_nan b) && to_bits binary64 a == to_bits binary64 b

unfoldable pub all_same : Float → List Float → Bool
all_same x xs = all (λ (y : Float). same_of y x) xs
