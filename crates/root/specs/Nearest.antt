-- What it is to be the f64 nearest to a square root, by squares of midpoints. Definitions only.
use Rattle.std.specs.Prelude.{◌≡◌, ℕ, ◌+◌, ◌*◌, ◌^◌, ◌<◌, Float}
use Rattle.std.specs.Float.{binary64}
use Rattle.float.specs.Units.{units_of}
use Rattle.float.specs.Valid.{Num}

-- some finite f64 is w units, or minus w units
pub record Held (w : ℕ) : Type 0 where
  pub value : Float
  pub num : Num binary64 value
  pub units : units_of value ≡ w

-- v units are nearest to the root of N: the midpoint of v and any other value w lies on w's side of the root, so that v is nearer than w.
-- The midpoint is (v + w) / 2, and its square is compared with N. It is never the root itself: there are no ties.
pub record Nearest (N v : ℕ) : Type 0 where
  pub held : Held v
  pub above : (w : ℕ) → Held w → v < w → 4 * N < (v + w) * (v + w)
  pub below : (w : ℕ) → Held w → w < v → (v + w) * (v + w) < 4 * N

-- y is the f64 nearest to the root of x
abbrev pub NearestRoot : Float → Float → Type 0
NearestRoot x y = Nearest (units_of x * 2 ^ 1074) (units_of y)
