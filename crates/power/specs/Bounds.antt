-- What is proved of the powers beside their steps. Definitions only.
use Rattle.std.specs.Prelude.{◌≡◌, not, ◌*◌, ◌^◌, ◌≤◌, ◌<◌, T, ℤ, Float}
use Rattle.std.proofs.Math.IntN.{pred_ℤ}
use Rattle.std.specs.Float.{nan, binary64}
use Rattle.std.specs.Float.Ieee.{up, down, le, fits, is_nan}
use Rattle.std.specs.Float.Ieee.Positive.{positive, num, den}
use Rattle.std.specs.Float.Ieee.Scale.{finite}
use Rattle.float.specs.Valid.{plus}
use Rattle.float.specs.Arithmetic.{zero64, one64}

-- 2 ^ (K - 2) < r ^ (2 ^ 24) ≤ 2 ^ K. A finite r above zero is num r / den r, and 2 ^ K is up K / down K; the fractions are multiplied out.
pub record PowerBounds (r : Float) (K : ℤ) : Type 0 where
  pub above_zero : T (positive r)
  pub lower : up (pred_ℤ (pred_ℤ K)) * den r ^ (2 ^ 24) < num r ^ (2 ^ 24) * down (pred_ℤ (pred_ℤ K))
  pub upper : num r ^ (2 ^ 24) * down K ≤ up K * den r ^ (2 ^ 24)

-- What other modules need of a power F: binary64 holds it, it has no minus sign, it is finite but for a NaN, which stays one, and it is
-- at most 1 for an exponent of at most 0.
pub record PowerLaws (F : Float → Float) : Type 0 where
  pub held : (x : Float) → T (fits binary64 (F x))
  pub no_minus : (x : Float) → T (plus (F x))
  pub is_finite : (x : Float) → T (not (is_nan x)) → T (finite (F x))
  pub at_nan : F nan ≡ nan
  pub at_most_one : (x : Float) → T (le x zero64) → T (le (F x) one64)
