-- What the specification asks to be proved of its stand-ins, beside the contracts that give their steps.
use Rattle.std.specs.Prelude.{◌≡◌, true, ◌^◌, T, nat_abs, Float}
use Rattle.std.specs.Float.{binary64}
use Rattle.std.specs.Float.Ieee.{fits, lt, le, neg}
use Rattle.std.specs.Float.Ieee.Exact.{HasValue}
use Rattle.std.specs.Float.Ieee.Positive.{positive, num, den}
use Rattle.std.specs.Float.Ieee.Scale.{finite}
use Rattle.float.specs.Whole.{round_of, Rounded}
use Rattle.float.specs.Arithmetic.{zero64}
use Rattle.float.specs.Valid.{Num, plus}
use Rattle.logarithm.specs.Logarithm.{steps, negative, log_of, log2_of, Within}
use Rattle.power.specs.Power.{thousand, floor_of, exp2_of, exp_of, exp10_of, exp60_of}
use Rattle.power.specs.Roots.{chain, roots}
use Rattle.power.specs.Bounds.{PowerBounds, PowerLaws}
use Rattle.root.specs.Root.{sqrt_of}
use Rattle.root.specs.Nearest.{NearestRoot}

pub record StandIns : Type 0 where
  -- 2 ^ N ≤ x ^ (2 ^ 24) < 2 ^ (N + 2), and log2 of x is N / 2 ^ 24, for every finite f64 x above zero
  pub logarithm_bounds : (x : Float) → T (fits binary64 x) → lt zero64 x ≡ true → T (finite x) → Within (2 ^ steps) (num x) (den x) (log_of steps x)
  pub logarithm_value : (x : Float) → T (fits binary64 x) → lt zero64 x ≡ true → T (finite x)
      → HasValue (log2_of x) (negative (log_of steps x)) (nat_abs (log_of steps x)) (2 ^ steps)
  -- r0 = 2 ^ 31, and each of the 24 roots is floor(root of the one before * 2 ^ 30)
  pub roots_rule : T (chain (2 ^ 31) roots)
  -- 2 ^ (K - 2) < (2 ^ y) ^ (2 ^ 24) ≤ 2 ^ K for a y from -1,000 to 1,000 and K = floor(y * 2 ^ 24)
  pub power_bounds : (y : Float) → T (le (neg thousand) y) → T (le y thousand) → PowerBounds (exp2_of y) (floor_of y)
  -- a power has no minus sign, is finite but for a NaN, which stays one, and is at most 1 for an exponent of at most 0
  pub power_laws : PowerLaws exp2_of
  pub exp_laws : PowerLaws exp_of
  pub exp10_laws : PowerLaws exp10_of
  pub exp60_laws : PowerLaws exp60_of
  -- the root of a finite f64 above zero is the f64 nearest to it, and nothing else is
  pub root_nearest : (x : Float) → T (fits binary64 x) → T (positive x) → NearestRoot x (sqrt_of x)
  pub root_only : (x y : Float) → T (fits binary64 x) → T (positive x) → Num binary64 y → T (plus y) → NearestRoot x y → y ≡ sqrt_of x
  -- `round` gives the whole number nearest to x, of two the one away from zero; the sign stays, and so do an infinity and a NaN
  pub round_nearest : (x : Float) → T (fits binary64 x) → Rounded x (round_of binary64 x)
