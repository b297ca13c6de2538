-- What is promised of the significand, beside the contracts that give the steps. Definitions only.
use Rattle.std.specs.Prelude.{ℕ, ◌≡◌, true, ◌+◌, ◌*◌, ◌^◌, T, Float}
use Rattle.std.specs.Float.{binary64}
use Rattle.std.specs.Float.Ieee.{fits, lt}
use Rattle.std.specs.Float.Ieee.Scale.{finite}
use Rattle.float.specs.Arithmetic.{zero64}
use Rattle.float.specs.Units.{units_of}
use Rattle.logarithm.specs.Logarithm.{Digits31, significand_of, fraction_of, cut_of}

pub record SignificandLaws : Type 0 where
  -- of every finite f64 x above zero, whenever a squaring starts: with 31 digits 32 bits hold it
  pub digits : (x : Float) → T (fits binary64 x) → lt zero64 x ≡ true → T (finite x) → (i : ℕ) → Digits31 (significand_of i (cut_of (units_of x)))
  -- and of it come the bits after the first i
  pub bits_after : (i k m : ℕ) → fraction_of (i + k) m ≡ fraction_of i m * 2 ^ k + fraction_of k (significand_of i m)
