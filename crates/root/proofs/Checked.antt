-- The exact check of a guess at a square root, in halves of 26 and 27 digits.
use mathlib.Core.Path.{◌≡◌, refl, sym, ap, ◌∙◌, subst}
use mathlib.Core.Bool.{true, false, not, true≢false}
use Prim.Native.Nat.{ℕ, zero, suc, ◌+◌, ◌-◌, ◌*◌, ◌/◌, ◌^◌, ◌≤◌, ◌<◌}
use native.Mathlib.Nat.{mul-le-mul, zero-add}
use native.Mathlib.Omega.{arith}
use lib.Dec.{T}
use lib.Ieee.{Float, nan, inf, fin, binary64, lt, is_nan, nan_bits, of_bits}
use Rattle.float.proofs.Coded.{no-nan-coded}
use Rattle.root.specs.Steps.{Near}
use Rattle.root.proofs.Squares.{square-plus}

-- the square of a number in two halves
halves : (h l : ℕ) → (h * 2 ^ 26 + l) * (h * 2 ^ 26 + l) ≡ h * h * 2 ^ 52 + h * l * 2 ^ 27 + l * l
halves h l = omega arith

pub near_of : (a h l m f q : ℕ) → q ≡ h * 2 ^ 26 + l → 2 ^ 52 ≤ q → q ≤ 2 ^ 53 → m + h * h ≡ a → f + h * l ≡ m * 2 ^ 25 + 2 ^ 30
    → l * l + 2 ^ 57 < f * 2 ^ 27 + q → f * 2 ^ 27 ≤ l * l + 2 ^ 57 + q → Near a q
near_of a h l m f q e lo hi p x y z =
    let qq : q * q ≡ h * h * 2 ^ 52 + h * l * 2 ^ 27 + l * l = ap (λ (y : ℕ). y * y) e ∙ halves h l in
    let w = 2 * q - 1 in
    let v : w + 1 ≡ 2 * q = omega arith in
    record {
      least = lo;
      most = hi;
      low = omega (arith, qq, square-plus w, ap (λ (y : ℕ). y * y) v, p, x, y);
      high = omega (arith, qq, p, x, z);
    }

pub product_le : (x y n k : ℕ) → x ≤ n → y ≤ k → x * y ≤ n * k
product_le x y n k a b = mul-le-mul a b

pub never : {A : Type 0} → false ≡ true → A
never e = absurd (true≢false (sym e))

-- 54 digits or 53, with the last one dropped where there are 54
pub digits : (a : ℕ) → 2 ^ 52 ≤ a → a < 2 ^ 54 → (2 ^ 52 ≤ a / 2 ^ (a / 2 ^ 53)) × (a / 2 ^ (a / 2 ^ 53) ≤ 2 ^ 53)
digits a lo hi = go (a / 2 ^ 53) refl
  where
    go : (k : ℕ) → a / 2 ^ 53 ≡ k → (2 ^ 52 ≤ a / 2 ^ k) × (a / 2 ^ k ≤ 2 ^ 53)
    go zero e = (omega arith, omega arith)
    go (suc zero) e = (omega arith, omega arith)
    go (suc (suc k)) e = absurd (no k e)
      where
        no : (k : ℕ) → a / 2 ^ 53 ≡ suc (suc k) → ⊥
        no k e = omega arith

-- bits below those of a NaN
pub no-nan-bits : (b : ℕ) → b ≤ 2047 * 2 ^ 52 → T (not (nan_bits binary64 b))
no-nan-bits b h = subst (λ (x : ℕ). T (not (nan_bits binary64 x))) (zero-add b) (no-nan-coded binary64 false b h)

-- what is above zero is a number
pub above_zero : (x : Float) → lt (of_bits binary64 0) x ≡ true → T (not (is_nan x))
unfolding lt is_nan
above_zero nan h = absurd (no (of_bits binary64 0) h)
  where
    no : (y : Float) → lt y nan ≡ true → ⊥
    no nan h = true≢false (sym h)
    no (inf s) h = true≢false (sym h)
    no (fin s m e) h = true≢false (sym h)
above_zero (inf s) h = tt
above_zero (fin s m e) h = tt
