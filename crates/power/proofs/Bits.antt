-- The result's bits: m * 2 ^ (n - 30) has the digits m * 2 ^ 22 at the place n + 22 of the smallest f64, n counted from -1000.
use mathlib.Core.Path.{◌≡◌, refl, sym, ap, ◌∙◌, subst}
use mathlib.Core.Bool.{Bool, false, not}
use Prim.Native.Nat.{ℕ, suc, ◌+◌, ◌*◌, ◌/◌, ◌%◌, ◌^◌, ◌≤◌, ◌<◌, min}
use native.Mathlib.Nat.{le_trans, le_of_eq, le_of_lt, lt_of_lt_of_le, mul_assoc, mul-lt-mul_of_pos_right, zero-add}
use native.Mathlib.Omega.{arith}
use lib.Dec.{T}
use lib.Pow.{pow-add, pow_pos, pow_mono}
use lib.Ieee.{Format, binary64, prec, emax, low, units, round, of_bits, nan_bits}
use lib.Ieee.Exact.{round_exact, units_val}
use lib.Ieee.Fits.{round-fits}
use lib.Ieee.Scale.{round_same}
use Rattle.float.proofs.Coded.{read-coded, no-nan-coded, units-fits}
use Rattle.float.proofs.Exact.{unique}
use Rattle.power.specs.Roots.{roots}
use Rattle.power.specs.Power.{raise, pow_units, pow_at}

-- q * 2 ^ k smallest values of the format, for a q that it holds, are rounded to themselves
pub units-round : (f : Format) (s : Bool) (q k : ℕ) → q < 2 ^ prec f → q * 2 ^ k < 2 ^ (low f + suc (emax f)) → units f s q k ≡ round f s (q * 2 ^ k) (2 ^ low f)
units-round f s q k h l =
    unique f (units f s q k) (round f s (q * 2 ^ k) (2 ^ low f)) s (q * 2 ^ k) (2 ^ low f) (pow_pos (low f)) (units-fits f s q k (le_of_lt h)) (round-fits f s (q * 2 ^ k) (2 ^ low f))
    (units_val f s q k l) (round_exact f s (q * 2 ^ k) (2 ^ low f) q k (pow_pos (low f)) h l refl)

-- the same value by the fraction m * 2 ^ n / 2 ^ c
same-value : (m a b n c d : ℕ) → a + b + c ≡ d → m * 2 ^ a * 2 ^ (n + b) * 2 ^ c ≡ m * 2 ^ n * 2 ^ d
same-value m a b n c d e =
    ap (λ (x : ℕ). x * 2 ^ c) (mul_assoc m (2 ^ a) (2 ^ (n + b)) ∙ ap (λ (x : ℕ). m * x) (sym (pow-add 2 a (n + b))))
    ∙ mul_assoc m (2 ^ (a + (n + b))) (2 ^ c)
    ∙ ap (λ (x : ℕ). m * x) (sym (pow-add 2 (a + (n + b)) c) ∙ ap (λ (x : ℕ). 2 ^ x) (sum a b n c d e) ∙ pow-add 2 n d)
    ∙ sym (mul_assoc m (2 ^ n) (2 ^ d))
  where
    sum : (a b n c d : ℕ) → a + b + c ≡ d → a + (n + b) + c ≡ n + d
    sum a b n c d e = omega arith

module _ (m n : ℕ) (lo : 2 ^ 30 ≤ m) (hi : m < 2 ^ 31) (few : n ≤ 2000) where
  pattern : (n + 22) * 2 ^ 52 + m * 2 ^ 22 ≡ 0 + min ((n + 22) * 2 ^ 52 + m * 2 ^ 22) (2047 * 2 ^ 52)
  pattern = omega arith

  in_range : m * 2 ^ 22 * 2 ^ (n + 22) < 2 ^ 2098
  in_range =
      let h : m * 2 ^ 22 < 2 ^ 53 = omega arith in
      lt_of_lt_of_le (mul-lt-mul_of_pos_right h (pow_pos (n + 22))) (le_trans (le_of_eq (sym (pow-add 2 53 (n + 22)))) (pow_mono (reach n few)))
    where
      reach : (n : ℕ) → n ≤ 2000 → 53 + (n + 22) ≤ 2098
      reach n h = omega arith

  pub no-nan-bits : T (not (nan_bits binary64 ((n + 22) * 2 ^ 52 + m * 2 ^ 22)))
  no-nan-bits = let b = (n + 22) * 2 ^ 52 + m * 2 ^ 22 in subst (λ (x : ℕ). T (not (nan_bits binary64 x))) (zero-add b) (no-nan-coded binary64 false b (omega arith))

  pub read_bits : of_bits binary64 ((n + 22) * 2 ^ 52 + m * 2 ^ 22) ≡ round binary64 false (m * 2 ^ n) (2 ^ 1030)
  read_bits =
      ap (of_bits binary64) pattern
      ∙ read-coded binary64 false (m * 2 ^ 22) (n + 22) (omega arith) (λ g. omega arith)
      ∙ units-round binary64 false (m * 2 ^ 22) (n + 22) (omega arith) in_range
      ∙ round_same binary64 false (m * 2 ^ 22 * 2 ^ (n + 22)) (2 ^ 1074) (m * 2 ^ n) (2 ^ 1030) (pow_pos 1074) (pow_pos 1030) (same-value m 22 22 n 1030 1074 refl)

pub power-is : (k m : ℕ) → m ≡ raise roots (k % 2 ^ 24) (2 ^ 30) → round binary64 false (m * 2 ^ (k / 2 ^ 24)) (2 ^ 1030) ≡ pow_at k
unfolding pow_at pow_units
power-is k m e = ap (λ (x : ℕ). round binary64 false (x * 2 ^ (k / 2 ^ 24)) (2 ^ 1030)) e
