-- z / 2 ^ k as an f64: how `quotient` comes to it, and that nothing is lost.
use mathlib.Core.Path.{◌≡◌, refl, sym, ap, ◌∙◌}
use mathlib.Core.Bool.{Bool, true, false, not, cond}
use Prim.Native.Nat.{ℕ, suc, ◌+◌, ◌-◌, ◌*◌, ◌^◌, ◌≤◌, ◌<◌}
use native.Mathlib.Nat.{mul_assoc, mul_comm, one-mul, mul-pos, lt_of_lt_of_le, le_of_eq, le_trans, mul-lt-mul_of_pos_right}
use native.Mathlib.Omega.{arith}
use lib.Dec.{T, leb, nleb→lt}
use lib.IntN.{ℤ, pos, negsuc, nat_abs}
use lib.Pow.{pow-add, pow_pos, pow_mono}
use borrow.Author.Tests.{le-leb, lt-leb}
use lib.Ieee.{Float, nan, inf, fin, binary64, unlike, up, down, minus, round, div, of_int}
use lib.Ieee.Back.{round_whole}
use lib.Ieee.Digits.{back}
use lib.Ieee.Exact.{HasValue, round_exact}
use lib.Ieee.Fits.{down_pos}
use lib.Ieee.Scale.{round_same}
use Rattle.logarithm.specs.Logarithm.{negative, quotient_of}

-- ---- a - l

pub minus-high : (a l : ℕ) → l ≤ a → minus a l ≡ pos (a - l)
minus-high a l h = ap (λ (b : Bool). cond b (pos (a - l)) (negsuc (l - suc a))) (le-leb l a h)

pub minus-low : (a l : ℕ) → a < l → (negative (minus a l) ≡ true) × (nat_abs (minus a l) ≡ l - a)
minus-low a l h =
    let e : minus a l ≡ negsuc (l - suc a) = ap (λ (b : Bool). cond b (pos (a - l)) (negsuc (l - suc a))) (lt-leb l a h) in
    (ap negative e, ap nat_abs e ∙ less a l h)
  where
    less : (a l : ℕ) → a < l → suc (l - suc a) ≡ l - a
    less a l h = omega arith

pub minus-small : (a l : ℕ) → a ≤ l + l → nat_abs (minus a l) ≤ l
minus-small a l h = go (leb l a) (nleb→lt l a)
  where
    high : (a l : ℕ) → a ≤ l + l → a - l ≤ l
    high a l h = omega arith

    low : (a l : ℕ) → a < l → suc (l - suc a) ≤ l
    low a l h = omega arith

    go : (b : Bool) → (T (not b) → a < l) → nat_abs (cond b (pos (a - l)) (negsuc (l - suc a))) ≤ l
    go true k = high a l h
    go false k = low a l (k tt)

-- ---- a whole number, divided by 2 ^ k with the sign of z

by-power : (x : Float) (s : Bool) (n k : ℕ) → HasValue x false n 1 → div binary64 x (fin s 1 (pos k)) ≡ round binary64 s n (2 ^ k)
unfolding div
by-power nan s n k h = absurd h
by-power (inf u) s n k h = absurd h
by-power (fin u m e) s n k h =
    ap (λ (b : Bool). round binary64 (unlike b s) (m * up e * 1) (1 * 2 ^ k * down e)) h.0
    ∙ ap (λ (b : Bool). round binary64 b (m * up e * 1) (1 * 2 ^ k * down e)) (same s)
    ∙ round_same binary64 s (m * up e * 1) (1 * 2 ^ k * down e) n (2 ^ k) (mul-pos (mul-pos (pow_pos 0) (pow_pos k)) (down_pos e)) (pow_pos k)
    (ap (λ (y : ℕ). y * 2 ^ k) h.1 ∙ mul_assoc n (down e) (2 ^ k) ∙ ap (λ (y : ℕ). n * y) (mul_comm (down e) (2 ^ k) ∙ ap (λ (y : ℕ). y * down e) (sym (one-mul (2 ^ k)))))
  where
    same : (s : Bool) → unlike false s ≡ s
    same true = refl
    same false = refl

pub divided : (k n : ℕ) (z : ℤ) (y : Float) → n ≤ 2 ^ 53 → y ≡ fin (negative z) 1 (pos k) → nat_abs z ≡ n → div binary64 (of_int binary64 (pos n)) y ≡ quotient_of k z
unfolding of_int quotient_of
divided k n z y h e f =
    ap (div binary64 (round binary64 false n 1)) e
    ∙ by-power (round binary64 false n 1) (negative z) n k (round_whole binary64 false n h)
    ∙ ap (λ (x : ℕ). round binary64 (negative z) x (2 ^ k)) (sym f)

-- ---- the value

pub quotient-value : (k : ℕ) (z : ℤ) → k ≤ 1074 → nat_abs z < 2 ^ 53 → HasValue (quotient_of k z) (negative z) (nat_abs z) (2 ^ k)
unfolding quotient_of
quotient-value k z l h =
    round_exact binary64 (negative z) (nat_abs z) (2 ^ k) (nat_abs z) (1074 - k) (pow_pos k) h
    (lt_of_lt_of_le (mul-lt-mul_of_pos_right h (pow_pos (1074 - k))) (le_trans (le_of_eq (sym (pow-add 2 53 (1074 - k)))) (pow_mono (room k))))
    (ap (λ (x : ℕ). nat_abs z * 2 ^ x) (sym (back 1074 k l)) ∙ ap (λ (x : ℕ). nat_abs z * x) (pow-add 2 (1074 - k) k) ∙ sym (mul_assoc (nat_abs z) (2 ^ (1074 - k)) (2 ^ k)))
  where
    room : (k : ℕ) → 53 + (1074 - k) ≤ 2098
    room k = omega arith
