-- A finite f64 is a whole number of units of 2 ^ -1074, of which 53 digits count.
use Rattle.std.proofs.Common.{◌≡◌, ℕ, zero, suc, ◌+◌, ◌-◌, ◌*◌, ◌/◌, ◌^◌, ◌<◌, ◌≤◌, Bool, T, ℤ, sym, refl, ap, ◌∙◌, le_trans, le_of_eq, lt_of_lt_of_le, lt_of_le_of_lt, mul-le-mul_right, zero-lt-suc, mul_assoc, lt_of_mul-lt-mul_right, mul-lt-mul_of_pos_right, mul-pos, one-mul, le-div_iff_mul-le, zero-mul, mul_right_comm, mul-div_cancel, arith, eqb→eq, pow_pos, pow-add}
use native.Mathlib.Nat.{zero-div}
use lib.Ieee.{Float, nan, inf, fin, binary64, Format, low, up, down, size, fits}
use lib.Ieee.Digits.{Equals, size-le, size_reaches}
use lib.Ieee.Exact.{HasValue}
use lib.Ieee.Fits.{up_pos, down_pos, kept-lt}
use Rattle.float.specs.Units.{units_of}
use Rattle.float.proofs.Exact.{held, few, places, up-places}

-- what a number equals, in units
pub units_of_lem : (v : Float) (a : ℕ) → Equals v a (2 ^ 1074) → units_of v ≡ a
unfolding units_of
units_of_lem nan a h = absurd h
units_of_lem (inf s) a h = absurd h
units_of_lem (fin s m e) a h = ap (λ (x : ℕ). x / down e) h ∙ mul-div_cancel a (down_pos e)

-- no binary place below the last of the format
pub down_le : (f : Format) (s : Bool) (m : ℕ) (e : ℤ) → T (fits f (fin s m e)) → down e ≤ 2 ^ low f
unfolding fits
down_le f s zero e t =
    le_trans (le_trans (le_of_eq (sym (one-mul (down e)))) (mul-le-mul_right (down e) (up_pos e)))
    (le_trans (le_of_eq (eqb→eq (up e * down e) 1 t)) (pow_pos (low f)))
down_le f s (suc m) e t = (held f s m e t).1

-- the digits m, and as many zeros as the exponent says
pub units-at : (s : Bool) (m : ℕ) (e : ℤ) → T (fits binary64 (fin s m e)) → units_of (fin s m e) ≡ m * 2 ^ places binary64 e
unfolding units_of
units-at s m e t =
    let j = places binary64 e in
    ap (λ (x : ℕ). x / down e) (mul_assoc m (up e) (2 ^ 1074) ∙ ap (λ (x : ℕ). m * x) (up-places binary64 e (down_le binary64 s m e t)) ∙ sym (mul_assoc m (2 ^ j) (down e)))
    ∙ mul-div_cancel (m * 2 ^ j) (down_pos e)

pub units-value : (s : Bool) (m : ℕ) (e : ℤ) → T (fits binary64 (fin s m e)) → HasValue (fin s m e) s (units_of (fin s m e)) (2 ^ 1074)
units-value s m e t =
    let j = places binary64 e in
    (refl, mul_assoc m (up e) (2 ^ 1074) ∙ ap (λ (x : ℕ). m * x) (up-places binary64 e (down_le binary64 s m e t)) ∙ sym (mul_assoc m (2 ^ j) (down e)) ∙ ap (λ (x : ℕ). x * down e) (sym (units-at s m e t)))

pub units-pos : (s : Bool) (m : ℕ) (e : ℤ) → T (fits binary64 (fin s (suc m) e)) → 0 < units_of (fin s (suc m) e)
units-pos s m e t = lt_of_lt_of_le (mul-pos (zero-lt-suc m) (pow_pos (places binary64 e))) (le_of_eq (sym (units-at s (suc m) e t)))

pub units-zero : (s : Bool) (e : ℤ) → units_of (fin s 0 e) ≡ 0
unfolding units_of
units-zero s e = ap (λ (x : ℕ). x / down e) (ap (λ (x : ℕ). x * 2 ^ 1074) (zero-mul (up e)) ∙ zero-mul (2 ^ 1074)) ∙ zero-div (down e)

-- below 2 ^ 1024
pub units_lt : (s : Bool) (m : ℕ) (e : ℤ) → T (fits binary64 (fin s m e)) → units_of (fin s m e) < 2 ^ 2098
units_lt s zero e t = lt_of_le_of_lt (le_of_eq (units-zero s e)) (pow_pos 2098)
units_lt s (suc m) e t =
    lt_of_mul-lt-mul_right (down e)
    (lt_of_le_of_lt (le_of_eq (sym (units-value s (suc m) e t).1))
    (lt_of_lt_of_le (mul-lt-mul_of_pos_right (held binary64 s m e t).2 (pow_pos 1074))
    (le_of_eq (mul_right_comm (2 ^ 1024) (down e) (2 ^ 1074) ∙ ap (λ (x : ℕ). x * down e) (sym (pow-add 2 1024 1074))))))

-- ---- 53 digits

-- n units with 53 digits that count: q * 2 ^ k
pub record Split (n q k : ℕ) : Type 0 where
  pub whole : q * 2 ^ k ≡ n
  pub short : q < 2 ^ 53
  pub range : k < 2046
  pub normal : 0 < k → 2 ^ 52 ≤ q

leading : (n : ℕ) → 0 < size n - 53 → 2 ^ 52 ≤ n / 2 ^ (size n - 53)
leading n p =
    let k = size n - 53 in
    (le-div_iff_mul-le (pow_pos k)).1 (le_trans (le_of_eq (sym (pow-add 2 52 k))) (size_reaches n (52 + k) (reach (size n) p)))
  where
    reach : (z : ℕ) → 0 < z - 53 → 52 + (z - 53) < z
    reach z h = omega arith

pub split : (s : Bool) (m : ℕ) (e : ℤ) → T (fits binary64 (fin s m e)) → Split (units_of (fin s m e)) (units_of (fin s m e) / 2 ^ (size (units_of (fin s m e)) - 53)) (size (units_of (fin s m e)) - 53)
split s m e t = record { whole = whole; short = kept-lt 53 n; range = few-digits (size n) (size-le n 2098 (units_lt s m e t)); normal = leading n }
  where
    n : ℕ
    n = units_of (fin s m e)

    j : ℕ
    j = places binary64 e

    k : ℕ
    k = size n - 53

    few-digits : (z : ℕ) → z ≤ 2098 → z - 53 < 2046
    few-digits z h = omega arith

    less : (z j : ℕ) → z ≤ 53 + j → j ≡ j - (z - 53) + (z - 53)
    less z j h = omega arith

    short : n < 2 ^ (53 + j)
    short = lt_of_le_of_lt (le_of_eq (units-at s m e t)) (lt_of_lt_of_le (mul-lt-mul_of_pos_right (few binary64 s m e t) (pow_pos j)) (le_of_eq (sym (pow-add 2 53 j))))

    again : n ≡ m * 2 ^ (j - k) * 2 ^ k
    again = units-at s m e t ∙ ap (λ (x : ℕ). m * 2 ^ x) (less (size n) j (size-le n (53 + j) short)) ∙ ap (λ (x : ℕ). m * x) (pow-add 2 (j - k) k) ∙ sym (mul_assoc m (2 ^ (j - k)) (2 ^ k))

    whole : n / 2 ^ k * 2 ^ k ≡ n
    whole = ap (λ (x : ℕ). x / 2 ^ k * 2 ^ k) again ∙ ap (λ (x : ℕ). x * 2 ^ k) (mul-div_cancel (m * 2 ^ (j - k)) (pow_pos k)) ∙ sym again
