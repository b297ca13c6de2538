-- What other modules need of 2 ^ y: binary64 holds it, it is finite but for a NaN, has no minus sign, and is at most 1 for a y of at most 0.
use mathlib.Core.Path.{◌≡◌, refl, sym, ap, subst}
use mathlib.Core.Bool.{Bool, true, false, not, ◌||◌, cond}
use Prim.Native.Nat.{ℕ, zero, suc, ◌+◌, ◌-◌, ◌*◌, ◌/◌, ◌^◌, ◌≤◌, ◌<◌}
use native.Mathlib.Nat.{le_trans, le_of_eq, lt_of_not-le, not-le_of_lt, mul-one, one-mul, mul-pos, zero-mul, zero-lt-suc, pow-lt-pow_left}
use native.Mathlib.Decide.{dec_le}
use native.Mathlib.Omega.{arith}
use lib.Dec.{T, ltb, eqb, lit≤, eqb→eq}
use lib.IntN.{ℤ}
use lib.Pow.{pow_pos, pow_mono}
use borrow.Author.Tests.{le-ltb}
use lib.Ieee.{Float, nan, inf, fin, binary64, up, down, lt, eq, le, neg, is_nan, fits, of_bits}
use lib.Ieee.Exact.{HasValue}
use lib.Ieee.Fits.{up_pos, nan-fits, round-fits}
use lib.Ieee.Order.{le_of_values}
use lib.Ieee.Positive.{positive_of_value, positive-finite}
use lib.Ieee.Scale.{finite}
use Rattle.float.specs.Valid.{plus}
use Rattle.float.specs.Units.{units_of}
use Rattle.float.specs.Choice.{min_of}
use Rattle.float.specs.Arithmetic.{zero64, one64}
use Rattle.float.proofs.Powers.{pow_mul}
use Rattle.float.proofs.Plus.{round-plus}
use Rattle.float.proofs.Units.{units-zero}
use Rattle.power.specs.Power.{floor_units, floor_of, above, pow_units, pow_at, thousand, exp2_of}
use Rattle.power.specs.Bounds.{PowerLaws}
use Rattle.power.proofs.Floors.{above-minus, above-le}
use Rattle.power.proofs.Cases.{exp2-nan, exp2-below, exp2-from, min-units}
use Rattle.power.proofs.Bounds.{units-bounds, units-pos, power-exact, order}

-- ---- 2 ^ y

-- what holds of a NaN, of 0 and of each power holds of 2 ^ y
by_cases : (P : Float → Type 0) → P nan → P zero64 → ((k : ℕ) → P (pow_at k)) → (y : Float) → P (exp2_of y)
unfolding exp2_of
by_cases P n z p y = pick (is_nan y) nan (cond (lt y (neg thousand)) zero64 r) n (pick (lt y (neg thousand)) zero64 r z (p (above (floor_of (min_of y thousand)))))
  where
    r : Float
    r = pow_at (above (floor_of (min_of y thousand)))

    pick : (b : Bool) (v w : Float) → P v → P w → P (cond b v w)
    pick true v w p q = p
    pick false v w p q = q

power-fits : (k : ℕ) → T (fits binary64 (pow_at k))
unfolding pow_at
power-fits k = round-fits binary64 false (pow_units k) (2 ^ 1030)

power-plus : (k : ℕ) → T (plus (pow_at k))
unfolding pow_at
power-plus k = round-plus binary64 (pow_units k) (2 ^ 1030)

zero-fits : T (fits binary64 zero64)
unfolding of_bits fits
zero-fits = tt

zero-plus : T (plus zero64)
unfolding of_bits
zero-plus = tt

pub exp2-fits : (y : Float) → T (fits binary64 (exp2_of y))
exp2-fits = by_cases (λ (v : Float). T (fits binary64 v)) (nan-fits binary64) zero-fits power-fits

pub exp2-plus : (y : Float) → T (plus (exp2_of y))
exp2-plus = by_cases (λ (v : Float). T (plus v)) tt zero-plus power-plus

-- below -1,000, or from there on with K + 1000 * 2 ^ 24 up to 2000 * 2 ^ 24
zero-finite : T (finite zero64)
unfolding of_bits
zero-finite = tt

floor-le : (v : Float) → units_of v ≤ 1000 * 2 ^ 1074 → above (floor_of v) ≤ 2000 * 2 ^ 24
unfolding floor_of
floor-le nan l = lit≤ tt
floor-le (inf s) l = lit≤ tt
floor-le (fin s m e) l = above-le s (units_of (fin s m e)) l

pub exp2-finite : (y : Float) → T (not (is_nan y)) → T (finite (exp2_of y))
exp2-finite y n = go (lt y (neg thousand)) refl
  where
    go : (b : Bool) → lt y (neg thousand) ≡ b → T (finite (exp2_of y))
    go true h = subst (λ (v : Float). T (finite v)) (exp2-below y h) zero-finite
    go false h =
        let k = above (floor_of (min_of y thousand)) in
        subst (λ (v : Float). T (finite v)) (exp2-from y n h)
        (positive-finite (pow_at k) (positive_of_value (pow_at k) (pow_units k) (2 ^ 1030) (power-exact k (floor-le (min_of y thousand) (min-units y h))) (units-pos k)))

-- ---- at most 1

-- n ^ q up to 2 ^ (30 * q + k), where k is 1000 * q at most
root-le : (n q k : ℕ) → 0 < q → n ^ q ≤ 2 ^ (30 * q + k) → k ≤ 1000 * q → n ≤ 2 ^ 1030
root-le n q k p h l = elim (dec_le n (2 ^ 1030)) [
  | yes g ↦ g
  | no g ↦ absurd (not-le_of_lt (pow-lt-pow_left (lt_of_not-le g) (apart q p)) (le_trans h (le_trans (pow_mono (sum q k l)) (le_of_eq (pow_mul 2 1030 q)))))
]
  where
    apart : (q : ℕ) → 0 < q → q ≡ 0 → ⊥
    apart q p e = omega arith

    sum : (q k : ℕ) → k ≤ 1000 * q → 30 * q + k ≤ 1030 * q
    sum q k l = omega arith

one_value : HasValue one64 false 1 1
unfolding of_bits
one_value = (refl, refl)

power-le-one : (k : ℕ) → k ≤ 1000 * 2 ^ 24 → T (le (pow_at k) one64)
power-le-one k h =
    le_of_values (pow_at k) one64 (pow_units k) (2 ^ 1030) 1 1 (pow_pos 1030) (pow_pos 0) (power-exact k (le_trans h (lit≤ tt))) one_value
    (le_trans (le_of_eq (mul-one (pow_units k))) (le_trans (root-le (pow_units k) (2 ^ 24) k (pow_pos 24) (units-bounds k).0 h) (le_of_eq (sym (one-mul (2 ^ 1030))))))

-- a finite value of at most 0 has a minus sign, or is 0
pub no_size : (m : ℕ) (e : ℤ) → T (le (fin false m e) zero64) → m ≡ 0
unfolding le lt eq of_bits
no_size zero e t = refl
no_size (suc m) e t =
    let x = suc m * up e * 1 in
    let z = 0 * down e in
    absurd (none x z (mul-pos (mul-pos (zero-lt-suc m) (up_pos e)) (pow_pos 0)) (zero-mul (down e)) (order x z (eqb x z) (true || eqb x 0) (eqb→eq x z) t))
  where
    none : (x z : ℕ) → 0 < x → z ≡ 0 → x ≤ z → ⊥
    none x z p e l = omega arith

zero-floor : (e : ℤ) → above (floor_of (fin false 0 e)) ≤ 1000 * 2 ^ 24
unfolding floor_of floor_units
zero-floor e = le_of_eq (ap (λ (u : ℕ). 1000 * 2 ^ 24 + u * 2 ^ 24 / 2 ^ 1074) (units-zero false e))

minus-floor : (m : ℕ) (e : ℤ) → above (floor_of (fin true m e)) ≤ 1000 * 2 ^ 24
unfolding floor_of floor_units
minus-floor m e = let c = (units_of (fin true m e) * 2 ^ 24 + (2 ^ 1074 - 1)) / 2 ^ 1074 in le_trans (le_of_eq (above-minus c)) (less (1000 * 2 ^ 24) c)
  where
    less : (l c : ℕ) → l - c ≤ l
    less l c = omega arith

infinite-floor : (s : Bool) → above (floor_of (inf s)) ≤ 1000 * 2 ^ 24
unfolding floor_of
infinite-floor s = lit≤ tt

floor-le-zero : (y : Float) → T (le y zero64) → above (floor_of (min_of y thousand)) ≤ 1000 * 2 ^ 24
unfolding le lt eq min_of of_bits
floor-le-zero nan a = absurd a
floor-le-zero (inf true) a = infinite-floor true
floor-le-zero (inf false) a = absurd a
floor-le-zero (fin true m e) a = minus-floor m e
floor-le-zero (fin false m e) a =
    subst (λ (m : ℕ). above (floor_of (cond (ltb (1000 * down e) (m * up e * 1)) thousand (fin false m e))) ≤ 1000 * 2 ^ 24) (sym (no_size m e a))
    (subst (λ (b : Bool). above (floor_of (cond b thousand (fin false 0 e))) ≤ 1000 * 2 ^ 24) (sym (le-ltb (1000 * down e) (0 * up e * 1) (none (up e) (down e)))) (zero-floor e))
  where
    none : (u d : ℕ) → 0 * u * 1 ≤ 1000 * d
    none u d = omega arith

number-le : (y : Float) → T (le y zero64) → T (not (is_nan y))
unfolding le lt eq is_nan
number-le nan a = absurd a
number-le (inf s) a = tt
number-le (fin s m e) a = tt

zero-le-one : T (le zero64 one64)
unfolding le lt eq of_bits
zero-le-one = tt

pub exp2-at-most-one : (y : Float) → T (le y zero64) → T (le (exp2_of y) one64)
exp2-at-most-one y a = go (lt y (neg thousand)) refl
  where
    go : (b : Bool) → lt y (neg thousand) ≡ b → T (le (exp2_of y) one64)
    go true h = subst (λ (v : Float). T (le v one64)) (exp2-below y h) zero-le-one
    go false h = subst (λ (v : Float). T (le v one64)) (exp2-from y (number-le y a) h) (power-le-one (above (floor_of (min_of y thousand))) (floor-le-zero y a))

pub exp2-laws : PowerLaws exp2_of
exp2-laws = record { held = exp2-fits; no_minus = exp2-plus; is_finite = exp2-finite; at_nan = exp2-nan; at_most_one = exp2-at-most-one }
