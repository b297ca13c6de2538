-- floor (y * 2 ^ 24) of a y of a * 2 ^ e units of 2 ^ -1074 by a shift of a, and how large it is.
use mathlib.Core.Path.{◌≡◌, refl, sym, ap, ◌∙◌}
use mathlib.Core.Bool.{Bool, true, false}
use Prim.Native.Nat.{ℕ, zero, suc, ◌+◌, ◌-◌, ◌*◌, ◌/◌, ◌^◌, ◌≤◌, ◌<◌}
use native.Mathlib.Nat.{le_trans, le_of_eq, lt_of_lt_of_le, lt_of_not-le, not-le_of_lt, mul_assoc, mul-pos, mul_right_comm, suc-mul, zero-mul, div-div-eq-div-mul, add-div_right, div-eq_of_lt, div-lt_iff_lt-mul, le_of_suc-le-suc, mul-le-mul, mul-le-mul_right}
use native.Mathlib.Decide.{dec_le}
use native.Mathlib.Omega.{arith}
use lib.Arith.{digits_div}
use lib.Dec.{lit<}
use lib.IntN.{pos, neg_ℤ}
use lib.Pow.{pow-add, pow_pos, pow_mono}
use lib.Ieee.Nearest.{div_same, div_mono}
use Rattle.power.specs.Power.{floor_units, above}

-- ---- a * 2 ^ e * 2 ^ t / 2 ^ (w + t), cut down and up to a whole number

-- the digits stay where they are: 2 ^ e * 2 ^ t is 2 ^ (w + t) less w - e places
joined : (w t e : ℕ) → e ≤ w → 2 ^ e * 2 ^ t * 2 ^ (w - e) ≡ 2 ^ (w + t)
joined w t e h = ap (λ (x : ℕ). x * 2 ^ (w - e)) (sym (pow-add 2 e t)) ∙ sym (pow-add 2 (e + t) (w - e)) ∙ ap (λ (x : ℕ). 2 ^ x) (sum w t e h)
  where
    sum : (w t e : ℕ) → e ≤ w → e + t + (w - e) ≡ w + t
    sum w t e h = omega arith

down-at : (w t a e : ℕ) → e ≤ w → a * 2 ^ e * 2 ^ t / 2 ^ (w + t) ≡ a / 2 ^ (w - e)
down-at w t a e h =
    div_same (a * 2 ^ e * 2 ^ t) (2 ^ (w + t)) a (2 ^ (w - e)) (pow_pos (w + t)) (pow_pos (w - e))
    (ap (λ (x : ℕ). x * 2 ^ (w - e)) (mul_assoc a (2 ^ e) (2 ^ t)) ∙ mul_assoc a (2 ^ e * 2 ^ t) (2 ^ (w - e)) ∙ ap (λ (x : ℕ). a * x) (joined w t e h))

up-core : (b p s : ℕ) → 0 < p → 0 < s → (suc b * p + (p * s - 1)) / (p * s) ≡ b / s + 1
up-core b p s hp hs =
    ap (λ (x : ℕ). x / (p * s)) (regroup b p (p * s) (b * p) (suc b * p) hp (mul-pos hp hs) (suc-mul b p))
    ∙ add-div_right (b * p + (p - 1)) (mul-pos hp hs)
    ∙ ap (λ (x : ℕ). x + 1) (sym (div-div-eq-div-mul (b * p + (p - 1)) p s) ∙ ap (λ (x : ℕ). x / s) (digits_div b (less p hp)))
  where
    regroup : (b p t bp sp : ℕ) → 0 < p → 0 < t → sp ≡ bp + p → sp + (t - 1) ≡ bp + (p - 1) + t
    regroup b p t bp sp hp ht e = omega arith

    less : (p : ℕ) → 0 < p → p - 1 < p
    less p h = omega arith

up_at : (w t a e : ℕ) → e ≤ w → 0 < a → (a * 2 ^ e * 2 ^ t + (2 ^ (w + t) - 1)) / 2 ^ (w + t) ≡ (a - 1) / 2 ^ (w - e) + 1
up_at w t zero e h p = omega arith
up_at w t (suc b) e h p =
    let r = 2 ^ e * 2 ^ t in
    ap (λ (x : ℕ). (suc b * 2 ^ e * 2 ^ t + (x - 1)) / x) (sym (joined w t e h))
    ∙ ap (λ (x : ℕ). (x + (r * 2 ^ (w - e) - 1)) / (r * 2 ^ (w - e))) (mul_assoc (suc b) (2 ^ e) (2 ^ t))
    ∙ up-core b r (2 ^ (w - e)) (mul-pos (pow_pos e) (pow_pos t)) (pow_pos (w - e))
    ∙ ap (λ (x : ℕ). x / 2 ^ (w - e) + 1) (less b)
  where
    less : (b : ℕ) → b ≡ suc b - 1
    less b = omega arith

up-zero : (x p : ℕ) → x ≡ 0 → 0 < p → (x + (p - 1)) / p ≡ 0
up-zero x p e h = div-eq_of_lt (small p x e h)
  where
    small : (p x : ℕ) → x ≡ 0 → 0 < p → x + (p - 1) < p
    small p x e h = omega arith

-- 53 digits, all shifted out
pub none_left : (a s : ℕ) → a < 2 ^ 53 → 53 ≤ s → 0 ≡ a / 2 ^ s
none_left a s h l = sym (div-eq_of_lt (lt_of_lt_of_le h (pow_mono l)))

-- ---- K + 1000 * 2 ^ 24

pub above-minus : (u : ℕ) → above (neg_ℤ (pos u)) ≡ 1000 * 2 ^ 24 - u
above-minus zero = refl
above-minus (suc u) = refl

pub floor-plus : (a e : ℕ) → e ≤ 1050 → 1000 * 2 ^ 24 + a / 2 ^ (1050 - e) ≡ above (floor_units false (a * 2 ^ e))
unfolding floor_units
floor-plus a e h = ap (λ (x : ℕ). 1000 * 2 ^ 24 + x) (sym (down-at 1050 24 a e h))

pub floor-minus : (a e : ℕ) → e ≤ 1050 → 0 < a → 1000 * 2 ^ 24 - ((a - 1) / 2 ^ (1050 - e) + 1) ≡ above (floor_units true (a * 2 ^ e))
unfolding floor_units
floor-minus a e h p = sym (above-minus ((a * 2 ^ e * 2 ^ 24 + (2 ^ 1074 - 1)) / 2 ^ 1074) ∙ ap (λ (x : ℕ). 1000 * 2 ^ 24 - x) (up_at 1050 24 a e h p))

pub floor-zero : (a e : ℕ) → a ≡ 0 → 1000 * 2 ^ 24 ≡ above (floor_units true (a * 2 ^ e))
unfolding floor_units
floor-zero a e h =
    sym (above-minus ((a * 2 ^ e * 2 ^ 24 + (2 ^ 1074 - 1)) / 2 ^ 1074)
    ∙ ap (λ (x : ℕ). 1000 * 2 ^ 24 - x) (up-zero (a * 2 ^ e * 2 ^ 24) (2 ^ 1074) (ap (λ (x : ℕ). x * 2 ^ e * 2 ^ 24) h ∙ ap (λ (x : ℕ). x * 2 ^ 24) (zero-mul (2 ^ e)) ∙ zero-mul (2 ^ 24)) (pow_pos 1074)))

-- ---- up to 1,000 in size

ceil_le : (x t p c : ℕ) → 0 < p → x ≤ c * p → (x * t + (p - 1)) / p ≤ c * t
ceil_le x t p c P h =
    le_of_suc-le-suc
    ((div-lt_iff_lt-mul P).1 (sum p (x * t) (c * t * p) (suc (c * t) * p) P (suc-mul (c * t) p) (le_trans (mul-le-mul_right t h) (le_of_eq (mul_right_comm c p t)))))
  where
    sum : (p a b d : ℕ) → 0 < p → d ≡ b + p → a ≤ b → a + (p - 1) < d
    sum p a b d P e h = omega arith

floor-le : (x t p c : ℕ) → 0 < p → x ≤ c * p → x * t / p ≤ c * t
floor-le x t p c P h = le_trans (div_mono (x * t) p (x * t + (p - 1)) p P P (mul-le-mul_right p (more (x * t) (p - 1)))) (ceil_le x t p c P h)
  where
    more : (a b : ℕ) → a ≤ a + b
    more a b = omega arith

pub ceil_at-most : (u : ℕ) → u ≤ 1000 * 2 ^ 1074 → (u * 2 ^ 24 + (2 ^ 1074 - 1)) / 2 ^ 1074 ≤ 1000 * 2 ^ 24
ceil_at-most u = ceil_le u (2 ^ 24) (2 ^ 1074) 1000 (pow_pos 1074)

pub floor-at-most : (u : ℕ) → u ≤ 1000 * 2 ^ 1074 → u * 2 ^ 24 / 2 ^ 1074 ≤ 1000 * 2 ^ 24
floor-at-most u = floor-le u (2 ^ 24) (2 ^ 1074) 1000 (pow_pos 1074)

-- so the shifts of a are as small
pub shift-plus : (a e : ℕ) → e ≤ 1050 → a * 2 ^ e ≤ 1000 * 2 ^ 1074 → a / 2 ^ (1050 - e) ≤ 1000 * 2 ^ 24
shift-plus a e h l = le_trans (le_of_eq (sym (down-at 1050 24 a e h))) (floor-at-most (a * 2 ^ e) l)

pub shift-minus : (a e : ℕ) → e ≤ 1050 → 0 < a → a * 2 ^ e ≤ 1000 * 2 ^ 1074 → (a - 1) / 2 ^ (1050 - e) + 1 ≤ 1000 * 2 ^ 24
shift-minus a e h p l = le_trans (le_of_eq (sym (up_at 1050 24 a e h p))) (ceil_at-most (a * 2 ^ e) l)

pub above-le : (s : Bool) (u : ℕ) → u ≤ 1000 * 2 ^ 1074 → above (floor_units s u) ≤ 2000 * 2 ^ 24
unfolding floor_units
above-le true u h = le_trans (le_of_eq (above-minus ((u * 2 ^ 24 + (2 ^ 1074 - 1)) / 2 ^ 1074))) (less ((u * 2 ^ 24 + (2 ^ 1074 - 1)) / 2 ^ 1074))
  where
    less : (x : ℕ) → 1000 * 2 ^ 24 - x ≤ 2000 * 2 ^ 24
    less x = omega arith
above-le false u h = sum (u * 2 ^ 24 / 2 ^ 1074) (floor-at-most u h)
  where
    sum : (x : ℕ) → x ≤ 1000 * 2 ^ 24 → 1000 * 2 ^ 24 + x ≤ 2000 * 2 ^ 24
    sum x h = omega arith

-- 53 digits at such a value are below the place 1050
pub exponent-le : (q k : ℕ) → q * 2 ^ k ≤ 1000 * 2 ^ 1074 → (0 < k → 2 ^ 52 ≤ q) → k ≤ 1050
exponent-le q k h n = elim (dec_le k 1050) [
  | yes l ↦ l
  | no g ↦
      let l : 1050 < k = lt_of_not-le g in
      absurd (not-le_of_lt (lt_of_lt_of_le (lit< tt) (le_trans (le_of_eq (pow-add 2 52 1051)) (mul-le-mul (n (some k l)) (pow_mono l)))) h)
]
  where
    some : (k : ℕ) → 1050 < k → 0 < k
    some k l = omega arith
