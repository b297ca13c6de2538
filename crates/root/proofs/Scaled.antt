-- The 53 or 54 digits of a value whose root is taken, and its exponent, which is even.
use mathlib.Core.Path.{◌≡◌, refl, sym, ap, ◌∙◌}
use Prim.Native.Nat.{ℕ, zero, suc, ◌+◌, ◌-◌, ◌*◌, ◌/◌, ◌%◌, ◌^◌, ◌≤◌, ◌<◌}
use native.Mathlib.Nat.{le_trans, le_of_eq, lt_of_lt_of_le, lt_of_not-le, not-le_of_lt, mul_assoc, mul-mul-mul_comm, mod-lt, mod-eq_of_lt, mul-le-mul_right, mul-lt-mul_of_pos_right, pow-succ'}
use native.Mathlib.Omega.{arith}
use lib.Dec.{lit≤}
use lib.Count.{count_leading_zeros, leading_top}
use lib.Pow.{pow-add, pow_pos, pow_mono}

-- N is a * 2 ^ 52 * 4 ^ k, with 53 or 54 digits in a. So its root has 53 digits before the last k.
pub record Scaled (N a k : ℕ) : Type 0 where
  pub value : N ≡ a * 2 ^ 52 * (2 ^ k * 2 ^ k)
  pub least : 2 ^ 52 ≤ a
  pub most : a < 2 ^ 54
  pub many : 485 ≤ k
  pub range : k < 2000

-- ---- 53 digits

pub record Shifted (a s : ℕ) : Type 0 where
  pub few : s ≤ 52
  pub least : 2 ^ 52 ≤ a * 2 ^ s
  pub most : a * 2 ^ s < 2 ^ 53
  pub keeps : a * 2 ^ s % 2 ^ 64 ≡ a * 2 ^ s

-- the zeros before the 53 digits are 11
pub zeros : (a : ℕ) → 0 < a → a < 2 ^ 53 → (11 ≤ count_leading_zeros 64 a) × (count_leading_zeros 64 a ≤ 63)
zeros a p h =
    let t = leading_top 64 a p (lt_of_lt_of_le h (pow_mono {i = 53} {j = 64} (lit≤ tt))) in
    let j = t.0 in
    let few : j < 53 = lt_of_not-le (λ (g : 53 ≤ j). not-le_of_lt h (le_trans (pow_mono g) t.2)) in
    (omega arith, omega arith)

pub shifted : (a : ℕ) → 0 < a → a < 2 ^ 53 → Shifted a (count_leading_zeros 64 a - 11)
shifted a p h =
    let t = leading_top 64 a p (lt_of_lt_of_le h (pow_mono {i = 53} {j = 64} (lit≤ tt))) in
    let j = t.0 in
    let s = count_leading_zeros 64 a - 11 in
    let z = zeros a p h in
    let e : j + s ≡ 52 = omega arith in
    let e' : suc j + s ≡ 53 = omega arith in
    let lo : 2 ^ 52 ≤ a * 2 ^ s = le_trans (le_of_eq (ap (λ (x : ℕ). 2 ^ x) (sym e) ∙ pow-add 2 j s)) (mul-le-mul_right (2 ^ s) t.2) in
    let hi : a * 2 ^ s < 2 ^ 53 = lt_of_lt_of_le (mul-lt-mul_of_pos_right t.3 (pow_pos s)) (le_of_eq (sym (pow-add 2 (suc j) s) ∙ ap (λ (x : ℕ). 2 ^ x) e')) in
    record { few = omega arith; least = lo; most = hi; keeps = mod-eq_of_lt (lt_of_lt_of_le hi (pow_mono {i = 53} {j = 64} (lit≤ tt))) }

-- twice as much where the exponent is odd
pub doubled : (x y : ℕ) → y < 2 → 2 ^ 52 ≤ x → x < 2 ^ 53 → (2 ^ 52 ≤ x * (1 + y)) × (x * (1 + y) < 2 ^ 54)
doubled x zero l a b = (omega arith, omega arith)
doubled x (suc zero) l a b = (omega arith, omega arith)
doubled x (suc (suc y)) l a b = absurd (no y l)
  where
    no : (y : ℕ) → suc (suc y) < 2 → ⊥
    no y l = omega arith

-- half of the exponent t is taken out
halved : (t : ℕ) → 2 ^ t ≡ (1 + t % 2) * (2 ^ (t / 2) * 2 ^ (t / 2))
halved t = go (t % 2) refl
  where
    J : ℕ
    J = t / 2

    even : (t : ℕ) → t % 2 ≡ 0 → t ≡ t / 2 + t / 2
    even t e = omega arith

    odd : (t : ℕ) → t % 2 ≡ 1 → t ≡ suc (t / 2 + t / 2)
    odd t e = omega arith

    none : (b t : ℕ) → t % 2 ≡ suc (suc b) → ⊥
    none b t e = omega arith

    one_of : (x : ℕ) → x ≡ (1 + 0) * x
    one_of x = omega arith

    go : (b : ℕ) → t % 2 ≡ b → 2 ^ t ≡ (1 + t % 2) * (2 ^ J * 2 ^ J)
    go zero f = ap (λ (y : ℕ). 2 ^ y) (even t f) ∙ pow-add 2 J J ∙ one_of (2 ^ J * 2 ^ J) ∙ ap (λ (y : ℕ). (1 + y) * (2 ^ J * 2 ^ J)) (sym f)
    go (suc zero) f = ap (λ (y : ℕ). 2 ^ y) (odd t f) ∙ pow-succ' 2 (J + J) ∙ ap (λ (y : ℕ). 2 * y) (pow-add 2 J J) ∙ ap (λ (y : ℕ). (1 + y) * (2 ^ J * 2 ^ J)) (sym f)
    go (suc (suc b)) f = absurd (none b t f)

-- ---- the value

-- the digits a and the exponent k of sig * 2 ^ exp units, as the code makes them
abbrev pub shift_of : ℕ → ℕ
shift_of sig = count_leading_zeros 64 sig - 11

abbrev pub rest_of : ℕ → ℕ → ℕ
rest_of sig exp = exp + 52 - shift_of sig

abbrev pub digits_of : ℕ → ℕ → ℕ
digits_of sig exp = sig * 2 ^ shift_of sig * (1 + rest_of sig exp % 2)

abbrev pub exponent_of : ℕ → ℕ → ℕ
exponent_of sig exp = rest_of sig exp / 2 + 485

wide : (J : ℕ) → 2 ^ (J + 485) * 2 ^ (J + 485) ≡ 2 ^ J * 2 ^ J * 2 ^ 970
wide J = ap (λ (x : ℕ). x * x) (pow-add 2 J 485) ∙ mul-mul-mul_comm (2 ^ J) (2 ^ 485) (2 ^ J) (2 ^ 485)

pub scaled : (sig exp : ℕ) → 0 < sig → sig < 2 ^ 53 → exp < 2046 → Scaled (sig * 2 ^ exp * 2 ^ 1074) (digits_of sig exp) (exponent_of sig exp)
scaled sig exp p h l =
    let w = shifted sig p h in
    let d = doubled (sig * 2 ^ s) (t % 2) (mod-lt t (pow_pos 1)) w.least w.most in
    record { value = value w.few; least = d.0; most = d.1; many = more (t / 2); range = range exp s l }
  where
    s : ℕ
    s = shift_of sig

    t : ℕ
    t = rest_of sig exp

    J : ℕ
    J = t / 2

    more : (j : ℕ) → 485 ≤ j + 485
    more j = omega arith

    range : (x s : ℕ) → x < 2046 → (x + 52 - s) / 2 + 485 < 2000
    range x s l = omega arith

    join : (x s : ℕ) → s ≤ 52 → x + 1074 ≡ s + (x + 52 - s) + 1022
    join x s l = omega arith

    value : s ≤ 52 → sig * 2 ^ exp * 2 ^ 1074 ≡ digits_of sig exp * 2 ^ 52 * (2 ^ (J + 485) * 2 ^ (J + 485))
    value g =
        mul_assoc sig (2 ^ exp) (2 ^ 1074)
        ∙ ap (λ (x : ℕ). sig * x) (sym (pow-add 2 exp 1074) ∙ ap (λ (x : ℕ). 2 ^ x) (join exp s g) ∙ pow-add 2 (s + t) 1022 ∙ ap (λ (x : ℕ). x * 2 ^ 1022) (pow-add 2 s t))
        ∙ regroup sig (2 ^ s) (2 ^ t) (2 ^ 1022)
        ∙ ap (λ (x : ℕ). sig * 2 ^ s * (x * 2 ^ 1022)) (halved t)
        ∙ spread (sig * 2 ^ s) (1 + t % 2) (2 ^ J * 2 ^ J)
        ∙ ap (λ (x : ℕ). digits_of sig exp * 2 ^ 52 * x) (sym (wide J))
      where
        regroup : (a b c d : ℕ) → a * (b * c * d) ≡ a * b * (c * d)
        regroup a b c d = ap (λ (x : ℕ). a * x) (mul_assoc b c d) ∙ sym (mul_assoc a b (c * d))

        spread : (a b c : ℕ) → a * (b * c * 2 ^ 1022) ≡ a * b * 2 ^ 52 * (c * 2 ^ 970)
        spread a b c =
            ap (λ (x : ℕ). a * x) (mul_assoc b c (2 ^ 1022)) ∙ sym (mul_assoc a b (c * 2 ^ 1022))
            ∙ ap (λ (x : ℕ). a * b * x) (ap (λ (x : ℕ). c * x) (pow-add 2 970 52) ∙ sym (mul_assoc c (2 ^ 970) (2 ^ 52)) ∙ native.Mathlib.Nat.mul_comm (c * 2 ^ 970) (2 ^ 52))
            ∙ sym (mul_assoc (a * b) (2 ^ 52) (c * 2 ^ 970))
