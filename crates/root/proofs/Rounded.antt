-- A value less than half a unit from a / b is a / b rounded, and the whole part of a root rounds as the root does.
use mathlib.Core.Path.{◌≡◌, sym, ap, ◌∙◌, subst}
use mathlib.Core.Bool.{false, not}
use Prim.Native.Nat.{ℕ, zero, suc, ◌+◌, ◌-◌, ◌*◌, ◌/◌, ◌%◌, ◌^◌, ◌≤◌, ◌<◌, min, compare, Ordering}
use native.Mathlib.Nat.{le_refl, le_trans, lt_of_le_of_lt, lt_of_not-le, mul_assoc, mul-mul-mul_comm, mul-pos, mul-le-mul, mul-le-mul_right, lt_of_mul-lt-mul_right, div-add-mod', mod-lt, mul-div_cancel, add-mul}
use native.Mathlib.Omega.{arith}
use lib.Arith.{lt_of_le-ne}
use lib.Dec.{T, is_le, compare_is_eq, eqb, leb→le, nleb→lt, eqb→eq, eqb_refl, lit≤}
use lib.Pow.{pow-add, pow_pos, pow_mono}
use lib.Ieee.{binary64, size, nearest, units, round, of_bits}
use lib.Ieee.Fits.{core, round_is}
use lib.Ieee.Nearest.{closest, closest_same}
use Rattle.float.proofs.Digits.{size_is}
use Rattle.float.proofs.Coded.{read-coded}
use Rattle.root.specs.Root.{floor_root, root_of_units}
use Rattle.root.specs.Steps.{IsRoot, Near}
use Rattle.root.proofs.Squares.{root-lt, floor-root}
use Rattle.root.proofs.Scaled.{Scaled}
use Rattle.root.proofs.Midpoints.{four-times, at_least, at_most, midpoint_above}

-- ---- the nearest whole number

abbrev Compared : Ordering → ℕ → ℕ → Type 0
Compared Ordering.lt a b = a < b
Compared Ordering.eq a b = a ≡ b
Compared Ordering.gt a b = b < a

compared : (a b : ℕ) → Compared (compare a b) a b
compared a b = go (compare a b) (leb→le a b) (nleb→lt a b) (eqb→eq a b) (λ (e : a ≡ b). subst (λ (x : ℕ). T (eqb a x)) e (eqb_refl a))
  where
    go : (o : Ordering) → (T (is_le o) → a ≤ b) → (T (not (is_le o)) → b < a) → (T (compare_is_eq o) → a ≡ b) → (a ≡ b → T (compare_is_eq o)) → Compared o a b
    go Ordering.lt h k e n = lt_of_le-ne (h tt) n
    go Ordering.eq h k e n = e tt
    go Ordering.gt h k e n = k tt

pub closest-is : (a b q : ℕ) → 0 < b → 2 * q * b < 2 * a + b → 2 * a < 2 * q * b + b → closest a b ≡ q
closest-is a b q B lo hi = go (compare (a % b * 2) b) (compared (a % b * 2) b) (div-add-mod' a b)
  where
    w : ℕ
    w = a / b

    -- products with b, compared without it
    less : (x y : ℕ) → x * b < y * b → x < y
    less x y h = lt_of_mul-lt-mul_right b h

    go : (o : Ordering) → Compared o (a % b * 2) b → w * b + a % b ≡ a → nearest w o ≡ q
    go Ordering.lt c e =
        let up = less q (w + 1) (omega arith) in
        let down = less (2 * w) (2 * q + 1) (omega arith) in
        omega arith
    go Ordering.eq c e =
        let up = less q (w + 1) (omega arith) in
        let down = less w q (omega arith) in
        absurd (omega arith)
    go Ordering.gt c e =
        let up = less (2 * q) (2 * w + 3) (omega (arith, mod-lt a B)) in
        let down = less w q (omega arith) in
        omega arith

-- ---- the whole part of a root

-- r is less than half of P from q * P, on either side
abbrev Around : ℕ → ℕ → ℕ → Type 0
Around r q P = (2 * q * P < 2 * r + P) × (2 * r < 2 * q * P + P)

module _ (N a k q r : ℕ) (s : Scaled N a k) (n : Near a q) (h : IsRoot N r) where
  abbrev P : ℕ
  P = 2 ^ k

  over : 2 * r < (2 * q + 1) * P
  over = root-lt (2 * r) ((2 * q + 1) * P) (lt_of_le_of_lt (twice r N h.low) (midpoint_above N a k s q n ((2 * q + 1) * P) (le_refl ((2 * q + 1) * P))))
    where
      twice : (r N : ℕ) → r * r ≤ N → 2 * r * (2 * r) ≤ 4 * N
      twice r N h = omega arith

  -- the whole part of the root is not the midpoint below: N is too far from its square
  under : (2 * q - 1) * P < 2 * r
  under =
      lt_of_not-le (λ (g : 2 * r ≤ (2 * q - 1) * P). far (2 * q - 1) P (2 * r) (a * 2 ^ 54) (few q n.most) wide n.low g
      (subst (λ (x : ℕ). x < (2 * r + 2) * (2 * r + 2)) (four-times N a k s) (twice r N h.high)))
    where
      wide : 2 ^ 57 ≤ P
      wide = pow_mono {i = 57} {j = k} (le_trans (lit≤ tt) s.many)

      few : (q : ℕ) → q ≤ 2 ^ 53 → 2 * q - 1 ≤ 2 ^ 54
      few q h = omega arith

      twice : (r N : ℕ) → N < (r + 1) * (r + 1) → 4 * N < (2 * r + 2) * (2 * r + 2)
      twice r N h = omega arith

      far : (c P r b : ℕ) → c ≤ 2 ^ 54 → 2 ^ 57 ≤ P → c * c < b → r ≤ c * P → b * (P * P) < (r + 2) * (r + 2) → ⊥
      far c P r b f l x g y =
          let m : (r + 2) * (r + 2) ≤ (c * P + 2) * (c * P + 2) = mul-le-mul (more g) (more g) in
          let e : (c * P + 2) * (c * P + 2) ≡ c * c * (P * P) + 4 * (c * P) + 4 = omega (arith, mul-mul-mul_comm c P c P) in
          let u : (c * c + 1) * (P * P) ≤ b * (P * P) = mul-le-mul_right (P * P) (next x) in
          let v : (c * c + 1) * (P * P) ≡ c * c * (P * P) + P * P = omega (arith, add-mul (c * c) 1 (P * P)) in
          let i : c * P ≤ 2 ^ 54 * P = mul-le-mul_right P f in
          let j : 2 ^ 57 * P ≤ P * P = mul-le-mul_right P l in
          omega arith
        where
          more : {x y : ℕ} → x ≤ y → x + 2 ≤ y + 2
          more h = omega arith

          next : {x y : ℕ} → x < y → x + 1 ≤ y
          next h = omega arith

  around : Around r q P
  around = (low q n.least P under, high q P over)
    where
      high : (q P : ℕ) → 2 * r < (2 * q + 1) * P → 2 * r < 2 * q * P + P
      high q P h = omega arith

      low : (q : ℕ) → 2 ^ 52 ≤ q → (P : ℕ) → (2 * q - 1) * P < 2 * r → 2 * q * P < 2 * r + P
      low (suc q) p P h = omega (arith, subst (λ (x : ℕ). x * P < 2 * r) (less q) h)
        where
          less : (q : ℕ) → 2 * suc q - 1 ≡ 2 * q + 1
          less q = omega arith
      low zero p P h = absurd (none p)
        where
          none : 2 ^ 52 ≤ 0 → ⊥
          none p = omega arith

  -- 53 digits before the last k
  digits-kept : size r - 53 ≡ k
  digits-kept = ap (λ (x : ℕ). x - 53) (size_is r (52 + k)
      (subst (λ (x : ℕ). x ≤ r) (sym (pow-add 2 52 k)) (low (2 ^ 52 * P) (at_least N a k s)))
      (subst (λ (x : ℕ). r < x) (sym (pow-add 2 53 k) ∙ ap (λ (x : ℕ). 2 ^ x) (one_more k)) (high (2 ^ 53 * P) (at_most N a k s)))) ∙ less k
    where
      less : (k : ℕ) → suc (52 + k) - 53 ≡ k
      less k = omega arith

      -- from a square at most N, and from one above it
      low : (x : ℕ) → x * x ≤ N → x ≤ r
      low x g = below (root-lt x (r + 1) (lt_of_le_of_lt g h.high))
        where
          below : {x : ℕ} → x < r + 1 → x ≤ r
          below h = omega arith

      high : (x : ℕ) → N < x * x → r < x
      high x g = root-lt r x (lt_of_le_of_lt h.low g)

      one_more : (k : ℕ) → 53 + k ≡ suc (52 + k)
      one_more k = omega arith

  rounded : round binary64 false r (2 ^ 1074) ≡ units binary64 false q k
  rounded =
      round_is binary64 false r (2 ^ 1074)
      ∙ ap (core binary64 false (r * 2 ^ 1074) (2 ^ 1074)) (ap (λ (x : ℕ). size x - 53) (mul-div_cancel r (pow_pos 1074)) ∙ digits-kept)
      ∙ ap (λ (x : ℕ). units binary64 false x k)
      (closest_same (r * 2 ^ 1074) (2 ^ 1074 * P) r P (mul-pos (pow_pos 1074) (pow_pos k)) (pow_pos k) (mul_assoc r (2 ^ 1074) P)
      ∙ closest-is r P q (pow_pos k) around.0 around.1)

-- the definition, by the digits and the exponent of its value
pub root_is : (n a k q : ℕ) → Scaled (n * 2 ^ 1074) a k → Near a q → root_of_units n ≡ units binary64 false q k
unfolding root_of_units
root_is n a k q s h = rounded (n * 2 ^ 1074) a k q (floor_root (n * 2 ^ 1074)) s h (floor-root (n * 2 ^ 1074))

-- and by the bits of its root
pub read-root : (n a k q : ℕ) → Scaled (n * 2 ^ 1074) a k → Near a q → of_bits binary64 (k * 2 ^ 52 + q) ≡ root_of_units n
read-root n a k q s h =
    ap (of_bits binary64) (bits q s.range h.most)
    ∙ read-coded binary64 false q k h.most (λ _. h.least)
    ∙ sym (root_is n a k q s h)
  where
    bits : (q : ℕ) → k < 2000 → q ≤ 2 ^ 53 → k * 2 ^ 52 + q ≡ 0 + min (k * 2 ^ 52 + q) (2047 * 2 ^ 52)
    bits q l m = omega arith
