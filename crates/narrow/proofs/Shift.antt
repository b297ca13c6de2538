-- Rounding to the nearest whole number, at a tie to the even one, by one sum and one quotient.
use mathlib.Core.Path.{◌≡◌, sym, ap, ◌∙◌, subst}
use mathlib.Core.Bool.{not}
use Prim.Native.Nat.{ℕ, zero, suc, ◌+◌, ◌-◌, ◌*◌, ◌/◌, ◌%◌, ◌^◌, ◌≤◌, ◌<◌, compare, Ordering}
use native.Mathlib.Nat.{div-eq_of_lt, add-mul-div_right, div-add-mod', mod-lt, pow-suc, mod-eq_of_lt, one-mul, zero-add, add_comm}
use native.Mathlib.Omega.{arith}
use lib.Dec.{T, is_le, compare_is_eq, eqb, leb→le, nleb→lt, eqb→eq, eqb_refl, lit≤}
use lib.Pow.{pow-lt}
use lib.Ieee.{nearest}
use lib.Ieee.Nearest.{closest}

quotient-zero : (y h : ℕ) → y < h * 2 → y / (h * 2) ≡ 0
quotient-zero y h l = div-eq_of_lt l

quotient-one : (y h : ℕ) → 0 < h → h * 2 ≤ y → y < h * 2 + h * 2 → y / (h * 2) ≡ 1
quotient-one y h p a b =
    ap (λ (x : ℕ). x / (h * 2)) (back y (h * 2) a) ∙ add-mul-div_right (y - h * 2) 1 (twice h p) ∙ ap (λ (x : ℕ). x + 1) (quotient-zero (y - h * 2) h (omega arith))
  where
    back : (y w : ℕ) → w ≤ y → y ≡ (y - w) + 1 * w
    back y w l = omega arith

    twice : (h : ℕ) → 0 < h → 0 < h * 2
    twice h p = omega arith

-- twice the remainder r beside the divisor h * 2, for the whole part q
rounds : (h q r : ℕ) → 0 < h → r < h * 2 → (o : Ordering) → (T (is_le o) → r * 2 ≤ h * 2) → (T (not (is_le o)) → h * 2 < r * 2) → (T (compare_is_eq o) → r * 2 ≡ h * 2) → (r * 2 ≡ h * 2 → T (compare_is_eq o)) → (r + (h - 1) + q % 2) / (h * 2) + q ≡ nearest q o
rounds h q r p l Ordering.lt a b c d = ap (λ (x : ℕ). x + q) (quotient-zero (r + (h - 1) + q % 2) h (few h q r p (a tt) d)) ∙ zero-add q
  where
    few : (h q r : ℕ) → 0 < h → r * 2 ≤ h * 2 → (r * 2 ≡ h * 2 → ⊥) → r + (h - 1) + q % 2 < h * 2
    few h q r p a d = omega arith
rounds h q r p l Ordering.eq a b c d = ap (λ (x : ℕ). x + q) (tie (q % 2) (mod-lt q (lit≤ tt)) (c tt)) ∙ add_comm (q % 2) q
  where
    tie : (m : ℕ) → m < 2 → r * 2 ≡ h * 2 → (r + (h - 1) + m) / (h * 2) ≡ m
    tie zero i e = quotient-zero (r + (h - 1) + 0) h (omega arith)
    tie (suc zero) i e = quotient-one (r + (h - 1) + 1) h p (omega arith) (omega arith)
    tie (suc (suc m)) i e = absurd (omega arith)
rounds h q r p l Ordering.gt a b c d = ap (λ (x : ℕ). x + q) (quotient-one (r + (h - 1) + q % 2) h p (omega (arith, b tt)) (omega arith)) ∙ up q
  where
    up : (q : ℕ) → 1 + q ≡ suc q
    up q = omega arith

-- half the divisor less one, and one more where the whole part is odd
pub by-sum : (a h : ℕ) → 0 < h → (a + (h - 1) + a / (h * 2) % 2) / (h * 2) ≡ closest a (h * 2)
by-sum a h p =
    let q = a / (h * 2) in
    let r = a % (h * 2) in
    ap (λ (x : ℕ). x / (h * 2)) (apart a q r (h * 2) (h - 1) (q % 2) (div-add-mod' a (h * 2)))
    ∙ add-mul-div_right (r + (h - 1) + q % 2) q (twice h p)
    ∙ rounds h q r p (mod-lt a (twice h p)) (compare (r * 2) (h * 2)) (leb→le (r * 2) (h * 2)) (nleb→lt (r * 2) (h * 2)) (eqb→eq (r * 2) (h * 2)) (λ (e : r * 2 ≡ h * 2). subst (λ (x : ℕ). T (eqb (r * 2) x)) e (eqb_refl (r * 2)))
  where
    twice : (h : ℕ) → 0 < h → 0 < h * 2
    twice h p = omega arith

    apart : (a q r w m o : ℕ) → q * w + r ≡ a → a + m + o ≡ (r + m + o) + q * w
    apart a q r w m o e = omega arith

-- `1 << d`
pub one_shl : (d : ℕ) → d < 64 → 1 * 2 ^ d % 2 ^ 64 ≡ 2 ^ d
one_shl d h = ap (λ (x : ℕ). x % 2 ^ 64) (one-mul (2 ^ d)) ∙ mod-eq_of_lt (pow-lt h)

pub half_of : (d : ℕ) → 0 < d → 2 ^ (d - 1) * 2 ≡ 2 ^ d
half_of d h = sym (pow-suc 2 (d - 1)) ∙ ap (λ (x : ℕ). 2 ^ x) (back d h)
  where
    back : (d : ℕ) → 0 < d → suc (d - 1) ≡ d
    back d h = omega arith

-- less than a half is none
pub none : (a h : ℕ) → a < h → closest a (h * 2) ≡ 0
none a h l =
    sym (by-sum a h (omega arith))
    ∙ ap (λ (x : ℕ). (a + (h - 1) + x % 2) / (h * 2)) (quotient-zero a h (omega arith))
    ∙ quotient-zero (a + (h - 1) + 0) h (omega arith)
