-- Squares of whole numbers, and `floor_root`.
use mathlib.Core.Path.{◌≡◌, sym, subst}
use mathlib.Core.Bool.{Bool, cond}
use Prim.Native.Nat.{ℕ, zero, suc, ◌+◌, ◌*◌, ◌/◌, ◌^◌, ◌≤◌, ◌<◌}
use native.Mathlib.Nat.{mul-add, add-mul, mul-le-mul, le_trans, le_of_eq, lt_of_lt_of_le, lt_of_not-le, not-le_of_lt}
use native.Mathlib.Decide.{dec_le}
use native.Mathlib.Omega.{arith}
use borrow.Author.Tests.{le-leb, lt-leb}
use lib.Pow.{pow-add, pow_mono, shr_lt}
use lib.Ieee.{size}
use lib.Ieee.Digits.{size-lt}
use Rattle.root.specs.Root.{last_digit, root_below, floor_root}
use Rattle.root.specs.Steps.{IsRoot}

pub square-plus : (x : ℕ) → (x + 1) * (x + 1) ≡ x * x + 2 * x + 1
square-plus x = omega (arith, add-mul x 1 (x + 1), mul-add x x 1)

-- the smaller square has the smaller root
pub root-lt : (x y : ℕ) → x * x < y * y → x < y
root-lt x y h = lt_of_not-le (λ (g : y ≤ x). not-le_of_lt h (mul-le-mul g g))

pub square-lt : (x y : ℕ) → x < y → x * x < y * y
square-lt x y h = lt_of_not-le (λ (g : y * y ≤ x * x). not-le_of_lt (omega (arith, square-plus x)) (le_trans (mul-le-mul h' h') g))
  where
    h' : x + 1 ≤ y
    h' = omega arith

-- a root of k digits
pub root-below : (k r n : ℕ) → r * r ≤ n → n < 2 ^ (k + k) → r < 2 ^ k
root-below k r n h l = lt_of_not-le (λ (g : 2 ^ k ≤ r). not-le_of_lt l (le_trans (le_of_eq (pow-add 2 k k)) (le_trans (mul-le-mul g g) h)))

last_digit_lem : (n r : ℕ) → IsRoot (n / 4) r → IsRoot n (last_digit n (2 * r))
last_digit_lem n r h = elim (dec_le ((2 * r + 1) * (2 * r + 1)) n) [
  | yes g ↦ subst (λ (b : Bool). IsRoot n (cond b (2 * r + 1) (2 * r))) (sym (le-leb ((2 * r + 1) * (2 * r + 1)) n g)) (record { low = g; high = omega (arith, h.high) })
  | no g ↦ subst (λ (b : Bool). IsRoot n (cond b (2 * r + 1) (2 * r))) (sym (lt-leb ((2 * r + 1) * (2 * r + 1)) n (lt_of_not-le g))) (record { low = omega (arith, h.low); high = lt_of_not-le g })
]

root-below-is : (k n : ℕ) → n < 2 ^ (k + k) → IsRoot n (root_below k n)
unfolding root_below
root-below-is zero n h = record { low = omega arith; high = omega arith }
root-below-is (suc k) n h = last_digit_lem n (root_below k (n / 4)) (root-below-is k (n / 4) (shr_lt (k + k) 2 (subst (λ (x : ℕ). n < 2 ^ x) (two-more k) h)))
  where
    two-more : (k : ℕ) → suc k + suc k ≡ k + k + 2
    two-more k = omega arith

pub floor-root : (n : ℕ) → IsRoot n (floor_root n)
unfolding floor_root
floor-root n = root-below-is (size n) n (lt_of_lt_of_le (size-lt n) (pow_mono (twice (size n))))
  where
    twice : (z : ℕ) → z ≤ z + z
    twice z = omega arith
