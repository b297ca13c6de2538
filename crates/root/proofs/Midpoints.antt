-- The root of N against the midpoints beside q * 2 ^ k, by their squares.
use mathlib.Core.Path.{◌≡◌, sym, ap, ◌∙◌}
use Prim.Native.Nat.{ℕ, ◌+◌, ◌-◌, ◌*◌, ◌^◌, ◌≤◌, ◌<◌}
use native.Mathlib.Nat.{le_trans, le_of_eq, lt_of_lt_of_le, lt_of_le_of_lt, mul-mul-mul_comm, mul-pos, mul-le-mul, mul-le-mul_right, mul-lt-mul_of_pos_right}
use native.Mathlib.Omega.{arith}
use lib.Pow.{pow_pos}
use Rattle.root.specs.Steps.{Near}
use Rattle.root.proofs.Scaled.{Scaled}

pub square-pos : (k : ℕ) → 0 < 2 ^ k * 2 ^ k
square-pos k = mul-pos (pow_pos k) (pow_pos k)

module _ (N a k : ℕ) (s : Scaled N a k) where
  pub four-times : 4 * N ≡ a * 2 ^ 54 * (2 ^ k * 2 ^ k)
  four-times = ap (λ (x : ℕ). 4 * x) s.value ∙ fold a (2 ^ k * 2 ^ k)
    where
      fold : (a x : ℕ) → 4 * (a * 2 ^ 52 * x) ≡ a * 2 ^ 54 * x
      fold a x = omega arith

  -- the root is at least 2 ^ 52 * 2 ^ k
  pub at_least : 2 ^ 52 * 2 ^ k * (2 ^ 52 * 2 ^ k) ≤ N
  at_least =
      le_trans (le_of_eq (mul-mul-mul_comm (2 ^ 52) (2 ^ k) (2 ^ 52) (2 ^ k)))
      (le_trans (mul-le-mul_right (2 ^ k * 2 ^ k) (mul-le-mul_right (2 ^ 52) s.least)) (le_of_eq (sym s.value)))

  -- and below 2 ^ 53 * 2 ^ k
  pub at_most : N < 2 ^ 53 * 2 ^ k * (2 ^ 53 * 2 ^ k)
  at_most =
      lt_of_le_of_lt (le_of_eq s.value)
      (lt_of_lt_of_le (mul-lt-mul_of_pos_right (mul-lt-mul_of_pos_right s.most (pow_pos 52)) (square-pos k))
      (le_of_eq (sym (mul-mul-mul_comm (2 ^ 53) (2 ^ k) (2 ^ 53) (2 ^ k)))))

  module _ (q : ℕ) (n : Near a q) where
    -- half a unit of 2 ^ k up, and half a unit down. m is twice a midpoint.
    pub midpoint_above : (m : ℕ) → (2 * q + 1) * 2 ^ k ≤ m → 4 * N < m * m
    midpoint_above m h =
        lt_of_le_of_lt (le_of_eq four-times)
        (lt_of_lt_of_le (mul-lt-mul_of_pos_right n.high (square-pos k))
        (le_trans (le_of_eq (sym (mul-mul-mul_comm (2 * q + 1) (2 ^ k) (2 * q + 1) (2 ^ k)))) (mul-le-mul h h)))

    pub midpoint_below : (m : ℕ) → m ≤ (2 * q - 1) * 2 ^ k → m * m < 4 * N
    midpoint_below m h =
        lt_of_le_of_lt (le_trans (mul-le-mul h h) (le_of_eq (mul-mul-mul_comm (2 * q - 1) (2 ^ k) (2 * q - 1) (2 ^ k))))
        (lt_of_lt_of_le (mul-lt-mul_of_pos_right n.low (square-pos k)) (le_of_eq (sym four-times)))
