-- The 31 leading digits of a * 2 ^ x and their place, from the leading zeros of a in a word.
use mathlib.Core.Path.{◌≡◌, sym, ap, ap₂, ◌∙◌}
use Prim.Native.Nat.{ℕ, suc, ◌+◌, ◌-◌, ◌*◌, ◌/◌, ◌%◌, ◌^◌, ◌≤◌, ◌<◌}
use native.Mathlib.Nat.{le_trans, le_of_eq, lt_of_lt_of_le, mul_assoc, mul_comm, mod-eq_of_lt, mul-le-mul_right, mul-lt-mul_of_pos_right}
use native.Mathlib.Omega.{arith}
use lib.Pow.{pow-add, pow_pos}
use lib.Count.{count_leading_zeros, leading_top}
use lib.Ieee.{size}
use lib.Ieee.Nearest.{div_same}
use Rattle.float.proofs.Digits.{size_is}
use Rattle.logarithm.specs.Logarithm.{fraction_of, cut_of, whole_log_of}

module _ (a : ℕ) (p : 0 < a) (h : a < 2 ^ 64) where
  pub zeros-few : count_leading_zeros 64 a ≤ 63
  zeros-few = let t = leading_top 64 a p h in omega arith

  -- the top digit comes to the top place
  shifted : (2 ^ 63 ≤ a * 2 ^ count_leading_zeros 64 a) × (a * 2 ^ count_leading_zeros 64 a < 2 ^ 64)
  shifted =
      let t = leading_top 64 a p h in
      let z = count_leading_zeros 64 a in
      let j = t.0 in
      let e : j + z ≡ 63 = omega arith in
      let e' : suc j + z ≡ 64 = omega arith in (
        le_trans (le_of_eq (ap (λ (x : ℕ). 2 ^ x) (sym e) ∙ pow-add 2 j z)) (mul-le-mul_right (2 ^ z) t.2),
        lt_of_lt_of_le (mul-lt-mul_of_pos_right t.3 (pow_pos z)) (le_of_eq (sym (pow-add 2 (suc j) z) ∙ ap (λ (x : ℕ). 2 ^ x) e')),
      )

  no-loss : a * 2 ^ count_leading_zeros 64 a % 2 ^ 64 ≡ a * 2 ^ count_leading_zeros 64 a
  no-loss = mod-eq_of_lt shifted.1

  pub lead_in : (2 ^ 30 ≤ a * 2 ^ count_leading_zeros 64 a % 2 ^ 64 / 2 ^ 33) × (a * 2 ^ count_leading_zeros 64 a % 2 ^ 64 / 2 ^ 33 < 2 ^ 31)
  lead_in = let s = shifted in rw no-loss (omega arith)

  size-scaled : (x : ℕ) → size (a * 2 ^ x) ≡ suc (63 - count_leading_zeros 64 a + x)
  size-scaled x =
      let t = leading_top 64 a p h in
      let j = t.0 in
      let e : j + x ≡ 63 - count_leading_zeros 64 a + x = omega arith in
      size_is (a * 2 ^ x) (j + x) (le_trans (le_of_eq (pow-add 2 j x)) (mul-le-mul_right (2 ^ x) t.2))
      (lt_of_lt_of_le (mul-lt-mul_of_pos_right t.3 (pow_pos x)) (le_of_eq (sym (pow-add 2 (suc j) x) ∙ ap (λ (y : ℕ). 2 ^ y) (out j x))))
      ∙ ap suc e
    where
      out : (j x : ℕ) → suc j + x ≡ suc (j + x)
      out j x = omega arith

  cut-scaled : (x : ℕ) → cut_of (a * 2 ^ x) ≡ a * 2 ^ count_leading_zeros 64 a % 2 ^ 64 / 2 ^ 33
  cut-scaled x =
      let z = count_leading_zeros 64 a in
      let few : z ≤ 63 = zeros-few in
      let e : z + suc (63 - z + x) ≡ 64 + x = omega arith in
      let all : 2 ^ z * 2 ^ size (a * 2 ^ x) ≡ 2 ^ 64 * 2 ^ x = ap (λ (y : ℕ). 2 ^ z * 2 ^ y) (size-scaled x) ∙ sym (pow-add 2 z (suc (63 - z + x))) ∙ ap (λ (y : ℕ). 2 ^ y) e ∙ pow-add 2 64 x in
      div_same (a * 2 ^ x * 2 ^ 31) (2 ^ size (a * 2 ^ x)) (a * 2 ^ z) (2 ^ 33) (pow_pos (size (a * 2 ^ x))) (pow_pos 33)
      (mul_assoc (a * 2 ^ x) (2 ^ 31) (2 ^ 33) ∙ mul_assoc a (2 ^ x) (2 ^ 64) ∙ ap (λ (y : ℕ). a * y) (mul_comm (2 ^ x) (2 ^ 64) ∙ sym all) ∙ sym (mul_assoc a (2 ^ z) (2 ^ size (a * 2 ^ x))))
      ∙ ap (λ (y : ℕ). y / 2 ^ 33) (sym no-loss)

  place : (x : ℕ) → 63 - count_leading_zeros 64 a + x ≡ size (a * 2 ^ x) - 1
  place x = omega (arith, size-scaled x)

  -- N of a * 2 ^ x, to k bits
  pub whole_log-is : (k x r : ℕ) → r ≡ fraction_of k (a * 2 ^ count_leading_zeros 64 a % 2 ^ 64 / 2 ^ 33) → (63 - count_leading_zeros 64 a + x) * 2 ^ k + r ≡ whole_log_of k (a * 2 ^ x)
  unfolding whole_log_of
  whole_log-is k x r e = ap₂ (λ (y f : ℕ). y * 2 ^ k + f) (place x) (e ∙ ap (fraction_of k) (sym (cut-scaled x)))
