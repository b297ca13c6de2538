-- How many binary digits a number has.
use Rattle.std.proofs.Common.{◌≡◌, ℕ, suc, ◌+◌, ◌-◌, ◌/◌, ◌^◌, ◌<◌, ◌≤◌, sym, ap, ◌∙◌, le_trans, le_of_eq, le_refl, lt_of_lt_of_le, lt_irrefl, div-lt_iff_lt-mul, le_antisymm, lt_of_not-le, le-div_iff_mul-le, arith, pow_pos, pow_mono, pow-add}
use native.Mathlib.Nat.{div-eq_of_lt}
use native.Mathlib.Decide.{dec_le}
use lib.Ieee.{size}
use lib.Ieee.Digits.{size-lt, size-le, size_reaches}

pub size_is : (n y : ℕ) → 2 ^ y ≤ n → n < 2 ^ suc y → size n ≡ suc y
size_is n y lo hi = le_antisymm (size-le n (suc y) hi) (lt_of_not-le (λ (g : size n ≤ y). lt_irrefl n (lt_of_lt_of_le (size-lt n) (le_trans (pow_mono g) lo))))

-- what is left after j digits are dropped
pub size_shr : (n j : ℕ) → size (n / 2 ^ j) ≡ size n - j
size_shr n j = go (size n) (size-lt n) (size_reaches n)
  where
    small : (z : ℕ) → z ≤ 0 → z ≡ 0
    small z h = omega arith

    gone : (z j : ℕ) → z ≤ j → 0 ≡ z - j
    gone z j l = omega arith

    before : (z j : ℕ) → j < z → z - suc j + j < z
    before z j l = omega arith

    all : (z j : ℕ) → j < z → z ≡ suc (z - suc j) + j
    all z j l = omega arith

    one : (z j : ℕ) → j < z → suc (z - suc j) ≡ z - j
    one z j l = omega arith

    go : (z : ℕ) → n < 2 ^ z → ((i : ℕ) → i < z → 2 ^ i ≤ n) → size (n / 2 ^ j) ≡ z - j
    go z hi lo = elim (dec_le z j) [
      | yes l ↦
          let e : n / 2 ^ j ≡ 0 = div-eq_of_lt (lt_of_lt_of_le hi (pow_mono l)) in
          ap size e ∙ small (size 0) (size-le 0 0 (le_refl 1)) ∙ gone z j l
      | no g ↦
          let l : j < z = lt_of_not-le g in
          size_is (n / 2 ^ j) (z - suc j)
          ((le-div_iff_mul-le (pow_pos j)).1 (le_trans (le_of_eq (sym (pow-add 2 (z - suc j) j))) (lo (z - suc j + j) (before z j l))))
          ((div-lt_iff_lt-mul (pow_pos j)).1 (lt_of_lt_of_le hi (le_of_eq (ap (λ (x : ℕ). 2 ^ x) (all z j l) ∙ pow-add 2 (suc (z - suc j)) j))))
          ∙ one z j l
    ]
