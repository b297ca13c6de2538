-- The root of a * 2 ^ 54 digit by digit, and the nearest whole number to its half.
use mathlib.Core.Path.{◌≡◌, sym, ap, ◌∙◌, subst}
use Prim.Native.Nat.{ℕ, ◌+◌, ◌-◌, ◌*◌, ◌/◌, ◌%◌, ◌^◌, ◌≤◌, ◌<◌}
use native.Mathlib.Nat.{mul-le-mul, mul_assoc, mul_comm, le_of_eq, lt_of_le_of_lt, lt_of_lt_of_le, mul-lt-mul_of_pos_right, lt_of_mul-lt-mul_right}
use native.Mathlib.Omega.{arith}
use lib.Pow.{pow-add, pow_pos, pow_mono}
use Rattle.root.specs.Steps.{IsRoot, Stepped, Near}
use Rattle.root.proofs.Squares.{square-plus, root-lt, root-below}

-- after i steps v holds all digits of a * 4 ^ i but the last 54, which are in `rest`
abbrev pub Brought : ℕ → ℕ → ℕ → ℕ → Type 0
Brought a i v rest = (v * 2 ^ 54 + rest ≡ a * 2 ^ (i + i)) × (rest < 2 ^ 54)

pub bring : (a i root rem rest root' rem' : ℕ) → Brought a i (root * root + rem) rest → Stepped root rem (rest / 2 ^ 52) root' rem' → Brought a (i + 1) (root' * root' + rem') (rest % 2 ^ 52 * 4)
bring a i root rem rest root' rem' h s = (
  next (root * root + rem) (root' * root' + rem') (a * 2 ^ (i + i)) h.0 s.sum
      ∙ mul_assoc a (2 ^ (i + i)) 4 ∙ ap (λ (x : ℕ). a * x) (sym (pow-add 2 (i + i) 2) ∙ ap (λ (x : ℕ). 2 ^ x) (two-more i)),
  omega arith,
)
  where
    next : (v v' n : ℕ) → v * 2 ^ 54 + rest ≡ n → v' ≡ 4 * v + rest / 2 ^ 52 → v' * 2 ^ 54 + rest % 2 ^ 52 * 4 ≡ n * 4
    next v v' n e f = omega arith

    two-more : (i : ℕ) → i + i + 2 ≡ i + 1 + (i + 1)
    two-more i = omega arith

-- the root fits at every step
pub room : (a i root rem rest : ℕ) → a < 2 ^ 54 → i < 54 → Brought a i (root * root + rem) rest → root < 2 ^ 54
room a i root rem rest l h b =
    lt_of_lt_of_le (root-below i root (root * root + rem) (omega arith) few) (pow_mono (le i h))
  where
    le : (i : ℕ) → i < 54 → i ≤ 54
    le i h = omega arith

    cut : (v n : ℕ) → v * 2 ^ 54 + rest ≡ n → v * 2 ^ 54 ≤ n
    cut v n e = omega arith

    few : root * root + rem < 2 ^ (i + i)
    few =
        lt_of_mul-lt-mul_right (2 ^ 54)
        (lt_of_le_of_lt (cut (root * root + rem) (a * 2 ^ (i + i)) b.0)
        (lt_of_lt_of_le (mul-lt-mul_of_pos_right l (pow_pos (i + i))) (le_of_eq (mul_comm (2 ^ 54) (2 ^ (i + i))))))

pub all-brought : (a root rem rest : ℕ) → Brought a 54 (root * root + rem) rest → rem ≤ 2 * root → IsRoot (a * 2 ^ 54) root
all-brought a root rem rest b h =
    let e : root * root + rem ≡ a * 2 ^ 54 = whole (root * root + rem) b.0 b.1 in
    record { low = omega arith; high = omega (arith, square-plus root) }
  where
    whole : (v : ℕ) → v * 2 ^ 54 + rest ≡ a * 2 ^ 108 → rest < 2 ^ 54 → v ≡ a * 2 ^ 54
    whole v e l = omega arith

-- ---- half of it, to the nearest

pub near : (a s : ℕ) → 2 ^ 52 ≤ a → a < 2 ^ 54 → IsRoot (a * 2 ^ 54) s → Near a ((s + 1) / 2)
near a s lo hi h =
    let q = (s + 1) / 2 in
    record { least = omega (arith, at_least); most = omega (arith, at_most); low = subst (λ (y : ℕ). y * y < a * 2 ^ 54) (odd q (omega (arith, at_least))) (under (q - 1) (omega (arith, at_least))); high = over (2 * q + 1) (omega arith) }
  where
    at_least : 2 ^ 53 < s + 1
    at_least = root-lt (2 ^ 53) (s + 1) (lt_of_le_of_lt (omega arith) h.high)

    at_most : s < 2 ^ 54
    at_most = root-below 54 s (a * 2 ^ 54) h.low (omega arith)

    odd : (q : ℕ) → 0 < q → 2 * (q - 1) + 1 ≡ 2 * q - 1
    odd q p = omega arith

    -- an odd number's square is odd
    under : (u : ℕ) → 2 * u + 1 ≤ s → (2 * u + 1) * (2 * u + 1) < a * 2 ^ 54
    under u g = omega (arith, mul-le-mul g g)

    over : (y : ℕ) → s + 1 ≤ y → a * 2 ^ 54 < y * y
    over y g = lt_of_lt_of_le h.high (mul-le-mul g g)
