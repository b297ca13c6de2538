-- One squaring: m keeps its 31 binary digits, and the bits after it are those of the next m.
use mathlib.Core.Path.{◌≡◌, refl, sym, ap, ap₂, ◌∙◌, subst}
use mathlib.Core.Bool.{Bool, true, false, not, cond}
use Prim.Native.Nat.{ℕ, zero, suc, ◌+◌, ◌-◌, ◌*◌, ◌/◌, ◌^◌, ◌≤◌, ◌<◌}
use native.Mathlib.Nat.{zero-mul, mul_assoc, add-mul, pow-succ', mul-le-mul, le_of_lt, lt_of_lt_of_le, lt_of_le_of_lt}
use native.Mathlib.Omega.{arith}
use lib.Dec.{T, leb, leb→le, nleb→lt}
use lib.Pow.{pow-add, pow_mono}
use Rattle.logarithm.specs.Logarithm.{Digits31, steps, squared, bit_of, next_of, significand_of, fraction_of}

-- the next bit b and the next m, from the square x
abbrev pub Step : ℕ → ℕ → ℕ → Type 0
Step x b m = (2 ^ 30 ≤ m) × (m < 2 ^ 31) × (m * (2 ^ 30 * 2 ^ b) ≤ x) × (x ≤ m * ((2 ^ 30 + 1) * 2 ^ b))

step : (x : ℕ) → 2 ^ 60 ≤ x → x < 2 ^ 62 → (bit_of (x / 2 ^ 30) ≡ x / 2 ^ 30 / 2 ^ 31) × Step x (bit_of (x / 2 ^ 30)) (x / 2 ^ 30 / 2 ^ bit_of (x / 2 ^ 30))
step x lo hi = go (leb (2 ^ 31) (x / 2 ^ 30)) (leb→le (2 ^ 31) (x / 2 ^ 30)) (nleb→lt (2 ^ 31) (x / 2 ^ 30))
  where
    high : 2 ^ 31 ≤ x / 2 ^ 30 → (1 ≡ x / 2 ^ 30 / 2 ^ 31) × Step x 1 (x / 2 ^ 30 / 2 ^ 1)
    high h = (omega arith, omega arith)

    low : x / 2 ^ 30 < 2 ^ 31 → (0 ≡ x / 2 ^ 30 / 2 ^ 31) × Step x 0 (x / 2 ^ 30 / 2 ^ 0)
    low h = (omega arith, omega arith)

    go : (t : Bool) → (T t → 2 ^ 31 ≤ x / 2 ^ 30) → (T (not t) → x / 2 ^ 30 < 2 ^ 31) → (cond t 1 0 ≡ x / 2 ^ 30 / 2 ^ 31) × Step x (cond t 1 0) (x / 2 ^ 30 / 2 ^ cond t 1 0)
    go true a b = high (a tt)
    go false a b = low (b tt)

module _ (m : ℕ) (lo : 2 ^ 30 ≤ m) (hi : m < 2 ^ 31) where
  pub square_in : (2 ^ 60 ≤ m * m) × (m * m < 2 ^ 62)
  square_in = (mul-le-mul lo lo, lt_of_le_of_lt (mul-le-mul (le_of_lt hi) (below m hi)) (room tt))
    where
      below : (m : ℕ) → m < 2 ^ 31 → m ≤ 2 ^ 31 - 1
      below m h = omega arith

      room : Unit {0} → 2 ^ 31 * (2 ^ 31 - 1) < 2 ^ 62
      room t = omega arith

  -- the bit is what stands above 31 digits
  pub bit_is : bit_of (squared m) ≡ squared m / 2 ^ 31
  bit_is = (step (m * m) square_in.0 square_in.1).0

  pub next : Step (m * m) (bit_of (squared m)) (next_of m)
  next = (step (m * m) square_in.0 square_in.1).1

  -- as the code says it
  next_is : squared m / 2 ^ (squared m / 2 ^ 31) ≡ next_of m
  next_is = ap (λ (b : ℕ). squared m / 2 ^ b) (sym bit_is)

-- ---- from squaring to squaring

pub digits_kept : (i m : ℕ) → Digits31 m → Digits31 (significand_of i m)
unfolding significand_of
digits_kept zero m d = d
digits_kept (suc i) m d = let n = next m d.0 d.1 in digits_kept i (next_of m) (n.0, n.1)

next_after : (i m : ℕ) → significand_of (suc i) m ≡ next_of (significand_of i m)
unfolding significand_of
next_after zero m = refl
next_after (suc i) m = next_after i (next_of m)

-- the first i bits stand above those that the m after i squarings gives
pub bits_after : (i k m : ℕ) → fraction_of (i + k) m ≡ fraction_of i m * 2 ^ k + fraction_of k (significand_of i m)
unfolding fraction_of significand_of
bits_after zero k m = ap (λ (n : ℕ). fraction_of n m) (none k) ∙ sym (ap (λ (n : ℕ). n + fraction_of k m) (zero-mul (2 ^ k)) ∙ none (fraction_of k m))
  where
    none : (n : ℕ) → 0 + n ≡ n
    none n = omega arith
bits_after (suc i) k m =
    let m' = next_of m in
    ap (λ (n : ℕ). fraction_of n m) (out i k)
    ∙ ap₂ (λ (p r : ℕ). bit_of (squared m) * p + r) (pow-add 2 i k) (bits_after i k m')
    ∙ sums (bit_of (squared m)) (2 ^ i) (2 ^ k) (fraction_of i m') (fraction_of k (significand_of i m'))
  where
    out : (i k : ℕ) → suc i + k ≡ suc (i + k)
    out i k = omega arith

    sums : (b p q f r : ℕ) → b * (p * q) + (f * q + r) ≡ (b * p + f) * q + r
    sums b p q f r = omega (arith, mul_assoc b p q, add-mul (b * p) f q)

-- k bits
pub fraction-lt : (k m : ℕ) → fraction_of k m < 2 ^ k
unfolding fraction_of
fraction-lt zero m = omega arith
fraction-lt (suc k) m = go (leb (2 ^ 31) (squared m)) (λ b. fraction-lt k (squared m / 2 ^ b))
  where
    go : (t : Bool) → ((b : ℕ) → fraction_of k (squared m / 2 ^ b) < 2 ^ k) → cond t 1 0 * 2 ^ k + fraction_of k (squared m / 2 ^ cond t 1 0) < 2 ^ suc k
    go true ih = omega (arith, ih 1, pow-succ' 2 k)
    go false ih = omega (arith, ih 0, pow-succ' 2 k)

-- ---- the loop, after i turns

pub bits_below : (i m f : ℕ) → i ≤ steps → f ≡ fraction_of i m → f < 2 ^ steps
bits_below i m f h e = lt_of_lt_of_le (subst (λ (x : ℕ). x < 2 ^ i) (sym e) (fraction-lt i m)) (pow_mono h)

module _ (i m s : ℕ) (d : Digits31 m) (at : s ≡ significand_of i m) where
  digits-now : Digits31 s
  digits-now = subst Digits31 (sym at) (digits_kept i m d)

  pub square_below : s * s < 2 ^ 62
  square_below = (square_in s digits-now.0 digits-now.1).1

  -- one turn more
  pub s_next : squared s / 2 ^ (squared s / 2 ^ 31) ≡ significand_of (i + 1) m
  s_next = next_is s digits-now.0 digits-now.1 ∙ ap next_of at ∙ sym (next_after i m) ∙ ap (λ (n : ℕ). significand_of n m) (more i)
    where
      more : (i : ℕ) → suc i ≡ i + 1
      more i = omega arith

  pub f_next : (f : ℕ) → f ≡ fraction_of i m → f * 2 + squared s / 2 ^ 31 ≡ fraction_of (i + 1) m
  unfolding fraction_of
  f_next f so-far =
      ap₂ (λ (x y : ℕ). x * 2 + y) so-far (sym (bit_is s digits-now.0 digits-now.1) ∙ ap (λ (x : ℕ). bit_of (squared x)) at)
      ∙ sym (bits_after i 1 m ∙ last (fraction_of i m) (significand_of i m))
    where
      last : (f x : ℕ) → f * 2 ^ 1 + fraction_of 1 x ≡ f * 2 + bit_of (squared x)
      last f x = omega arith
