-- The bounds of the logarithm: 2 ^ N ≤ n ^ (2 ^ k) < 2 ^ (N + 2) for N = whole_log_of k n.
-- Each power of 2 ^ 30 stands behind a variable exponent, or a variable base, so that antt computes none of them.
use mathlib.Core.Path.{◌≡◌, refl, sym, ap, ap₂, ◌∙◌, subst}
use Prim.Native.Nat.{ℕ, zero, suc, ◌+◌, ◌-◌, ◌*◌, ◌^◌, ◌≤◌, ◌<◌}
use native.Mathlib.Nat.{le_trans, le_of_eq, lt_of_lt_of_le, lt_of_le_of_lt, mul_assoc, mul_comm, mul-pos, mul-mul-mul_comm, pow-suc, pow-zero, one-le-pow, mul-le-mul_left, mul-le-mul_right, mul-lt-mul_of_pos_right, pow-le-pow_left, two-pow-succ, le_of_mul-le-mul_right, lt_of_mul-lt-mul_right, div-mul-le_self, lt-div-mul-add, zero-lt-suc, one-mul, suc-mul}
use native.Mathlib.Omega.{arith}
use lib.Pow.{pow-add, pow_pos}
use lib.Ieee.{size}
use lib.Ieee.Digits.{size-lt, size_reaches}
use Rattle.float.proofs.Powers.{mul_pow, pow_mul, at-most-twice}
use Rattle.logarithm.specs.Logarithm.{Digits31, squared, bit_of, next_of, fraction_of, cut_of, whole_log_of}
use Rattle.logarithm.proofs.Squaring.{next}

-- ---- both bounds, through k squarings

square_pow : (m q : ℕ) → (m * m) ^ q ≡ m ^ (q + q)
square_pow m q = mul_pow m m q ∙ sym (pow-add m q q)

product_pow : (m c b q : ℕ) → (m * (c * 2 ^ b)) ^ q ≡ m ^ q * (c ^ q * 2 ^ (b * q))
product_pow m c b q = mul_pow m (c * 2 ^ b) q ∙ ap (λ (x : ℕ). m ^ q * x) (mul_pow c (2 ^ b) q ∙ ap (λ (x : ℕ). c ^ q * x) (sym (pow_mul 2 b q)))

regroup : (a b c : ℕ) → a * b * (c * c) ≡ b * c * (c * a)
regroup a b c = ap (λ (x : ℕ). x * (c * c)) (mul_comm a b) ∙ mul-mul-mul_comm b a c c ∙ ap (λ (x : ℕ). b * c * x) (mul_comm a c)

pow_sums : (c q b f : ℕ) → 2 ^ (b * q + f) * c ^ (q + q) ≡ 2 ^ f * c ^ q * (c ^ q * 2 ^ (b * q))
pow_sums c q b f = ap₂ (λ (x y : ℕ). x * y) (pow-add 2 (b * q) f) (pow-add c q q) ∙ regroup (2 ^ (b * q)) (2 ^ f) (c ^ q)

join-low : (c m m' q b f : ℕ) → m' * (c * 2 ^ b) ≤ m * m → 2 ^ f * c ^ q ≤ m' ^ q → 2 ^ (b * q + f) * c ^ (q + q) ≤ m ^ (q + q)
join-low c m m' q b f s h =
    le_trans (le_of_eq (pow_sums c q b f))
    (le_trans (mul-le-mul_right (c ^ q * 2 ^ (b * q)) h)
    (le_trans (le_of_eq (sym (product_pow m' c b q))) (le_trans (pow-le-pow_left s q) (le_of_eq (square_pow m q)))))

join-high : (c m m' q b f : ℕ) → 0 < c → m * m ≤ m' * (c * 2 ^ b) → m' ^ q < 2 ^ suc f * c ^ q → m ^ (q + q) < 2 ^ suc (b * q + f) * c ^ (q + q)
join-high c m m' q b f p s h =
    lt_of_le_of_lt (le_trans (le_of_eq (sym (square_pow m q))) (le_trans (pow-le-pow_left s q) (le_of_eq (product_pow m' c b q))))
    (lt_of_lt_of_le (mul-lt-mul_of_pos_right h (mul-pos (one-le-pow q c p) (pow_pos (b * q))))
    (le_of_eq (sym (pow_sums c q b (suc f)) ∙ ap (λ (x : ℕ). 2 ^ x * c ^ (q + q)) (shift (b * q) f))))
  where
    shift : (a f : ℕ) → a + suc f ≡ suc (a + f)
    shift a f = omega arith

abbrev Bounds : ℕ → ℕ → ℕ → Type 0
Bounds q m f = (2 ^ f * (2 ^ 30) ^ q ≤ m ^ q) × (m ^ q < 2 ^ suc f * (2 ^ 30 + 1) ^ q)

pow_one : (m : ℕ) → m ^ 1 ≡ m
pow_one m = pow-suc m 0 ∙ ap (λ (x : ℕ). x * m) (pow-zero m) ∙ one-mul m

fraction-bounds : (k m : ℕ) → 2 ^ 30 ≤ m → m < 2 ^ 31 → Bounds (2 ^ k) m (fraction_of k m)
unfolding fraction_of
fraction-bounds zero m lo hi = (rw (pow_one m) lo, rw (pow_one m) (omega arith))
fraction-bounds (suc k) m lo hi =
    let b = bit_of (squared m) in
    let m' = next_of m in
    let s = next m lo hi in
    let ih = fraction-bounds k m' s.0 s.1 in
    subst (λ (q : ℕ). Bounds q m (b * 2 ^ k + fraction_of k m')) (sym (two-pow-succ k))
    (join-low (2 ^ 30) m m' (2 ^ k) b (fraction_of k m') s.2 ih.0, join-high (2 ^ 30 + 1) m m' (2 ^ k) b (fraction_of k m') (zero-lt-suc (2 ^ 30)) s.3 ih.1)

-- ---- the cut of n

abbrev Cut : ℕ → ℕ → ℕ → Type 0
Cut n y m = (2 ^ 30 ≤ m) × (m < 2 ^ 31) × (m * 2 ^ y ≤ n * 2 ^ 30) × (n * (2 ^ 30 * 2 ^ 30) ≤ m * ((2 ^ 30 + 1) * 2 ^ y))

-- with p for 2 ^ y, which stands in products only
cut-of : (n p m mp : ℕ) → 0 < p → p ≤ n → n < 2 * p → mp ≡ m * p → mp * 2 ≤ n * 2 ^ 31 → n * 2 ^ 31 < mp * 2 + 2 * p → (2 ^ 30 ≤ m) × (m < 2 ^ 31) × (mp ≤ n * 2 ^ 30) × (n * 2 ^ 60 ≤ mp * (2 ^ 30 + 1))
cut-of n p m mp pp lo hi e a b =
    let g : 2 ^ 30 ≤ m = le-of-suc (lt_of_mul-lt-mul_right p (subst (λ (x : ℕ). 2 ^ 30 * p < x) (step-up m p mp e) (omega arith))) in
    let h : m < 2 ^ 31 = lt_of_mul-lt-mul_right p (subst (λ (x : ℕ). x < 2 ^ 31 * p) e (omega arith)) in
    (g, h, omega arith, omega (arith, mul-le-mul_right p g))
  where
    le-of-suc : {a b : ℕ} → a < suc b → a ≤ b
    le-of-suc h = omega arith

    step-up : (m p mp : ℕ) → mp ≡ m * p → mp + p ≡ suc m * p
    step-up m p mp e = omega (arith, suc-mul m p)

cut_in : (n y : ℕ) → size n ≡ suc y → Cut n y (cut_of n)
cut_in n y e =
    let m = cut_of n in
    let p = 2 ^ y in
    let z : 2 ^ size n ≡ p * 2 = ap (λ (x : ℕ). 2 ^ x) e ∙ pow-suc 2 y in
    let lo : p ≤ n = size_reaches n y (omega arith) in
    let hi : n < 2 * p = omega (arith, size-lt n) in
    let w : m * 2 ^ size n ≡ m * p * 2 = ap (λ (x : ℕ). m * x) z ∙ sym (mul_assoc m p 2) in
    let r = cut-of n p m (m * p) (pow_pos y) lo hi refl (omega (arith, div-mul-le_self (n * 2 ^ 31) (2 ^ size n))) (omega (arith, lt-div-mul-add {a = n * 2 ^ 31} (pow_pos (size n)))) in
    (r.0, r.1, r.2, subst (λ (x : ℕ). n * (2 ^ 30 * 2 ^ 30) ≤ x) (mul_assoc m p (2 ^ 30 + 1) ∙ ap (λ (x : ℕ). m * x) (mul_comm p (2 ^ 30 + 1))) r.3)

some_digit : (n : ℕ) → 0 < n → size n ≡ suc (size n - 1)
some_digit n h = go (size n) refl
  where
    none : (a b : ℕ) → a ≡ 1 → 0 < b → b < a → ⊥
    none a b e h l = omega arith

    one_more : (z : ℕ) → suc z ≡ suc (suc z - 1)
    one_more z = omega arith

    go : (z : ℕ) → size n ≡ z → z ≡ suc (z - 1)
    go zero e = absurd (none (2 ^ size n) n (ap (λ (x : ℕ). 2 ^ x) e) h (size-lt n))
    go (suc z) e = one_more z

pub cut-digits : (n : ℕ) → 0 < n → Digits31 (cut_of n)
cut-digits n h = let c = cut_in n (size n - 1) (some_digit n h) in (c.0, c.1)

-- ---- from m to n

final_low : (c m n y q f : ℕ) → 0 < c → m * 2 ^ y ≤ n * c → 2 ^ f * c ^ q ≤ m ^ q → 2 ^ (y * q + f) ≤ n ^ q
final_low c m n y q f p s h =
    le_of_mul-le-mul_right
    (le_trans (le_of_eq (ap (λ (x : ℕ). x * c ^ q) (pow-add 2 (y * q) f) ∙ mul_assoc (2 ^ (y * q)) (2 ^ f) (c ^ q) ∙ mul_comm (2 ^ (y * q)) (2 ^ f * c ^ q)))
    (le_trans (mul-le-mul_right (2 ^ (y * q)) h)
    (le_trans (le_of_eq (ap (λ (x : ℕ). m ^ q * x) (pow_mul 2 y q) ∙ sym (mul_pow m (2 ^ y) q)))
    (le_trans (pow-le-pow_left s q) (le_of_eq (mul_pow n c q))))))
    (one-le-pow q c p)

final_high : (d m n y q f : ℕ) → 0 < d → (q + q) + (q + q) ≤ d + 1 → n * (d * d) ≤ m * ((d + 1) * 2 ^ y) → m ^ q < 2 ^ suc f * (d + 1) ^ q → n ^ q < 2 ^ (y * q + f + 2)
final_high d m n y q f p few s h =
    let c = d + 1 in
    lt_of_mul-lt-mul_right (d ^ (q + q))
    (lt_of_le_of_lt (le_trans (le_of_eq (ap (λ (x : ℕ). n ^ q * x) (sym (square_pow d q)) ∙ sym (mul_pow n (d * d) q)))
    (le_trans (pow-le-pow_left s q) (le_of_eq (product_pow m c y q))))
    (lt_of_lt_of_le (mul-lt-mul_of_pos_right h (mul-pos (one-le-pow q c (pos d)) (pow_pos (y * q))))
    (le_trans (le_of_eq (sym (pow_sums c q y (suc f))))
    (le_trans (mul-le-mul_left (2 ^ (y * q + suc f)) (at-most-twice d (q + q) few))
    (le_of_eq (sym (mul_assoc (2 ^ (y * q + suc f)) 2 (d ^ (q + q))) ∙ ap (λ (x : ℕ). x * d ^ (q + q)) (sym (pow-suc 2 (y * q + suc f)) ∙ ap (λ (x : ℕ). 2 ^ x) (two-more (y * q) f))))))))
  where
    pos : (d : ℕ) → 0 < d + 1
    pos d = omega arith

    two-more : (a f : ℕ) → suc (a + suc f) ≡ a + f + 2
    two-more a f = omega arith

pub log_bounds : (k n : ℕ) → 0 < n → (2 ^ k + 2 ^ k) + (2 ^ k + 2 ^ k) ≤ 2 ^ 30 + 1 → (2 ^ whole_log_of k n ≤ n ^ (2 ^ k)) × (n ^ (2 ^ k) < 2 ^ (whole_log_of k n + 2))
unfolding whole_log_of
log_bounds k n h few =
    let y = size n - 1 in
    let m = cut_of n in
    let s = cut_in n y (some_digit n h) in
    let b = fraction-bounds k m s.0 s.1 in
    (final_low (2 ^ 30) m n y (2 ^ k) (fraction_of k m) (zero-lt-suc (2 ^ 30 - 1)) s.2 b.0, final_high (2 ^ 30) m n y (2 ^ k) (fraction_of k m) (zero-lt-suc (2 ^ 30 - 1)) few s.3 b.1)
