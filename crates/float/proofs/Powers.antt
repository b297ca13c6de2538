-- Laws of powers that the native library lacks, and a form of Bernoulli's inequality.
use Rattle.std.proofs.Common.{◌≡◌, ℕ, zero, suc, ◌+◌, ◌*◌, ◌^◌, ◌<◌, ◌≤◌, sym, ap, ◌∙◌, ap₂, mul-le-mul_right, mul_assoc, suc-mul, mul_comm, add-mul, mul-le-mul_left, pow-suc, mul-one, mul-suc, mul-add, mul_right_comm, le_of_mul-le-mul_right, arith, pow-add}
use native.Mathlib.Nat.{mul-mul-mul_comm, pow-zero}
use native.Mathlib.Numerals.{unary_clauses}

-- (a * b) ^ n
pub mul_pow : (a b n : ℕ) → (a * b) ^ n ≡ a ^ n * b ^ n
mul_pow a b zero = simp unary_clauses
mul_pow a b (suc n) =
    pow-suc (a * b) n ∙ ap (λ (x : ℕ). x * (a * b)) (mul_pow a b n) ∙ mul-mul-mul_comm (a ^ n) (b ^ n) a b
    ∙ ap₂ (λ (x y : ℕ). x * y) (sym (pow-suc a n)) (sym (pow-suc b n))

-- a ^ (i * j)
pub pow_mul : (a i j : ℕ) → a ^ (i * j) ≡ (a ^ i) ^ j
pow_mul a i zero = simp unary_clauses
pow_mul a i (suc j) =
    ap (λ (x : ℕ). a ^ x) (mul-suc i j) ∙ pow-add a (i * j) i ∙ ap (λ (x : ℕ). x * a ^ i) (pow_mul a i j) ∙ sym (pow-suc (a ^ i) j)

-- (1 + 1 / d) ^ n ≤ (d + 1) / (d + 1 - n), with the denominators multiplied out and n * (d + 1) ^ n moved over
pub bernoulli : (d n : ℕ) → (d + 1) ^ n * (d + 1) ≤ d ^ n * (d + 1) + n * (d + 1) ^ n
bernoulli d zero = rw (pow-zero, pow-zero) (omega arith)
bernoulli d (suc n) =
    let c = d + 1 in
    let p = c ^ n in
    let q = d ^ n in
    rw (pow-suc c n, pow-suc d n)
    (omega (
      arith,
      mul-le-mul_right d (bernoulli d n),
      add-mul (q * c) (n * p) d,
      mul-le-mul_left (n * p) (more d),
      mul-add (p * c) d 1,
      mul-one (p * c),
      mul_right_comm q d c,
      suc-mul n (p * c),
      mul_assoc n p c,
    ))
  where
    more : (d : ℕ) → d ≤ d + 1
    more d = omega arith

-- so for n up to half of d + 1 the power is at most 2
pub at-most-twice : (d n : ℕ) → n + n ≤ d + 1 → (d + 1) ^ n ≤ 2 * d ^ n
at-most-twice d n h =
    le_of_mul-le-mul_right
    (omega (
      arith,
      bernoulli d n,
      mul-le-mul_left ((d + 1) ^ n) h,
      mul-add ((d + 1) ^ n) n n,
      mul_comm n ((d + 1) ^ n),
      mul_assoc 2 (d ^ n) (d + 1),
    ))
    (pos d)
  where
    pos : (d : ℕ) → 0 < d + 1
    pos d = omega arith

-- The power of a value v / d by its whole number n of units of 2 ^ -w, beside the power 2 ^ (a - w * q), written as u / t.
module _ (v n d w q a : ℕ) (units : n * d ≡ v * 2 ^ w) (u t : ℕ) (ratio : u * 2 ^ (w * q) ≡ 2 ^ a * t) where
  pub value-power : v ^ q * t * 2 ^ (w * q) ≡ n ^ q * (t * d ^ q)
  value-power =
      mul_right_comm (v ^ q) t (2 ^ (w * q))
      ∙ ap (λ (x : ℕ). x * t) (ap (λ (x : ℕ). v ^ q * x) (pow_mul 2 w q) ∙ sym (mul_pow v (2 ^ w) q) ∙ ap (λ (x : ℕ). x ^ q) (sym units) ∙ mul_pow n d q)
      ∙ mul_assoc (n ^ q) (d ^ q) t
      ∙ ap (λ (x : ℕ). n ^ q * x) (mul_comm (d ^ q) t)

  pub two-power : u * d ^ q * 2 ^ (w * q) ≡ 2 ^ a * (t * d ^ q)
  two-power = mul_right_comm u (d ^ q) (2 ^ (w * q)) ∙ ap (λ (x : ℕ). x * d ^ q) ratio ∙ mul_assoc (2 ^ a) t (d ^ q)
