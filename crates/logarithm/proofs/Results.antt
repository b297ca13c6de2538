-- What holds of the logarithm of every finite f64 above zero: 2 ^ N ≤ x ^ (2 ^ k) < 2 ^ (N + 2), and what is returned is N / 2 ^ k.
use mathlib.Core.Path.{◌≡◌, sym, ap, ◌∙◌, subst}
use mathlib.Core.Bool.{Bool, true, false, cond, true≢false}
use Prim.Native.Nat.{ℕ, zero, suc, ◌+◌, ◌-◌, ◌*◌, ◌^◌, ◌≤◌, ◌<◌}
use native.Mathlib.Nat.{le_trans, le_of_eq, lt_of_lt_of_le, lt_of_le_of_lt, lt_irrefl, mul_assoc, mul_comm, one-mul, mul-pos, one-le-pow, mul-le-mul_right, mul-lt-mul_of_pos_right, le_of_mul-le-mul_right, lt_of_mul-lt-mul_right, suc-mul}
use native.Mathlib.Omega.{arith}
use lib.Dec.{T, eqb, lit≤, lit<}
use lib.IntN.{ℤ, nat_abs}
use lib.Pow.{pow-add, pow_pos, pow_mono}
use borrow.Author.Tests.{ltb-true, ne_eqb}
use lib.Ieee.{Float, nan, inf, fin, binary64, up, down, minus, size, fits, lt, of_bits}
use lib.Ieee.Digits.{minus_val, size-le}
use lib.Ieee.Exact.{HasValue}
use lib.Ieee.Fits.{down_pos, nan-fits, inf-fits, cond-fits, round-fits, mul-fits}
use lib.Ieee.Positive.{num, den, den_pos}
use lib.Ieee.Scale.{finite}
use Rattle.float.specs.Units.{units_of}
use Rattle.float.specs.Arithmetic.{zero64}
use Rattle.float.proofs.Powers.{value-power, two-power}
use Rattle.float.proofs.Units.{units-value, units-pos, units_lt}
use Rattle.logarithm.specs.Logarithm.{steps, cut_of, whole_log_of, units_log_of, log_of, negative, quotient_of, log2_at, log2_to, log2_of, log10_two, log10_of, Within}
use Rattle.logarithm.specs.Laws.{SignificandLaws}
use Rattle.logarithm.proofs.Squaring.{digits_kept, bits_after, fraction-lt}
use Rattle.logarithm.proofs.Bounds.{cut-digits, log_bounds}
use Rattle.logarithm.proofs.Divided.{minus-small, quotient-value}
use Rattle.logarithm.proofs.Small.{value-finite, value-small, mul-finite, mul_small}

-- ---- a finite f64 above zero

record Above (x : Float) : Type 0 where
  some : 0 < units_of x
  bounded : units_of x < 2 ^ 2098
  value : units_of x * den x ≡ num x * 2 ^ 1074
  result : (k : ℕ) → log2_to k x ≡ quotient_of k (log_of k x)

own-result : (k m : ℕ) (e : ℤ) → 0 < units_of (fin false m e) → log2_to k (fin false m e) ≡ quotient_of k (log_of k (fin false m e))
unfolding log2_to log2_at
own-result k m e p =
    let n = units_of (fin false m e) in
    ap (λ (b : Bool). cond b (inf true) (quotient_of k (units_log_of k n))) (ne_eqb n 0 (λ (z : n ≡ 0). lt_irrefl 0 (subst (λ (y : ℕ). 0 < y) z p)))

above : (x : Float) → T (fits binary64 x) → lt zero64 x ≡ true → T (finite x) → Above x
unfolding lt of_bits
above nan t h f = absurd f
above (inf s) t h f = absurd f
above (fin true m e) t h f = absurd (true≢false (sym h))
above (fin false zero e) t h f = absurd (omega (arith, ltb-true (0 * down e) (0 * up e * 1) h))
above (fin false (suc m) e) t h f =
    let p = units-pos false m e t in
    record {
      some = p;
      bounded = units_lt false (suc m) e t;
      value = sym (units-value false (suc m) e t).1;
      result = λ k. own-result k (suc m) e p;
    }

-- ---- the bounds

-- of the value v / d, from those of n units of 2 ^ -w
module _ (v n d w q a : ℕ) (units : n * d ≡ v * 2 ^ w) where
  within : 0 < d → 2 ^ a ≤ n ^ q → n ^ q < 2 ^ (a + 2) → Within q v d (minus a (w * q))
  within D lo hi =
      let N = minus a (w * q) in
      let u = up N in
      let t = down N in
      let r : u * 2 ^ (w * q) ≡ 2 ^ a * t = ap (λ (x : ℕ). x * 2 ^ (w * q)) (sym (one-mul u)) ∙ minus_val 1 a (w * q) ∙ ap (λ (x : ℕ). x * t) (one-mul (2 ^ a)) in
      let top = value-power v n d w q a units u t r in
      let bottom = two-power v n d w q a units u t r in (
        le_of_mul-le-mul_right (le_trans (le_of_eq bottom) (le_trans (mul-le-mul_right (t * d ^ q) lo) (le_of_eq (sym top)))) (pow_pos (w * q)),
        lt_of_mul-lt-mul_right (2 ^ (w * q))
            (lt_of_le_of_lt (le_of_eq top)
            (lt_of_lt_of_le (mul-lt-mul_of_pos_right hi (mul-pos (down_pos N) (one-le-pow q d D)))
            (le_of_eq (ap (λ (x : ℕ). x * (t * d ^ q)) (pow-add 2 a 2 ∙ mul_comm (2 ^ a) 4) ∙ mul_assoc 4 (2 ^ a) (t * d ^ q) ∙ ap (λ (x : ℕ). 4 * x) (sym bottom) ∙ sym (mul_assoc 4 (u * d ^ q) (2 ^ (w * q))))))),
      )

module _ (k : ℕ) (x : Float) (t : T (fits binary64 x)) (h : lt zero64 x ≡ true) (f : T (finite x)) where
  -- 2 ^ N ≤ x ^ (2 ^ k) < 2 ^ (N + 2)
  pub log_within : k ≤ 28 → Within (2 ^ k) (num x) (den x) (log_of k x)
  unfolding units_log_of
  log_within l =
      let a = above x t h f in
      let n = units_of x in
      let b = log_bounds k n a.some (room k l) in
      within (num x) n (den x) 1074 (2 ^ k) (whole_log_of k n) a.value (den_pos x) b.0 b.1
    where
      room : (k : ℕ) → k ≤ 28 → (2 ^ k + 2 ^ k) + (2 ^ k + 2 ^ k) ≤ 2 ^ 30 + 1
      room k l = let p : 2 ^ k ≤ 2 ^ 28 = pow_mono l in omega arith

  whole_log-lt : whole_log_of k (units_of x) < 2098 * 2 ^ k
  unfolding whole_log_of
  whole_log-lt =
      let n = units_of x in
      let z : size n ≤ 2098 = size-le n 2098 (above x t h f).bounded in
      let y : suc (size n - 1) ≤ 2098 = omega arith in
      omega (arith, fraction-lt k (cut_of n), suc-mul (size n - 1) (2 ^ k), mul-le-mul_right (2 ^ k) y)

  -- no logarithm is larger than that of the least f64
  log_small : nat_abs (log_of k x) ≤ 1074 * 2 ^ k
  unfolding units_log_of
  log_small = minus-small (whole_log_of k (units_of x)) (1074 * 2 ^ k) (omega (arith, whole_log-lt))

  -- what is returned is N / 2 ^ k
  pub log2_to-value : k ≤ 42 → HasValue (log2_to k x) (negative (log_of k x)) (nat_abs (log_of k x)) (2 ^ k)
  log2_to-value l =
      subst (λ (y : Float). HasValue y (negative (log_of k x)) (nat_abs (log_of k x)) (2 ^ k)) (sym ((above x t h f).result k))
      (quotient-value k (log_of k x) (le_trans l (lit≤ tt)) (lt_of_le_of_lt log_small (room k l)))
    where
      room : (k : ℕ) → k ≤ 42 → 1074 * 2 ^ k < 2 ^ 53
      room k l = let p : 2 ^ k ≤ 2 ^ 42 = pow_mono l in omega arith

-- ---- the significand

pub significand_laws : SignificandLaws
significand_laws = record {
  digits = λ x t h f i. digits_kept i (cut_of (units_of x)) (cut-digits (units_of x) (above x t h f).some);
  bits_after = bits_after;
}

-- ---- the logarithm to 24 bits

module _ (x : Float) (t : T (fits binary64 x)) (h : lt zero64 x ≡ true) (f : T (finite x)) where
  pub log2-within : Within (2 ^ steps) (num x) (den x) (log_of steps x)
  log2-within = log_within steps x t h f (lit≤ tt)

  pub log2-value : HasValue (log2_of x) (negative (log_of steps x)) (nat_abs (log_of steps x)) (2 ^ steps)
  unfolding log2_of
  log2-value = log2_to-value steps x t h f (lit≤ tt)

  pub log2-finite : T (finite (log2_of x))
  log2-finite = value-finite (log2_of x) (negative (log_of steps x)) (nat_abs (log_of steps x)) (2 ^ steps) log2-value

  -- of at most 1,074 in size
  log2-small : num (log2_of x) ≤ 2 ^ 11 * den (log2_of x)
  log2-small = value-small (log2_of x) (negative (log_of steps x)) (nat_abs (log_of steps x)) (2 ^ steps) (2 ^ 11) (pow_pos steps) log2-value (le_trans (log_small steps x t h f) (mul-le-mul_right {m = 1074} {n = 2 ^ 11} (2 ^ steps) (lit≤ tt)))

  pub log10-finite : T (finite (log10_of x))
  unfolding log10_of of_bits
  log10-finite = mul-finite binary64 (log2_of x) log10_two 11 0 log2-finite tt log2-small (lit≤ tt) (lit< tt)

  -- of at most 4,096 in size
  pub log10-small : num (log10_of x) ≤ 2 ^ 12 * den (log10_of x)
  unfolding log10_of of_bits
  log10-small = mul_small binary64 (log2_of x) log10_two 11 0 log2-finite tt log2-small (lit≤ tt) 12 (lit< tt) (lit≤ tt) (lit≤ tt)

pub log2-fits : (x : Float) → T (fits binary64 (log2_of x))
unfolding log2_of log2_to log2_at quotient_of
log2-fits nan = nan-fits binary64
log2-fits (inf s) = cond-fits binary64 s nan (inf false) (nan-fits binary64) (inf-fits binary64 false)
log2-fits (fin s m e) =
    let n = units_of (fin s m e) in
    let q = quotient_of steps (units_log_of steps n) in
    cond-fits binary64 (eqb n 0) (inf true) (cond s nan q) (inf-fits binary64 true)
    (cond-fits binary64 s nan q (nan-fits binary64) (round-fits binary64 (negative (units_log_of steps n)) (nat_abs (units_log_of steps n)) (2 ^ steps)))

pub log10-fits : (x : Float) → T (fits binary64 (log10_of x))
unfolding log10_of
log10-fits x = mul-fits binary64 (log2_of x) log10_two
