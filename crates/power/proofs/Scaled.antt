-- The laws of 2 ^ y for e ^ x, 10 ^ u and 60 ^ u: a product with a constant above zero is a number where the other factor is, and at most 0 where that is.
use mathlib.Core.Path.{◌≡◌, refl, sym, ap, ◌∙◌, subst}
use mathlib.Core.Bool.{Bool, true, false, not, ◌&&◌, ◌||◌, cond, true≢false}
use Prim.Native.Nat.{ℕ, zero, suc, ◌+◌, ◌*◌, ◌^◌, ◌<◌}
use native.Mathlib.Nat.{mul-pos, zero-mul}
use native.Mathlib.Omega.{arith}
use lib.Dec.{T, ltb, eqb, lt→ltb, ltb→lt}
use lib.IntN.{ℤ}
use lib.Pow.{pow_pos}
use borrow.Author.Tests.{ne_eqb}
use lib.Ieee.{Float, nan, inf, fin, Format, binary64, prec, emax, low, up, down, odd, units, unlike, round, mul, lt, eq, le, is_nan, fits, of_bits}
use lib.Ieee.Fits.{down_pos, round_is}
use lib.Ieee.Positive.{positive}
use lib.Ieee.Scale.{finite, round_same}
use Rattle.float.specs.Valid.{plus}
use Rattle.float.specs.Arithmetic.{zero64, one64}
use Rattle.float.proofs.Signs.{Signed, round-signed}
use Rattle.power.specs.Power.{exp2_of, log2_e, log2_ten, log2_sixty, exp_of, exp10_of, exp60_of}
use Rattle.power.specs.Bounds.{PowerLaws}
use Rattle.power.proofs.Values.{no_size, exp2-laws}

-- ---- rounding gives no NaN

odd_number : (d : ℕ) (s : Bool) (q k l : ℕ) → T (not (is_nan (odd d s q k l)))
unfolding odd is_nan
odd_number d s zero k l = tt
odd_number d s (suc q) k l = tt

units_number : (f : Format) (s : Bool) (q k : ℕ) → T (not (is_nan (units f s q k)))
unfolding units
units_number f s q k = go (ltb (q * 2 ^ k) (2 ^ (low f + suc (emax f))))
  where
    go : (b : Bool) → T (not (is_nan (cond b (odd (suc (prec f)) s q k (low f)) (inf s))))
    go true = odd_number (suc (prec f)) s q k (low f)
    go false = unfold is_nan in tt

pub round_number : (f : Format) (s : Bool) (a b : ℕ) → T (not (is_nan (round f s a b)))
round_number f s a b = subst (λ (v : Float). T (not (is_nan v))) (sym (round_is f s a b)) (units_number f s _ _)

-- ---- what has a minus sign is at most 0

pub minus-le : (v : Float) → Signed true v → T (not (is_nan v)) → T (le v zero64)
unfolding le lt eq is_nan of_bits
minus-le nan s n = absurd n
minus-le (inf true) s n = tt
minus-le (inf false) s n = absurd (true≢false (sym s))
minus-le (fin true m e) s n = go (m * up e * 1) (0 * down e) (zero-mul (down e))
  where
    go : (a b : ℕ) → b ≡ 0 → T (ltb 0 (a + b) || (eqb a b && (false || eqb a 0)))
    go zero b h = subst (λ (b : ℕ). T (ltb 0 (0 + b) || (eqb 0 b && true))) (sym h) tt
    go (suc a) b h = left (ltb 0 (suc a + b)) (eqb (suc a) b && (false || eqb (suc a) 0)) (lt→ltb 0 (suc a + b) (omega arith))
      where
        left : (x y : Bool) → T x → T (x || y)
        left true y t = tt
        left false y t = absurd t
minus-le (fin false m e) s n = absurd (true≢false (sym s))

-- ---- a product with a constant above zero

above_zero : (n : ℕ) → T (ltb 0 n) → eqb n 0 ≡ false
above_zero n t = ne_eqb n 0 (some n (ltb→lt 0 n t))
  where
    some : (n : ℕ) → 0 < n → n ≡ 0 → ⊥
    some n h e = omega arith

pub times-number : (c x : Float) → T (positive c) → T (not (is_nan x)) → T (not (is_nan (mul binary64 x c)))
unfolding mul is_nan
times-number nan x p n = absurd p
times-number (inf t) x p n = absurd p
times-number (fin true m e) x p n = absurd p
times-number (fin false m e) nan p n = absurd n
times-number (fin false m e) (inf s) p n = subst (λ (b : Bool). T (not (is_nan (cond b nan (inf (unlike s false)))))) (sym (above_zero m p)) tt
times-number (fin false m e) (fin s k d) p n = round_number binary64 (unlike s false) (k * up d * (m * up e)) (down d * down e)

zero-times : (e d : ℤ) (m : ℕ) → T (le (round binary64 false (0 * up e * (m * up d)) (down e * down d)) zero64)
unfolding le lt eq of_bits round
zero-times e d m = subst (λ (v : Float). T (le v zero64)) (sym (round_same binary64 false (0 * up e * (m * up d)) (down e * down d) 0 1 (mul-pos (down_pos e) (down_pos d)) (pow_pos 0) (none (up e) (m * up d) (down e * down d)))) tt
  where
    none : (u w c : ℕ) → 0 * u * w * 1 ≡ 0 * c
    none u w c = simp zero-mul

pub times-le : (c x : Float) → T (positive c) → T (le x zero64) → T (le (mul binary64 x c) zero64)
unfolding mul le lt eq of_bits
times-le nan x p a = absurd p
times-le (inf t) x p a = absurd p
times-le (fin true m e) x p a = absurd p
times-le (fin false m e) nan p a = absurd a
times-le (fin false m e) (inf true) p a = subst (λ (b : Bool). T (le (cond b nan (inf true)) zero64)) (sym (above_zero m p)) tt
times-le (fin false m e) (inf false) p a = absurd a
times-le (fin false m e) (fin true k d) p a =
    let n = k * up d * (m * up e) in
    let c = down d * down e in
    minus-le (round binary64 true n c) (round-signed binary64 true n c) (round_number binary64 true n c)
times-le (fin false m e) (fin false k d) p a = subst (λ (k : ℕ). T (le (round binary64 false (k * up d * (m * up e)) (down d * down e)) zero64)) (sym (no_size k d a)) (zero-times d e m)

nan-times : (c : Float) → mul binary64 nan c ≡ nan
unfolding mul
nan-times c = refl

-- ---- the powers by 2 ^ y

scaled-laws : (c : Float) (F : Float → Float) → ((x : Float) → exp2_of (mul binary64 x c) ≡ F x) → T (positive c) → PowerLaws F
scaled-laws c F e p = record {
  held = λ x. subst (λ (v : Float). T (fits binary64 v)) (e x) (exp2-laws.held (mul binary64 x c));
  no_minus = λ x. subst (λ (v : Float). T (plus v)) (e x) (exp2-laws.no_minus (mul binary64 x c));
  is_finite = λ x n. subst (λ (v : Float). T (finite v)) (e x) (exp2-laws.is_finite (mul binary64 x c) (times-number c x p n));
  at_nan = sym (e nan) ∙ ap exp2_of (nan-times c) ∙ exp2-laws.at_nan;
  at_most_one = λ x a. subst (λ (v : Float). T (le v one64)) (e x) (exp2-laws.at_most_one (mul binary64 x c) (times-le c x p a));
}

pub exp_laws : PowerLaws exp_of
unfolding exp_of of_bits
exp_laws = scaled-laws log2_e exp_of (λ x. refl) tt

pub exp10_laws : PowerLaws exp10_of
unfolding exp10_of of_bits
exp10_laws = scaled-laws log2_ten exp10_of (λ u. refl) tt

pub exp60_laws : PowerLaws exp60_of
unfolding exp60_of of_bits
exp60_laws = scaled-laws log2_sixty exp60_of (λ u. refl) tt
