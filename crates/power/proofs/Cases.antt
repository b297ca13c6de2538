-- The cases of 2 ^ y: below -1,000, no number, and from -1,000 on, where y counts as 1,000 at most.
use mathlib.Core.Path.{◌≡◌, refl, sym, ap, ◌∙◌, subst}
use mathlib.Core.Bool.{Bool, true, false, not, cond, true≢false}
use Prim.Native.Nat.{ℕ, ◌*◌, ◌/◌, ◌^◌, ◌≤◌, ◌<◌, zero-le}
use native.Mathlib.Nat.{le_trans, le_of_eq, mul-one, mul_right_comm, mul-le-mul_right, mul-div_cancel, le-div_iff_mul-le, div-mul-le_self}
use native.Mathlib.Omega.{arith}
use lib.Dec.{T, T_not, ltb, lit≤}
use lib.IntN.{ℤ}
use borrow.Author.Tests.{ltb-false}
use lib.Ieee.{Float, nan, inf, fin, binary64, up, down, lt, neg, is_nan, fits, of_bits}
use lib.Ieee.Fits.{down_pos, cond-fits}
use lib.Ieee.Scale.{finite}
use Rattle.float.specs.Units.{units_of}
use Rattle.float.specs.Kind.{kind_of}
use Rattle.float.specs.Choice.{min_of}
use Rattle.float.specs.Arithmetic.{zero64}
use Rattle.float.specs.declared.Parts.{Parts}
use Rattle.float.specs.declared.Kind.TheVariants.{NotANumber, Infinite, Finite}
use Rattle.float.proofs.Classified.{is-nan, is-infinite, is_finite}
use Rattle.power.specs.Power.{floor_units, floor_of, above, pow_at, thousand, exp2_of}
use Rattle.power.proofs.Floors.{exponent-le}

-- ---- below -1,000, and a NaN

number-below : (y : Float) → lt y (neg thousand) ≡ true → is_nan y ≡ false
unfolding lt is_nan
number-below nan h = sym h
number-below (inf s) h = refl
number-below (fin s m e) h = refl

pub exp2-below : (y : Float) → lt y (neg thousand) ≡ true → zero64 ≡ exp2_of y
unfolding exp2_of
exp2-below y h = sym (simp (number-below y h, h))

pub exp2-nan : exp2_of nan ≡ nan
unfolding exp2_of is_nan
exp2-nan = refl

-- ---- from -1,000 on

pub exp2-from : (y : Float) → T (not (is_nan y)) → lt y (neg thousand) ≡ false → pow_at (above (floor_of (min_of y thousand))) ≡ exp2_of y
unfolding exp2_of is_nan
exp2-from nan n h = absurd n
exp2-from (inf s) n h = sym (simp h)
exp2-from (fin s m e) n h = sym (simp h)

pick-finite : (b : Bool) (x y : Float) → T (finite x) → T (finite y) → T (finite (cond b x y))
pick-finite true x y p q = p
pick-finite false x y p q = q

thousand-finite : T (finite thousand)
unfolding of_bits
thousand-finite = tt

min-finite : (y : Float) → T (not (is_nan y)) → lt y (neg thousand) ≡ false → T (finite (min_of y thousand))
unfolding min_of lt neg is_nan of_bits
min-finite nan n h = absurd n
min-finite (inf true) n h = absurd (true≢false h)
min-finite (inf false) n h = tt
min-finite (fin s m e) n h = pick-finite (lt thousand (fin s m e)) thousand (fin s m e) thousand-finite tt

-- so what is not finite there is a NaN
pub exp2-other : (y : Float) → lt y (neg thousand) ≡ false → T (not (finite (min_of y thousand))) → y ≡ exp2_of y
exp2-other nan h n = sym exp2-nan
exp2-other (inf s) h n = absurd (T_not (finite (min_of (inf s) thousand)) n (min-finite (inf s) (unfold is_nan in tt) h))
exp2-other (fin s m e) h n = absurd (T_not (finite (min_of (fin s m e) thousand)) n (min-finite (fin s m e) (unfold is_nan in tt) h))

pub kind-nan : (x : Float) → kind_of x ≡ NotANumber → T (not (finite x))
kind-nan x h = subst (λ (v : Float). T (not (finite v))) (sym (is-nan x h)) tt

pub kind-infinite : (x : Float) (s : Bool) → kind_of x ≡ Infinite s → T (not (finite x))
kind-infinite x s h = subst (λ (v : Float). T (not (finite v))) (sym (is-infinite x s h)) tt

-- ---- a size of at most 1,000

pub units-le : (s : Bool) (m : ℕ) (e : ℤ) → m * up e ≤ 1000 * down e → units_of (fin s m e) ≤ 1000 * 2 ^ 1074
unfolding units_of
units-le s m e h = quotient (m * up e) (down e) (2 ^ 1074) 1000 (down_pos e) h
  where
    quotient : (v d p c : ℕ) → 0 < d → v ≤ c * d → v * p / d ≤ c * p
    quotient v d p c D h =
        le_trans ((le-div_iff_mul-le D).1 (le_trans (div-mul-le_self (v * p) d) (le_trans (mul-le-mul_right p h) (le_of_eq (mul_right_comm c d p)))))
        (le_of_eq (mul-div_cancel (c * p) D))

thousand-units : units_of thousand ≤ 1000 * 2 ^ 1074
unfolding units_of of_bits
thousand-units = lit≤ tt

pub min-units : (y : Float) → lt y (neg thousand) ≡ false → units_of (min_of y thousand) ≤ 1000 * 2 ^ 1074
unfolding min_of lt neg of_bits
min-units nan h = unfold units_of in zero-le
min-units (inf true) h = absurd (true≢false h)
min-units (inf false) h = thousand-units
min-units (fin true m e) h = units-le true m e (rw mul-one at (ltb-false (1000 * down e) (m * up e * 1) h))
min-units (fin false m e) h = go (ltb (1000 * down e) (m * up e * 1)) (ltb-false (1000 * down e) (m * up e * 1))
  where
    go : (b : Bool) → (b ≡ false → m * up e * 1 ≤ 1000 * down e) → units_of (cond b thousand (fin false m e)) ≤ 1000 * 2 ^ 1074
    go true g = thousand-units
    go false g = units-le false m e (rw mul-one at (g refl))

-- What the code has of a y from -1,000 on: the parts of y, or of 1,000.
pub record Counted (y : Float) (p : Parts) : Type 0 where
  pub few : p.sig < 2 ^ 53
  pub place : p.exp ≤ 1050
  pub size : p.sig * 2 ^ p.exp ≤ 1000 * 2 ^ 1074
  pub same : pow_at (above (floor_units p.negative (p.sig * 2 ^ p.exp))) ≡ exp2_of y

thousand-fits : T (fits binary64 thousand)
unfolding of_bits fits
thousand-fits = tt

number-kind : (y : Float) (p : Parts) → kind_of (min_of y thousand) ≡ Finite p → T (not (is_nan y))
unfolding min_of lt kind_of is_nan of_bits
number-kind nan p h = absurd (apart (cc))
  where
    apart : ◌≡◌ {A = ℕ} 0 1 → ⊥
    apart e = omega arith
number-kind (inf s) p h = tt
number-kind (fin s m e) p h = tt

floor-is : (s : Bool) (m : ℕ) (e : ℤ) → floor_of (fin s m e) ≡ floor_units s (units_of (fin s m e))
unfolding floor_of
floor-is s m e = refl

min-fits : (y : Float) → T (fits binary64 y) → T (fits binary64 (min_of y thousand))
unfolding min_of
min-fits y t = cond-fits binary64 (lt thousand y) thousand y thousand-fits t

pub counted : (y : Float) (p : Parts) → T (fits binary64 y) → lt y (neg thousand) ≡ false → kind_of (min_of y thousand) ≡ Finite p → Counted y p
counted y p t h k =
    let f = is_finite (min_of y thousand) p (min-fits y t) k in
    let u : p.sig * 2 ^ p.exp ≤ 1000 * 2 ^ 1074 = le_trans (le_of_eq f.parts_of.whole) (min-units y h) in
    record {
      few = f.parts_of.short;
      place = exponent-le p.sig p.exp u f.parts_of.normal;
      size = u;
      same = ap (λ (K : ℤ). pow_at (above K)) (f.by_units floor_of floor_units floor-is) ∙ exp2-from y (number-kind y p k) h;
    }
