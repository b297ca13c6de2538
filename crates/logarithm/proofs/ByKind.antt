-- The logarithm by what kind of f64 a value is: a law for each arm of `log2`.
use mathlib.Core.Path.{◌≡◌, refl, sym, ap, ◌∙◌, subst}
use mathlib.Core.Bool.{Bool, true, false, cond}
use Prim.Native.Nat.{ℕ, zero, suc, ◌*◌, ◌^◌, ◌<◌}
use native.Mathlib.Nat.{zero-mul, mul-pos, lt_irrefl, zero-lt-suc}
use lib.Dec.{T}
use lib.Pow.{pow_pos}
use borrow.Author.Tests.{eq-eqb, ne_eqb}
use lib.Ieee.{Float, nan, inf, binary64, minus, fits}
use Rattle.float.specs.Kind.{kind_of, InRange}
use Rattle.float.specs.declared.Parts.{Parts}
use Rattle.float.specs.declared.Kind.TheVariants.{NotANumber, Infinite, Finite}
use Rattle.float.proofs.Classified.{is-nan, is-infinite, is_finite}
use Rattle.logarithm.specs.Logarithm.{steps, whole_log_of, units_log_of, quotient_of, log2_at, log2_to, log2_of}

pub of_nan : (x : Float) → kind_of x ≡ NotANumber → x ≡ log2_of x
unfolding log2_of log2_to
of_nan x h = subst (λ (v : Float). v ≡ log2_of v) (sym (is-nan x h)) refl

pub of-infinite : (x : Float) (s : Bool) → kind_of x ≡ Infinite s → cond s nan x ≡ log2_of x
unfolding log2_of log2_to
of-infinite x s h = subst (λ (v : Float). cond s nan v ≡ log2_of v) (sym (is-infinite x s h)) (same s)
  where
    same : (s : Bool) → cond s nan (inf s) ≡ cond s nan (inf false)
    same true = refl
    same false = refl

-- a finite x, by its parts
module _ (x : Float) (p : Parts) (t : T (fits binary64 x)) (h : kind_of x ≡ Finite p) where
  by_units : log2_at steps p.negative (p.sig * 2 ^ p.exp) ≡ log2_of x
  unfolding log2_of log2_to
  by_units = (is_finite x p t h).by_units log2_of (log2_at steps) (λ s m e. refl)

  pub of_zero : p.sig ≡ 0 → inf true ≡ log2_of x
  unfolding log2_at
  of_zero z =
      sym (ap (λ (b : Bool). cond b (inf true) (cond p.negative nan (quotient_of steps (units_log_of steps (p.sig * 2 ^ p.exp)))))
      (eq-eqb (p.sig * 2 ^ p.exp) 0 (ap (λ (n : ℕ). n * 2 ^ p.exp) z ∙ zero-mul (2 ^ p.exp))))
      ∙ by_units

  module _ (some : p.sig ≡ 0 → ⊥) where
    pub sig-pos : 0 < p.sig
    sig-pos = go p.sig some
      where
        go : (a : ℕ) → (a ≡ 0 → ⊥) → 0 < a
        go zero n = absurd (n refl)
        go (suc a) n = zero-lt-suc a

    -- what `whole_log` requires
    pub sig_in : (0 < p.sig) × InRange p
    sig_in = let w = (is_finite x p t h).parts_of in (sig-pos, (w.short, w.range))

    of_some : (s : Bool) → p.negative ≡ s → cond s nan (quotient_of steps (units_log_of steps (p.sig * 2 ^ p.exp))) ≡ log2_of x
    unfolding log2_at
    of_some s e =
        let n = p.sig * 2 ^ p.exp in
        let a : 0 < n = mul-pos sig-pos (pow_pos p.exp) in
        ap (λ (b : Bool). cond b nan (quotient_of steps (units_log_of steps n))) (sym e)
        ∙ sym (ap (λ (b : Bool). cond b (inf true) (cond p.negative nan (quotient_of steps (units_log_of steps n)))) (ne_eqb n 0 (λ z. lt_irrefl 0 (subst (λ (y : ℕ). 0 < y) z a))))
        ∙ by_units

    pub of_negative : p.negative ≡ true → nan ≡ log2_of x
    of_negative = of_some true

    -- from what `whole_log` and `quotient` ensure
    pub of_positive : (a : ℕ) → a ≡ whole_log_of steps (p.sig * 2 ^ p.exp) → p.negative ≡ false → quotient_of steps (minus a (1074 * 2 ^ steps)) ≡ log2_of x
    unfolding units_log_of
    of_positive a w e = ap (λ (n : ℕ). quotient_of steps (minus n (1074 * 2 ^ steps))) w ∙ of_some false e
