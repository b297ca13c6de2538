-- The root by what an f64 is.
use mathlib.Core.Path.{◌≡◌, refl, sym, ap, ◌∙◌, subst}
use mathlib.Core.Bool.{Bool, true, false}
use Prim.Native.Nat.{ℕ, zero, suc, ◌*◌, ◌^◌, ◌<◌}
use native.Mathlib.Nat.{mul-pos, zero-mul, lt_irrefl}
use native.Mathlib.Omega.{arith}
use lib.Dec.{T}
use lib.IntN.{pos}
use lib.Pow.{pow_pos}
use lib.Ieee.{Float, nan, inf, fin, binary64, fits}
use lib.Ieee.Exact.{HasValue}
use Rattle.float.specs.Units.{units_of}
use Rattle.float.specs.Kind.{kind_of}
use Rattle.float.specs.declared.Parts.{Parts}
use Rattle.float.specs.declared.Kind.TheVariants.{NotANumber, Infinite, Finite}
use Rattle.float.proofs.Units.{units-value}
use Rattle.float.proofs.Exact.{unique}
use Rattle.float.proofs.Classified.{is-nan, is-infinite, is_finite}
use Rattle.root.specs.Root.{root_of_units, root_of, sqrt_of}
use Rattle.root.proofs.Nearest.{root-above}

pub no_number : (x : Float) → kind_of x ≡ NotANumber → x ≡ sqrt_of x
unfolding sqrt_of
no_number x h = subst (λ (v : Float). v ≡ sqrt_of v) (sym (is-nan x h)) refl

pub minus-infinite : (x : Float) (s : Bool) → kind_of x ≡ Infinite s → s ≡ true → nan ≡ sqrt_of x
unfolding sqrt_of
minus-infinite x s h e = subst (λ (v : Float). nan ≡ sqrt_of v) (sym (is-infinite x s h ∙ ap inf e)) refl

pub plus-infinite : (x : Float) (s : Bool) → kind_of x ≡ Infinite s → s ≡ false → x ≡ sqrt_of x
unfolding sqrt_of
plus-infinite x s h e = subst (λ (v : Float). v ≡ sqrt_of v) (sym (is-infinite x s h ∙ ap inf e)) refl

pub zero-fits : (s : Bool) → T (fits binary64 (fin s 0 (pos 0)))
unfolding fits
zero-fits s = tt

-- no units: a zero
no-units : (x : Float) (p : Parts) → T (fits binary64 x) → kind_of x ≡ Finite p → units_of x ≡ 0 → x ≡ sqrt_of x
unfolding kind_of sqrt_of root_of
no-units nan p t h z = refl
no-units (inf true) p t h z = absurd (apart (cc))
  where
    apart : ◌≡◌ {A = ℕ} 0 1 → ⊥
    apart e = omega arith
no-units (inf false) p t h z = refl
no-units (fin s m e) p t h z =
    unique binary64 (fin s m e) (fin s 0 (pos 0)) s 0 (2 ^ 1074) (pow_pos 1074) t (zero-fits s)
    (subst (λ (n : ℕ). HasValue (fin s m e) s n (2 ^ 1074)) z (units-value s m e t)) (refl, refl)
    ∙ ap (root_of s) (sym z)

no-root : (n : ℕ) → 0 < n → root_of true n ≡ nan
unfolding root_of
no-root zero p = absurd (lt_irrefl 0 p)
no-root (suc n) p = refl

module _ (x : Float) (p : Parts) (t : T (fits binary64 x)) (h : kind_of x ≡ Finite p) where
  pub bounds : (p.sig < 2 ^ 53) × (p.exp < 2046)
  bounds = let w = (is_finite x p t h).parts_of in (w.short, w.range)

  by_parts : root_of p.negative (p.sig * 2 ^ p.exp) ≡ sqrt_of x
  unfolding sqrt_of
  by_parts = (is_finite x p t h).by_units sqrt_of root_of (λ s m e. refl)

  pub zero-stays : p.sig ≡ 0 → x ≡ sqrt_of x
  zero-stays z = no-units x p t h (sym (is_finite x p t h).parts_of.whole ∙ ap (λ (q : ℕ). q * 2 ^ p.exp) z ∙ zero-mul (2 ^ p.exp))

  module _ (some : 0 < p.sig) where
    pub below-zero : p.negative ≡ true → nan ≡ sqrt_of x
    below-zero s = sym (no-root (p.sig * 2 ^ p.exp) (mul-pos some (pow_pos p.exp))) ∙ ap (λ (b : Bool). root_of b (p.sig * 2 ^ p.exp)) (sym s) ∙ by_parts

    pub above_zero : p.negative ≡ false → root_of_units (p.sig * 2 ^ p.exp) ≡ sqrt_of x
    above_zero s = sym (root-above (p.sig * 2 ^ p.exp) (mul-pos some (pow_pos p.exp))) ∙ ap (λ (b : Bool). root_of b (p.sig * 2 ^ p.exp)) (sym s) ∙ by_parts
