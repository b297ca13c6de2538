-- What other modules need of a root: it is an f64, it is finite, and it has a minus sign only where it is a zero.
use mathlib.Core.Path.{◌≡◌, refl, sym, subst}
use mathlib.Core.Bool.{Bool, true, false, not}
use mathlib.Core.Logic.{◌⊎◌, inl, inr}
use Prim.Native.Nat.{ℕ, zero, suc, ◌*◌, ◌^◌}
use native.Mathlib.Nat.{zero-lt-suc}
use lib.Dec.{T, lt→ltb}
use lib.IntN.{pos}
use lib.Ieee.{Float, nan, inf, fin, binary64, fits}
use lib.Ieee.Fits.{nan-fits, inf-fits}
use lib.Ieee.Positive.{positive, positive_of_value, positive-finite}
use lib.Ieee.Scale.{finite}
use Rattle.float.specs.Units.{units_of}
use Rattle.float.specs.Valid.{Num, plus}
use Rattle.float.proofs.Units.{units-zero}
use Rattle.float.proofs.Signs.{Signed, round-signed}
use Rattle.root.specs.Root.{floor_root, root_of_units, root_of, sqrt_of}
use Rattle.root.proofs.Cases.{zero-fits}
use Rattle.root.proofs.Nearest.{root-fits, root-of, sqrt-is}

root-of-fits : (s : Bool) (n : ℕ) → T (fits binary64 (root_of s n))
unfolding root_of
root-of-fits s zero = zero-fits s
root-of-fits true (suc n) = nan-fits binary64
root-of-fits false (suc n) = root-fits (suc n)

pub sqrt-fits : (x : Float) → T (fits binary64 (sqrt_of x))
unfolding sqrt_of
sqrt-fits nan = nan-fits binary64
sqrt-fits (inf true) = nan-fits binary64
sqrt-fits (inf false) = inf-fits binary64 false
sqrt-fits (fin s m e) = root-of-fits s (units_of (fin s m e))

-- above zero the root is above zero
pub sqrt-positive : (x : Float) → T (fits binary64 x) → T (positive x) → T (positive (sqrt_of x))
sqrt-positive x t p =
    let r = root-of x t p in
    subst (λ (v : Float). T (positive v)) (sym (sqrt-is x t p)) (positive_of_value (root_of_units (units_of x)) (r.q * 2 ^ r.k) (2 ^ 1074) r.value r.some)

pub sqrt-finite : (x : Float) → Num binary64 x → T (plus x) → T (finite (sqrt_of x))
sqrt-finite nan n p = absurd n.0
sqrt-finite (inf s) n p = absurd n.0
sqrt-finite (fin true m e) n p = absurd p
sqrt-finite (fin false zero e) n p = unfold sqrt_of in subst (λ (x : ℕ). T (finite (root_of false x))) (sym (units-zero false e)) (unfold root_of in tt)
sqrt-finite (fin false (suc m) e) n p = positive-finite (sqrt_of (fin false (suc m) e)) (sqrt-positive (fin false (suc m) e) n.1 (lt→ltb 0 (suc m) (zero-lt-suc m)))

root-plus : (n : ℕ) → T (plus (root_of_units n))
unfolding root_of_units
root-plus n = go (root_of_units n) (round-signed binary64 false (floor_root (n * 2 ^ 1074)) (2 ^ 1074))
  where
    none : (t : Bool) → t ≡ false → T (not t)
    none t e = subst (λ (b : Bool). T (not b)) (sym e) tt

    go : (v : Float) → Signed false v → T (plus v)
    go nan h = tt
    go (inf t) h = none t h
    go (fin t m e) h = none t h

root-of-sign : (s : Bool) (n : ℕ) → T (plus (root_of s n)) ⊎ (root_of s n ≡ fin true 0 (pos 0))
unfolding root_of
root-of-sign true zero = inr refl
root-of-sign false zero = inl tt
root-of-sign true (suc n) = inl tt
root-of-sign false (suc n) = inl (root-plus (suc n))

-- no minus sign but that of -0
pub sqrt-sign : (x : Float) → T (plus (sqrt_of x)) ⊎ (sqrt_of x ≡ fin true 0 (pos 0))
unfolding sqrt_of
sqrt-sign nan = inl tt
sqrt-sign (inf true) = inl tt
sqrt-sign (inf false) = inl tt
sqrt-sign (fin s m e) = root-of-sign s (units_of (fin s m e))

root-of-plus : (n : ℕ) → T (plus (root_of false n))
unfolding root_of
root-of-plus zero = tt
root-of-plus (suc n) = root-plus (suc n)

pub sqrt-plus : (x : Float) → T (plus x) → T (plus (sqrt_of x))
unfolding sqrt_of
sqrt-plus nan p = tt
sqrt-plus (inf true) p = absurd p
sqrt-plus (inf false) p = tt
sqrt-plus (fin true m e) p = absurd p
sqrt-plus (fin false m e) p = root-of-plus (units_of (fin false m e))
