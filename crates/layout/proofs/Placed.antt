-- A place as it is stored: it has the weight that it was offered with, is within the ranges where that was, and is stored as it is. The table has three
-- weights.
use mathlib.Core.Bool.{Bool, true, false, cond, ◌&&◌}
use mathlib.Core.Logic.{◌⊎◌, inl, inr}
use mathlib.Core.Path.{◌≡◌, refl}
use lib.Dec.{T, leb, eqb}
use lib.Ieee.Fits.{and_r}
use Rattle.float.specs.Arithmetic.{zero64, one64}
use Rattle.layout.specs.declared.Place.{Place}
use Rattle.layout.specs.Layout.{size_of, within_of, placed_of}
use Rattle.layout.specs.Weights.{surround_weight, surround, weight_of}

module _ (p : Place) where
  pub placed-weight : weight_of (placed_of p) ≡ weight_of p
  unfolding weight_of placed_of
  placed-weight = go (eqb p.lfe 0) refl
    where
      go : (b : Bool) → eqb p.lfe 0 ≡ b → weight_of (placed_of p) ≡ weight_of p
      go true e = rw e (rw e)
      go false e = rw e (rw e)

  pub placed-placed : placed_of (placed_of p) ≡ placed_of p
  unfolding placed_of
  placed-placed = go (eqb p.lfe 0) refl
    where
      go : (b : Bool) → eqb p.lfe 0 ≡ b → placed_of (placed_of p) ≡ placed_of p
      go true e = rw e (rw e)
      go false e = rw e (rw e)

  pub placed_within : T (within_of p) → T (within_of (placed_of p))
  unfolding within_of placed_of size_of
  placed_within h = go (eqb p.lfe 0) refl
    where
      go : (b : Bool) → eqb p.lfe 0 ≡ b → T (within_of (placed_of p))
      go true e = rw e h
      go false e = rw e (and_r (leb (size_of p.azimuth) 180 && leb (size_of p.elevation) 90) (leb p.lfe 1) h)

  pub weight_kinds : (weight_of p ≡ zero64) ⊎ ((weight_of p ≡ one64) ⊎ (weight_of p ≡ surround_weight))
  unfolding weight_of
  weight_kinds = go (eqb p.lfe 0) (surround p)
    where
      go : (a b : Bool) → (cond a (cond b surround_weight one64) zero64 ≡ zero64)
          ⊎ ((cond a (cond b surround_weight one64) zero64 ≡ one64) ⊎ (cond a (cond b surround_weight one64) zero64 ≡ surround_weight))
      go false b = inl refl
      go true false = inr (inl refl)
      go true true = inr (inr refl)
