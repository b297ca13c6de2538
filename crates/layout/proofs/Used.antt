-- The channels in use, and their weights in eight places.
use Prim.Native.Nat.{ℕ, ◌≤◌, min}
use native.Mathlib.Omega.{arith}
use mathlib.Core.Path.{◌≡◌, refl, ap, ◌∙◌}
use mathlib.Core.List.{List, [], ◌∷◌, map}
use lib.ListN.{length, take, drop, get_or, replicate, length-take, length-map}
use lib.Seq.{take_at}
use Rattle.sequence.specs.History.{filled}
use Rattle.float.specs.Arithmetic.{zero64}
use Rattle.layout.specs.declared.Place.{Place}
use Rattle.layout.specs.declared.Layout.{Layout}
use Rattle.layout.specs.Layout.{most, used, blank}
use Rattle.layout.specs.Weights.{weight_of, used_weights, weights_of}

-- at most eight, on any list
pub few-used : (l : Layout) → length (used_weights l) ≤ most
few-used l = omega (arith, length-map (used l) weight_of, length-take (min l.count most) l.places)

module _ (l : Layout) (e : length l.places ≡ most) where
  pub used-length : length (used_weights l) ≡ min l.count most
  used-length = length-map (used l) weight_of ∙ length-take (min l.count most) l.places ∙ omega arith

  pub weights-used : take (min l.count most) (weights_of l) ≡ used_weights l
  unfolding weights_of filled
  weights-used = take_at (used_weights l) (drop (length (used_weights l)) (replicate most zero64)) (min l.count most) used-length

  -- of one channel
  pub used-one : l.count ≡ 1 → used_weights l ≡ weight_of (get_or l.places 0 blank) ∷ []
  used-one c = ap (λ (n : ℕ). map weight_of (take (min n most) l.places)) c ∙ first l.places e
    where
      first : (ps : List Place) → length ps ≡ most → map weight_of (take 1 ps) ≡ weight_of (get_or ps 0 blank) ∷ []
      first [] h = absurd (omega (arith, h))
      first (p ∷ ps) h = refl
