-- A layout as it is stored: it has the weights that it was offered with, is stored as it is, and may stand in an image where it was accepted.
use Prim.Native.Nat.{ℕ, ◌≤◌, ◌<◌, min}
use native.Mathlib.Omega.{arith}
use mathlib.Core.Bool.{◌&&◌}
use mathlib.Core.Path.{◌≡◌, refl, ap, sym, subst, ◌∙◌}
use mathlib.Core.List.{List, [], ◌∷◌, map, map-map}
use lib.Dec.{T, leb, leb→le, le→leb}
use lib.ListN.{length, drop, get_or, replicate, length-take, length-map, get_or-map}
use lib.Seq.{take_at, get_or-take, ext_get_or}
use lib.Ieee.Fits.{and_i, and_l, and_r}
use Rattle.sequence.specs.All.{all}
use Rattle.sequence.specs.History.{filled}
use Rattle.sequence.specs.Counted.{Counted}
use Rattle.sequence.proofs.All.{all-holds, holds-all}
use Rattle.sequence.proofs.Filled.{all-blank}
use Rattle.sequence.proofs.Counted.{counted-filled, filled-counted}
use Rattle.float.specs.Arithmetic.{one64}
use Rattle.layout.specs.declared.Place.{Place}
use Rattle.layout.specs.declared.Layout.{Layout}
use Rattle.layout.specs.Layout.{most, size_of, within_of, used, layout_within, blank, blanks, placed_of, stored_of, mono_of}
use Rattle.layout.specs.Weights.{surround, weight_of, used_weights}
use Rattle.layout.specs.Valid.{PlaceValid, LayoutValid}
use Rattle.layout.proofs.Placed.{placed-weight, placed-placed, placed_within}

-- a blank place
blank-placed : placed_of blank ≡ blank
unfolding placed_of
blank-placed = refl

blank-within : T (within_of blank)
unfolding within_of size_of
blank-within = tt

-- a fresh chain's one channel has weight 1
pub mono_weights : used_weights mono_of ≡ one64 ∷ []
unfolding blanks weight_of surround size_of
mono_weights = refl

-- ---- the weights of a layout of eight places

pub stored_weights : (l : Layout) → length l.places ≡ most → used_weights (stored_of l) ≡ used_weights l
unfolding stored_of filled
stored_weights l e =
    let xs = map placed_of (used l) in
    let n : length xs ≡ min l.count most = length-map (used l) placed_of ∙ length-take (min l.count most) l.places ∙ omega arith in
    ap (map weight_of) (take_at xs (drop (length xs) (replicate most blank)) (min l.count most) n)
    ∙ map-map weight_of placed_of (used l)
    ∙ same (used l)
  where
    same : (ps : List Place) → map (λ (p : Place). weight_of (placed_of p)) ps ≡ map weight_of ps
    same [] = refl
    same (p ∷ ps) = λ i. placed-weight p i ∷ same ps i

-- ---- what is stored is stored as it is

-- places that are placed already
placed-all : (ps : List Place) → ((k : ℕ) → k < length ps → placed_of (get_or ps k blank) ≡ get_or ps k blank) → map placed_of ps ≡ ps
placed-all ps h =
    ext_get_or blank (map placed_of ps) ps (length-map ps placed_of)
    (λ k m. ap (get_or (map placed_of ps) k) (sym blank-placed) ∙ get_or-map placed_of ps k blank ∙ h k (omega (arith, length-map ps placed_of)))

module _ (l : Layout) where
  abbrev Placed : Place → Type 0
  Placed p = placed_of p ≡ p

  pub placed-stored : Counted Placed blank most (min l.count most) l.places → stored_of l ≡ l
  unfolding stored_of
  placed-stored ok =
      let m = min l.count most in
      let same = placed-all (used l) (λ k h. rw (get_or-take m l.places k blank (omega (arith, length-take m l.places))) (ok.good k (omega (arith, length-take m l.places)))) in
      λ i. record { count = l.count; places = (ap (filled blank most) same ∙ counted-filled Placed blank most m l.places ok) i }

  -- the places in use, placed
  placed_at : (k : ℕ) → get_or (map placed_of (used l)) k blank ≡ placed_of (get_or (used l) k blank)
  placed_at k = ap (get_or (map placed_of (used l)) k) (sym blank-placed) ∙ get_or-map placed_of (used l) k blank

  few : length (map placed_of (used l)) ≤ min l.count most
  few = omega (arith, length-map (used l) placed_of, length-take (min l.count most) l.places)

  stored-placed : Counted Placed blank most (min l.count most) (stored_of l).places
  unfolding stored_of
  stored-placed =
      filled-counted Placed blank most (min l.count most) (map placed_of (used l)) few (omega arith)
      (λ k h. rw (placed_at k) (placed-placed (get_or (used l) k blank)))

pub stored_stored : (l : Layout) → stored_of (stored_of l) ≡ stored_of l
unfolding stored_of
stored_stored l = placed-stored (stored_of l) (stored-placed l)

-- ---- a layout that is accepted

module _ (l : Layout) (t : T (layout_within l)) where
  from_1 : 1 ≤ l.count
  unfolding layout_within
  from_1 = leb→le 1 l.count (and_l (leb 1 l.count) (leb l.count most) (and_l (leb 1 l.count && leb l.count most) (all within_of (used l)) t))

  to_8 : l.count ≤ most
  unfolding layout_within
  to_8 = leb→le l.count most (and_r (leb 1 l.count) (leb l.count most) (and_l (leb 1 l.count && leb l.count most) (all within_of (used l)) t))

  used-within : (k : ℕ) → T (within_of (get_or (used l) k blank))
  unfolding layout_within
  used-within = all-holds within_of blank (used l) (and_r (leb 1 l.count && leb l.count most) (all within_of (used l)) t) blank-within

  -- may stand in an image as it is stored
  pub stored_valid : LayoutValid (stored_of l)
  unfolding stored_of
  stored_valid = record {
    some = from_1;
    places =
        filled-counted PlaceValid blank most l.count (map placed_of (used l)) (omega (arith, few l)) to_8
        (λ k h. rw (placed_at l k) (placed_within (get_or (used l) k blank) (used-within k), placed-placed (get_or (used l) k blank)));
  }

-- ---- a layout that may stand in an image

pub mono_valid : LayoutValid mono_of
unfolding blanks
mono_valid = record {
  some = omega arith;
  places = record {
    within = omega arith;
    size = refl;
    good = λ k h. subst PlaceValid (sym (all-blank blank most k)) (blank-within, blank-placed);
    rest = λ k h. all-blank blank most k;
  };
}

module _ (l : Layout) (v : LayoutValid l) where
  least : min l.count most ≡ l.count
  least = omega (arith, v.places.within)

  -- is stored as it is
  pub valid_stored : stored_of l ≡ l
  valid_stored =
      placed-stored l
      (record {
        within = omega arith;
        size = v.places.size;
        good = λ k h. (v.places.good k (omega (arith, least))).1;
        rest = λ k h. v.places.rest k (omega (arith, least));
      })

  -- and accepted
  pub valid-within : T (layout_within l)
  unfolding layout_within
  valid-within =
      and_i (leb 1 l.count && leb l.count most) (all within_of (used l))
      (and_i (leb 1 l.count) (leb l.count most) (le→leb 1 l.count v.some) (le→leb l.count most v.places.within))
      (holds-all within_of blank (used l)
      (λ k h. let m : k < l.count = omega (arith, length-take (min l.count most) l.places) in
      rw (get_or-take (min l.count most) l.places k blank (omega (arith, least))) (v.places.good k m).0))

pub stored_within : (l : Layout) → T (layout_within l) → T (layout_within (stored_of l))
stored_within l t = valid-within (stored_of l) (stored_valid l t)
