-- What is promised of a layout beside the contracts: what the words mean, what is stored of an accepted layout, and the weights at each boundary.
use Rattle.std.specs.Prelude.{ℕ, suc, ◌-◌, ◌^◌, ◌<◌, Bool, true, false, ◌⊎◌, ◌≡◌, List, [], ◌∷◌, map, T, ℤ, pos, negsuc, Float, length}
use Rattle.float.specs.Arithmetic.{zero64, one64}
use Rattle.layout.specs.declared.Place.{Place}
use Rattle.layout.specs.declared.Layout.{Layout}
use Rattle.layout.specs.Layout.{most, size_of, within_of, layout_within, placed_of, stored_of, mono_of}
use Rattle.layout.specs.Weights.{surround_weight, weight_of, used_weights}
use Rattle.layout.specs.Valid.{LayoutValid}

-- ---- angles as whole numbers with a sign

-- the word of a whole number, in two's complement
abbrev pub word_of : ℤ → ℕ
word_of (pos n) = n
word_of (negsuc n) = 2 ^ 64 - suc n

-- its distance from 0
abbrev pub distance : ℤ → ℕ
distance (pos n) = n
distance (negsuc n) = suc n

-- ---- the boundaries

pub record Example : Type 0 where
  pub azimuth : ℤ
  pub elevation : ℤ
  pub lfe : ℕ
  pub accepted : Bool
  pub weight : Float

abbrev example : ℤ → ℤ → ℕ → Bool → Float → Example
example a e f ok w = record { azimuth = a; elevation = e; lfe = f; accepted = ok; weight = w }

-- negsuc n is -(n + 1)
abbrev pub examples : List Example
examples =
    example (pos 59) (pos 0) 0 true one64
    ∷ example (pos 60) (pos 0) 0 true surround_weight
    ∷ example (pos 120) (pos 0) 0 true surround_weight
    ∷ example (pos 121) (pos 0) 0 true one64
    ∷ example (negsuc 58) (pos 0) 0 true one64
    ∷ example (negsuc 59) (pos 0) 0 true surround_weight
    ∷ example (negsuc 119) (pos 0) 0 true surround_weight
    ∷ example (negsuc 120) (pos 0) 0 true one64
    ∷ example (pos 90) (pos 29) 0 true surround_weight
    ∷ example (pos 90) (pos 30) 0 true one64
    ∷ example (pos 90) (negsuc 28) 0 true surround_weight
    ∷ example (pos 90) (negsuc 29) 0 true one64
    ∷ example (pos 180) (pos 90) 0 true one64
    ∷ example (negsuc 179) (negsuc 89) 0 true one64
    ∷ example (pos 181) (pos 0) 0 false one64
    ∷ example (negsuc 180) (pos 0) 0 false one64
    ∷ example (pos 0) (pos 91) 0 false one64
    ∷ example (pos 0) (negsuc 90) 0 false one64
    ∷ example (pos 90) (pos 0) 1 true zero64
    ∷ example (pos 181) (pos 0) 1 false zero64
    ∷ example (pos 90) (pos 0) 2 false zero64
    ∷ []

abbrev pub place_of : Example → Place
place_of e = record { azimuth = word_of e.azimuth; elevation = word_of e.elevation; lfe = e.lfe }

-- whether they are accepted, and what they weigh
abbrev pub Accepts : Type 0
Accepts = map (λ (e : Example). within_of (place_of e)) examples ≡ map (λ (e : Example). e.accepted) examples

abbrev pub Weighs : Type 0
Weighs = map (λ (e : Example). weight_of (place_of e)) examples ≡ map (λ (e : Example). e.weight) examples

-- ---- the laws

pub record LayoutLaws : Type 0 where
  -- the size of a word is the distance of the whole number that it stands for
  pub size_degrees : (z : ℤ) → distance z < 2 ^ 63 → size_of (word_of z) ≡ distance z
  -- there are three weights
  pub weight_kinds : (p : Place) → (weight_of p ≡ zero64) ⊎ ((weight_of p ≡ one64) ⊎ (weight_of p ≡ surround_weight))
  -- a fresh chain's one channel has weight 1
  pub mono_weights : used_weights mono_of ≡ one64 ∷ []
  -- a stored layout has the weights that it was offered with, is stored as it is, and is accepted where it was
  pub stored_weights : (l : Layout) → length l.places ≡ most → used_weights (stored_of l) ≡ used_weights l
  pub stored_stored : (l : Layout) → stored_of (stored_of l) ≡ stored_of l
  pub placed_within : (p : Place) → T (within_of p) → T (within_of (placed_of p))
  pub stored_within : (l : Layout) → T (layout_within l) → T (layout_within (stored_of l))
  -- and may then stand in an image, as a fresh chain's may; what stands there is stored as it is
  pub mono_valid : LayoutValid mono_of
  pub stored_valid : (l : Layout) → T (layout_within l) → LayoutValid (stored_of l)
  pub valid_stored : (l : Layout) → LayoutValid l → stored_of l ≡ l
  -- at each boundary
  pub accepts : Accepts
  pub weighs : Weighs
