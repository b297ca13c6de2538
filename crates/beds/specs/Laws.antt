-- What is promised of the beds that have a name beside the contracts: they are accepted and stored as they are, and their weights.
use Rattle.std.specs.Prelude.{◌≡◌, List, [], ◌∷◌, ℕ, T, Float, Some}
use Rattle.float.specs.Arithmetic.{zero64, one64}
use Rattle.program.specs.Text.{ascii}
use Rattle.layout.specs.Layout.{layout_within, stored_of, mono_of}
use Rattle.layout.specs.Weights.{surround_weight, used_weights}
use Rattle.beds.specs.declared.Bed.{Bed}
use Rattle.beds.specs.declared.Bed.TheVariants.{Mono, Stereo, FiveOne, SevenOne}
use Rattle.beds.specs.Beds.{layout_for, name_of, found_of}

-- 1.41 for the channels at 90 and 110 degrees, 0 for the LFE, 1 for the others
abbrev pub weights_for : Bed → List Float
weights_for Mono = one64 ∷ []
weights_for Stereo = one64 ∷ one64 ∷ []
weights_for FiveOne = one64 ∷ one64 ∷ one64 ∷ zero64 ∷ surround_weight ∷ surround_weight ∷ []
weights_for SevenOne = one64 ∷ one64 ∷ one64 ∷ zero64 ∷ one64 ∷ one64 ∷ surround_weight ∷ surround_weight ∷ []

pub record NamedBedLaws : Type 0 where
  pub accepted : (b : Bed) → T (layout_within (layout_for b))
  pub stored : (b : Bed) → stored_of (layout_for b) ≡ layout_for b
  pub weights : (b : Bed) → used_weights (layout_for b) ≡ weights_for b
  -- a fresh chain's
  pub mono : layout_for Mono ≡ mono_of
  -- a word is a bed's where it is the bed's name, and nowhere else
  pub named : (b : Bed) → found_of (ascii (name_of b)) ≡ Some b
  pub no_other : (w : List ℕ) (b : Bed) → found_of w ≡ Some b → w ≡ ascii (name_of b)
