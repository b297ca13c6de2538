-- What is promised of the beds that have a name, bed by bed.
use mathlib.Core.Path.{◌≡◌, refl, ap, ◌∙◌}
use mathlib.Core.Bool.{Bool, true, false, cond}
use mathlib.Core.List.{List}
use Prim.Native.Nat.{ℕ}
use lib.Dec.{T}
use Rattle.sequence.specs.History.{filled}
use Rattle.std.specs.Prelude.{Option, Some, None, bytes_eq}
use Rattle.std.proofs.lemmas.Slice.Eq.{bytes_eq-Decides}
use Rattle.program.specs.Text.{ascii}
use Rattle.layout.specs.Layout.{size_of, within_of, layout_within, placed_of, stored_of, mono_of, blanks}
use Rattle.layout.specs.Weights.{surround, weight_of, used_weights}
use Rattle.beds.specs.declared.Bed.{Bed}
use Rattle.beds.specs.declared.Bed.TheVariants.{Mono, Stereo, FiveOne, SevenOne}
use Rattle.beds.specs.Beds.{layout_for, name_of, found_of}
use Rattle.beds.specs.Laws.{weights_for, NamedBedLaws}

pub mono_layout : layout_for Mono ≡ mono_of
unfolding layout_for filled blanks
mono_layout = refl

accepted : (b : Bed) → T (layout_within (layout_for b))
unfolding layout_for filled layout_within within_of size_of
accepted Mono = tt
accepted Stereo = tt
accepted FiveOne = tt
accepted SevenOne = tt

stored : (b : Bed) → stored_of (layout_for b) ≡ layout_for b
unfolding layout_for filled stored_of placed_of
stored Mono = refl
stored Stereo = refl
stored FiveOne = refl
stored SevenOne = refl

weights : (b : Bed) → used_weights (layout_for b) ≡ weights_for b
unfolding layout_for filled weight_of surround size_of
weights Mono = refl
weights Stereo = refl
weights FiveOne = refl
weights SevenOne = refl

named : (b : Bed) → found_of (ascii (name_of b)) ≡ Some b
unfolding found_of
named Mono = refl
named Stereo = refl
named FiveOne = refl
named SevenOne = refl

no_other : (w : List ℕ) (b : Bed) → found_of w ≡ Some b → w ≡ ascii (name_of b)
unfolding found_of
no_other w b f = go (is Mono) (is Stereo) (is FiveOne) (is SevenOne) refl refl refl refl f
  where
    is : Bed → Bool
    is n = bytes_eq w (ascii (name_of n))

    name : (n : Bed) → is n ≡ true → ◌≡◌ {A = Option Bed} (Some n) (Some b) → w ≡ ascii (name_of b)
    name n e k = let same-bed : n ≡ b = cc in (bytes_eq-Decides w (ascii (name_of n))).0 e ∙ ap (λ (x : Bed). ascii (name_of x)) same-bed

    go : (m s v t : Bool) → is Mono ≡ m → is Stereo ≡ s → is FiveOne ≡ v → is SevenOne ≡ t
        → cond m (Some Mono) (cond s (Some Stereo) (cond v (Some FiveOne) (cond t (Some SevenOne) None))) ≡ Some b → w ≡ ascii (name_of b)
    go true s v t em es ev et k = name Mono em k
    go false true v t em es ev et k = name Stereo es k
    go false false true t em es ev et k = name FiveOne ev k
    go false false false true em es ev et k = name SevenOne et k
    go false false false false em es ev et k = cc

pub named-bed-laws : NamedBedLaws
named-bed-laws = record { accepted = accepted; stored = stored; weights = weights; mono = mono_layout; named = named; no_other = no_other }
