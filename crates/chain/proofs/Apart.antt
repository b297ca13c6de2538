-- A strand's frame is its filters over the samples of its first channel and what follows them: finite samples are heard as they are.
use Prim.Native.Nat.{ℕ, ◌*◌, ◌≤◌}
use native.Mathlib.Omega.{arith}
use mathlib.Core.Path.{◌≡◌, refl, sym, ap, ◌∙◌}
use mathlib.Core.List.{List, map, foldl}
use lib.Dec.{T}
use lib.ListN.{length, length-take}
use lib.Seq.{take_all}
use Rattle.sequence.specs.History.{laid}
use lib.Ieee.{Float}
use Rattle.level.specs.Bs1770.{frame_length}
use Rattle.float.specs.AllFinite.{all_finite}
use Rattle.channels.specs.declared.Surround.{Surround}
use Rattle.channels.specs.Surround.{mono_surround, bed_frame_of}
use Rattle.channels.proofs.Promised.{bed-laws}
use Rattle.level.specs.Weighing as weighing
use Rattle.level.specs.Weighing.{clean_of}
use Rattle.level.specs.Level as level
use Rattle.level.proofs.Bs1770.{clean-finite}
use Rattle.level.proofs.Finite.{all_take}
use Rattle.detector.specs.Filters as filters
use Rattle.detector.specs.Detector as detector
use Rattle.detector.proofs.Finished.{samples-all}
use Rattle.paired_filters.specs.declared.Filtered.{Filtered}
use Rattle.pairs.specs.declared.Place.TheVariants.{First, Second}
use Rattle.pairs.specs.Pairs.{weighing_at}
use Rattle.paired_filters.specs.Pairs.{weighed_of, banded_of, banded_at, filtered_of}
use Rattle.vad.specs.declared.VadSettings.{VadSettings}
use Rattle.vad.specs.declared.Strand.{Strand}
use Rattle.vad.specs.Strand as strand
use Rattle.chain.specs.declared.Chain.{Chain}
use Rattle.chain.specs.StrandFrames.{filters_of, pitch_of, finished_of, strand_of}
use Rattle.chain.specs.Chain.{first_channel, bed_strand_of}

-- ---- a strand of n channels, whose detector hears the first

module _ (n : ℕ) (xs : List Float) (some : 1 ≤ n) (whole : length xs ≡ n * frame_length) (ok : T (all_finite xs)) where
  first-length : length (first_channel xs) ≡ frame_length
  first-length = length-take frame_length xs ∙ omega (arith, whole, some)

  -- further samples aren't heard
  first-samples : filters.samples_of (first_channel xs) ≡ filters.samples_of xs
  unfolding filters.samples_of
  first-samples = ap (λ (ys : List Float). laid ys filters.no_samples) (take_all frame_length (first_channel xs) (omega (arith, first-length)))

  pub first-heard : filters.samples_of xs ≡ map clean_of (first_channel xs)
  first-heard = sym first-samples ∙ samples-all (first_channel xs) first-length ∙ sym (clean-finite (first_channel xs) (all_take frame_length xs ok))

  -- the level of all channels, and the detector's frame of the first
  pub strand-apart : (t : Strand) (s : Surround) (settings : VadSettings)
      → strand_of t s xs settings
      ≡ record { framed = bed_strand_of t (bed_frame_of t.level s xs).framed xs settings; surround = (bed_frame_of t.level s xs).surround }
  unfolding finished_of pitch_of bed_strand_of detector.frame_of filters.run_of
  strand-apart t s settings = rw (← first-samples) refl

-- one channel at 0, 0 is a strand's frame
pub key_apart : (xs : List Float) → length xs ≡ frame_length → (t : Strand) (s : VadSettings) → bed_strand_of t (bed_frame_of t.level mono_surround xs).framed xs s ≡ strand.frame_of t xs s
unfolding bed_strand_of strand.frame_of
key_apart xs n t s =
    let level = bed-laws.mono_is_level t.level mono_surround xs refl n in
    let first = take_all frame_length xs (omega (arith, n)) in
    λ i. strand.finish_of t.decision (level i).framed (detector.frame_of t.detector (first i)) s

-- the filters, run side by side, are those of a strand's first channel
module _ (c : Chain) (key bed : List Float) (f : Filtered) (e : f ≡ filters_of c key bed) where
  pub key-weighed : filters.samples_of key ≡ map clean_of (first_channel key) → weighing_at f.weighed First ≡ weighing.run_of (level.start_of c.key.level) (first_channel key)
  unfolding filters_of filtered_of weighed_of weighing.run_of
  key-weighed h = ap (λ (f : Filtered). weighing_at f.weighed First) e ∙ ap (foldl weighing.step_of (level.start_of c.key.level)) h

  pub bed-weighed : filters.samples_of bed ≡ map clean_of (first_channel bed) → weighing_at f.weighed Second ≡ weighing.run_of (level.start_of c.bed.level) (first_channel bed)
  unfolding filters_of filtered_of weighed_of weighing.run_of
  bed-weighed h = ap (λ (f : Filtered). weighing_at f.weighed Second) e ∙ ap (foldl weighing.step_of (level.start_of c.bed.level)) h

  pub key-bands : banded_at f.banded First ≡ foldl filters.step_of (filters.begun c.key.detector.filters) (filters.samples_of key)
  unfolding filters_of filtered_of banded_of
  key-bands = ap (λ (f : Filtered). banded_at f.banded First) e

  pub bed-bands : banded_at f.banded Second ≡ foldl filters.step_of (filters.begun c.bed.detector.filters) (filters.samples_of bed)
  unfolding filters_of filtered_of banded_of
  bed-bands = ap (λ (f : Filtered). banded_at f.banded Second) e
