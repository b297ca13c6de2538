-- Both strands' filters over a frame, and what follows them for each strand.
use Rattle.std.specs.Prelude.{ℕ, ◌*◌, ◌≡◌, T, length, Float}
use mathlib.Core.List.{List, foldl}
use Rattle.level.specs.Bs1770.{frame_length}
use Rattle.float.specs.AllFinite.{all_finite}
use Rattle.level.specs.Level as level
use Rattle.channels.specs.declared.Surround.{Surround}
use Rattle.channels.specs.Surround as channels
use Rattle.detector.specs.declared.filters.Bands.{Bands}
use Rattle.detector.specs.Filters as filters
use Rattle.detector.specs.Detector as detector
use Rattle.paired_filters.specs.declared.Filtered.{Filtered}
use Rattle.paired_filters.specs.Pairs.{filtered_of}
use Rattle.vad.specs.declared.VadSettings.{VadSettings}
use Rattle.vad.specs.declared.Strand.{Strand}
use Rattle.vad.specs.Strand as strand
use Rattle.chain.specs.declared.Chain.{Chain}
use Rattle.chain.specs.declared.StrandFrame.{StrandFrame}

-- 480 samples of the key and of each of the bed's n channels, all finite
pub record Whole (n : ℕ) (key bed : List Float) : Type 0 where
  pub key_length : length key ≡ frame_length
  pub bed_length : length bed ≡ n * frame_length
  pub key_samples : T (all_finite key)
  pub bed_samples : T (all_finite bed)

-- both strands' filters over the samples that they hear: those of the key and of the bed's first channel
unfoldable pub filters_of : Chain → List Float → List Float → Filtered
filters_of c key bed =
    filtered_of
    (record { first = level.start_of c.key.level; second = level.start_of c.bed.level })
    (record { first = filters.begun c.key.detector.filters; second = filters.begun c.bed.detector.filters })
    (filters.samples_of key)
    (filters.samples_of bed)

-- the outputs of a strand's pitch filter
unfoldable pub pitch_of : Strand → List Float → List Float
pitch_of t xs = filters.outputs_of (filters.begun t.detector.filters) (filters.samples_of xs)

-- after the detector's filters b and the pitch pair's outputs: the level of all channels, whose samples are ys
unfoldable pub finished_of : Strand → Surround → Bands → List Float → List Float → VadSettings → StrandFrame
finished_of t s b pitch ys settings = record {
  framed = strand.finish_of t.decision (channels.bed_frame_of t.level s ys).framed (detector.finish_of t.detector b pitch) settings;
  surround = (channels.bed_frame_of t.level s ys).surround;
}

-- with the detector's filters over the samples that they hear
abbrev pub strand_of : Strand → Surround → List Float → VadSettings → StrandFrame
strand_of t s xs settings = finished_of t s (foldl filters.step_of (filters.begun t.detector.filters) (filters.samples_of xs)) (pitch_of t xs) xs settings
