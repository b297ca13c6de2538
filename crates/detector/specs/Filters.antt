-- The detector's filters over the samples of a frame, and the values of the pitch filter that are kept.
use Rattle.std.specs.Prelude.{ℕ, zero, suc, List, [], ◌∷◌, map, take, drop, replicate, from_bits, slice_index_or, Float}
use mathlib.Core.List.{foldl}
use Rattle.std.specs.Float.{nan, binary32}
use Rattle.biquad.specs.Tick.{at_rest, tick_of}
use Rattle.biquad.specs.declared.Ticked.{Ticked}
use Rattle.biquad.specs.Sections.{band_high_pass, band_low_pass, pitch1, pitch2}
use Rattle.narrow.specs.Narrow.{narrow_of}
use Rattle.sequence.specs.History.{laid}
use Rattle.sequence.specs.Latest.{no_values}
use Rattle.sequence.specs.declared.Latest.{Latest}
use Rattle.float.specs.Arithmetic.{◌⊕◌, ◌⊗◌, zero64}
use Rattle.level.specs.Bs1770.{frame_length}
use Rattle.detector.specs.declared.filters.Filters.{Filters}
use Rattle.detector.specs.declared.filters.Bands.{Bands}

-- the 480 samples of a frame: missing ones count as 0, and further ones aren't heard
unfoldable pub no_samples : List Float
no_samples = replicate frame_length zero64

unfoldable pub samples_of : List Float → List Float
samples_of xs = laid (take frame_length xs) no_samples

abbrev pub all_at_rest : Filters
all_at_rest = record { high_pass = at_rest; low_pass = at_rest; pitch1 = at_rest; pitch2 = at_rest }

-- before the first sample of a frame
abbrev pub begun : Filters → Bands
begun f = record { filters = f; full = zero64; band = zero64; pitch = zero64 }

-- the numbers of the filters
abbrev pub states_of : Filters → List Float
states_of f =
    f.high_pass.z1
    ∷ f.high_pass.z2
    ∷ f.low_pass.z1
    ∷ f.low_pass.z2
    ∷ f.pitch1.z1
    ∷ f.pitch1.z2
    ∷ f.pitch2.z1
    ∷ f.pitch2.z2
    ∷ []

-- after the outputs b of the speech band and q of the pitch filter for the sample v
abbrev pub passed : Bands → Float → Ticked → Ticked → Ticked → Ticked → Bands
passed s v a b p q = record {
  filters = record { high_pass = a.state; low_pass = b.state; pitch1 = p.state; pitch2 = q.state };
  full = s.full ⊕ v ⊗ v;
  band = s.band ⊕ b.y ⊗ b.y;
  pitch = q.y;
}

unfoldable pub step_of : Bands → Float → Bands
step_of s v =
    let a = tick_of s.filters.high_pass band_high_pass v in
    let b = tick_of s.filters.low_pass band_low_pass a.y in
    let p = tick_of s.filters.pitch1 pitch1 b.y in
    let q = tick_of s.filters.pitch2 pitch2 p.y in
    passed s v a b p q

unfoldable pub run_of : Bands → List Float → Bands
run_of s xs = foldl step_of s xs

-- the pitch filter's output for each sample
unfoldable pub outputs_of : Bands → List Float → List Float
outputs_of s [] = []
outputs_of s (x ∷ xs) = (step_of s x).pitch ∷ outputs_of (step_of s x) xs

-- ---- the outputs that are kept

abbrev pub Decimated : Type 0
Decimated = Latest Float 240

abbrev pub fresh_decimated : Decimated
fresh_decimated = no_values 240 (from_bits binary32 0)

-- every eighth value, n of them
unfoldable pub eighths : ℕ → List Float → List Float
eighths zero ys = []
eighths (suc n) ys = slice_index_or ys 7 nan ∷ eighths n (drop 8 ys)

-- every eighth output of a frame, 60 of them, and these as f32
abbrev pub handed_of : List Float → List Float
handed_of ys = eighths 60 ys

unfoldable pub kept_of : List Float → List Float
kept_of ys = map narrow_of (handed_of ys)
