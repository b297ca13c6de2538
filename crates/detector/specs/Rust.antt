-- The Rust's `FeatureDetector` as its file has it: deques as lists, 300 decimated values, a sample phase, and a minimum that is infinite before
-- a window's first frame.
use Rattle.std.specs.Prelude.{ℕ, ◌+◌, max, false, cond, List, [], length, ◌==◌, Float, Option, Some, None, fold}
use mathlib.Core.List.{foldl}
use Rattle.std.specs.Float.{inf}
use Rattle.float.specs.Choice.{min_of}
use Rattle.narrow.specs.Narrow.{narrow_of}
use Rattle.root.specs.Root.{sqrt_of}
use Rattle.sequence.specs.History.{pushed}
use Rattle.float.specs.Arithmetic.{◌⊖◌, ◌⊘◌, whole}
use Rattle.detector.specs.declared.filters.Filters.{Filters}
use Rattle.detector.specs.declared.filters.Bands.{Bands}
use Rattle.detector.specs.declared.voicing.Voicing.{Voicing}
use Rattle.detector.specs.declared.Features.{Features}
use Rattle.detector.specs.declared.Frame.{Frame}
use Rattle.detector.specs.Steps.{db_of}
use Rattle.detector.specs.Filters.{all_at_rest, begun, step_of}
use Rattle.detector.specs.Floor.{smoothed_of}
use Rattle.detector.specs.Modulation.{variance_of}
use Rattle.detector.specs.Voicing.{voicing_of}
use Rattle.detector.specs.Detector.{with_features}

-- the four fields that `floor` changes, a record of their own as in the port
pub record RustFloor : Type 0 where
  pub smoothed : Option Float
  pub window_min : Float
  pub window_frames : ℕ
  pub minima : List Float

pub record RustDetector : Type 0 where
  pub filters : Filters
  pub phase : ℕ
  pub decimated : List Float
  pub floor : RustFloor
  pub history : List Float

-- `FeatureDetector::default`
abbrev pub rust_fresh : RustDetector
rust_fresh = record {
  filters = all_at_rest;
  phase = 0;
  decimated = [];
  floor = record { smoothed = None; window_min = inf false; window_frames = 0; minima = [] };
  history = [];
}

-- ---- the loop over the samples

-- the filters and sums, the phase and the deque of 300
pub record Sampled : Type 0 where
  pub bands : Bands
  pub phase : ℕ
  pub decimated : List Float

abbrev pub sampled : Bands → ℕ → List Float → Sampled
sampled s phase l = record { bands = s; phase = phase; decimated = l }

-- with the filters' next state s: every eighth pitch output is narrowed and kept
abbrev pub counted : Sampled → Bands → Sampled
counted r s =
    cond (r.phase + 1 == 8)
    (sampled s 0 (pushed 300 r.decimated (narrow_of s.pitch)))
    (sampled s (r.phase + 1) r.decimated)

unfoldable pub sample_of : Sampled → Float → Sampled
sample_of r v = counted r (step_of r.bands v)

-- ---- `floor`

pub record RustFloored : Type 0 where
  pub next : RustFloor
  pub value : Float

-- with the smoothed power s and the window's minimum m
abbrev pub rust_stored : RustFloor → Float → Float → RustFloor
rust_stored f s m =
    cond (f.window_frames + 1 == 25)
    (record { smoothed = Some s; window_min = inf false; window_frames = 0; minima = pushed 8 f.minima m })
    (record { smoothed = Some s; window_min = m; window_frames = f.window_frames + 1; minima = f.minima })

unfoldable pub rust_floor : RustFloor → Float → RustFloored
rust_floor f e =
    let s = smoothed_of f.smoothed e in
    let m = min_of f.window_min s in
    record { next = rust_stored f s m; value = fold min_of m f.minima }

-- ---- `frame`

pub record RustHeard : Type 0 where
  pub state : RustDetector
  pub frame : Frame

abbrev pub rust_features : Float → Float → List Float → Voicing → Features
rust_features e floor history v =
    record { over_floor_db = e ⊖ floor; modulation_db = sqrt_of (variance_of history); voicing = v.voiced; anti = v.anti }

-- after the loop over the samples, with the level of n of them and the band's, dB
abbrev pub rust_heard : RustDetector → Sampled → Float → Float → RustFloored → List Float → RustHeard
rust_heard r t level e f history = record {
  state = record { filters = t.bands.filters; phase = t.phase; decimated = t.decimated; floor = f.next; history = history };
  frame = with_features level (rust_features e f.value history (voicing_of t.decimated));
}

unfoldable pub rust_frame : RustDetector → List Float → RustHeard
rust_frame r xs =
    let t = foldl sample_of (sampled (begun r.filters) r.phase r.decimated) xs in
    let n = whole (max (length xs) 1) in
    let e = db_of (t.bands.band ⊘ n) in
    rust_heard r t (db_of (t.bands.full ⊘ n)) e (rust_floor r.floor e) (pushed 40 r.history e)
