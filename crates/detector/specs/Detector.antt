-- One frame of the detector, on the port's record: for 480 samples the Rust's `FeatureDetector::frame`. Missing samples count as 0, and further
-- ones aren't heard; the Rust takes any number of them.
use Rattle.sequence.specs.Latest.{no_values, keep_of}
use Rattle.std.specs.Prelude.{Bool, cond, ◌&&◌, List, [], ◌∷◌, from_bits, Float}
use Rattle.std.specs.Float.{binary64}
use Rattle.std.specs.Float.Ieee.{lt}
use Rattle.float.specs.Choice.{max_of}
use Rattle.sequence.specs.History.{held}
use Rattle.float.specs.Arithmetic.{◌⊕◌, ◌⊖◌, ◌⊗◌, ◌⊘◌, zero64, whole}
use Rattle.float.specs.AllFinite.{all_finite}
use Rattle.level.specs.Bs1770.{frame_length}
use Rattle.detector.specs.declared.filters.Filters.{Filters}
use Rattle.detector.specs.declared.filters.Bands.{Bands}
use Rattle.detector.specs.declared.floor.Floored.{Floored}
use Rattle.detector.specs.declared.modulation.Modulated.{Modulated}
use Rattle.detector.specs.declared.voicing.Voicing.{Voicing}
use Rattle.detector.specs.declared.FramePowers.{FramePowers}
use Rattle.detector.specs.declared.Features.{Features}
use Rattle.detector.specs.declared.Frame.{Frame}
use Rattle.detector.specs.declared.FeatureDetector.{FeatureDetector}
use Rattle.detector.specs.declared.Heard.{Heard}
use Rattle.detector.specs.Steps.{smoothstep_of, db_of}
use Rattle.detector.specs.Filters.{samples_of, all_at_rest, begun, states_of, run_of, outputs_of, Decimated, fresh_decimated, handed_of, kept_of}
use Rattle.detector.specs.Floor.{fresh_floor, floor_of}
use Rattle.detector.specs.Modulation.{modulation_of}
use Rattle.detector.specs.Voicing.{voicing_of}

-- ---- fresh

abbrev pub fresh_of : FeatureDetector
fresh_of = record {
  filters = all_at_rest;
  decimated = fresh_decimated;
  floor = fresh_floor;
  history = no_values 40 zero64;
}

-- ---- the probability

-- -0.93, the most negative autocorrelation of what is no pure tone
abbrev pub tone_limit : Float
tone_limit = from_bits binary64 0xbfedc28f5c28f5c3

-- energy over the floor (4 to 14 dB), modulation (2 to 6 dB), 0.3 + 0.7 * voicing (0.4 to 0.75)
abbrev pub speech_of : Features → Float
speech_of f =
    smoothstep_of f.over_floor_db (from_bits binary64 0x4010000000000000) (from_bits binary64 0x402c000000000000)
    ⊗ smoothstep_of f.modulation_db (from_bits binary64 0x4000000000000000) (from_bits binary64 0x4018000000000000)
    ⊗ (from_bits binary64 0x3fd3333333333333
    ⊕ from_bits binary64 0x3fe6666666666666 ⊗ smoothstep_of f.voicing (from_bits binary64 0x3fd999999999999a) (from_bits binary64 0x3fe8000000000000))

-- a pure tone is never speech
unfoldable pub probability_of : Features → Float
probability_of f = cond (lt f.anti tone_limit) zero64 (speech_of f)

-- ---- a frame

-- the samples of a frame
abbrev pub frame64 : Float
frame64 = whole frame_length

-- the powers of the frame and of its band, and the band's in dB
unfoldable pub powers_of : Bands → FramePowers
powers_of s = record { full = s.full ⊘ frame64; band = s.band ⊘ frame64; e = db_of (s.band ⊘ frame64) }

abbrev pub features_of : Float → Floored → Modulated → Voicing → Features
features_of e f m v =
    record { over_floor_db = e ⊖ f.floor; modulation_db = m.modulation; voicing = v.voiced; anti = v.anti }

abbrev pub with_features : Float → Features → Frame
with_features level f = record { probability = probability_of f; level_dbfs = level; features = f }

unfoldable pub shown_of : FramePowers → Floored → Modulated → Voicing → Frame
shown_of p f m v = with_features (db_of p.full) (features_of p.e f m v)

-- what is stored beside them and the decimated values, and what is handed to the logarithm (a power above 0, else nothing, which counts
-- as 0) or to the root
abbrev pub numbers_of : FramePowers → Floored → Modulated → List Float
numbers_of p f m = f.smoothed ∷ f.least ∷ p.e ∷ max_of zero64 p.full ∷ max_of zero64 p.band ∷ m.variance ∷ []

-- all of it, with what went to the narrowing, what is kept of it, and what the lags handed to the root
abbrev pub numbers_finite : Filters → FramePowers → List Float → Floored → Modulated → Voicing → Bool
numbers_finite g p ys f m v =
    (all_finite (states_of g) && all_finite (numbers_of p f m)) && ((all_finite (handed_of ys) && all_finite (kept_of ys)) && v.finite)

abbrev pub heard_of : Filters → FramePowers → List Float → Decimated → Floored → Modulated → Voicing → Heard
heard_of g p ys k f m v = record {
  detector = record { filters = g; decimated = k; floor = f.next; history = m.next };
  frame = shown_of p f m v;
  finite = numbers_finite g p ys f m v;
}

-- what follows the filters: s as they left it, and the pitch outputs ys
unfoldable pub finish_of : FeatureDetector → Bands → List Float → Heard
finish_of d s ys =
    let p = powers_of s in
    let k = keep_of d.decimated (kept_of ys) in
    heard_of s.filters p ys k (floor_of d.floor p.e) (modulation_of d.history p.e) (voicing_of (held k.count k.list))

unfoldable pub frame_of : FeatureDetector → List Float → Heard
frame_of d xs = finish_of d (run_of (begun d.filters) (samples_of xs)) (outputs_of (begun d.filters) (samples_of xs))
