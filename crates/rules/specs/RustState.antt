-- The Rust's state as a chain stores it: of all that the Rust keeps, the numbers of an image's payload. A deque of at most n values is a count and n
-- places, oldest first, the rest 0. Left out, since the next frame sets it before anything reads it: the readings shown, the sample phase, and the
-- engine's releasing, interview_release, release_speedup and previous_state.
use Rattle.std.specs.Prelude.{cond, eqb, length, get_or, drop}
use Rattle.std.specs.Float.{binary32}
use Rattle.std.specs.Float.Ieee.{of_bits}
use Rattle.sequence.specs.History.{latest, filled}
use Rattle.level.specs.Bs1770.{short_term_frames}
use Rattle.float.specs.Arithmetic.{zero64}
use Rattle.level.specs.declared.Level.{Level}
use Rattle.level.specs.Deque.{Meter}
use Rattle.layout.specs.declared.Layout.{Layout}
use Rattle.channels.specs.declared.Surround.{Surround}
use Rattle.channels.specs.Channels.{resting}
use Rattle.channels.specs.Surround.{other_channels, level_of}
use Rattle.channels.specs.Deque.{Meters}
use Rattle.detector.specs.declared.floor.Floor.{Floor}
use Rattle.detector.specs.declared.FeatureDetector.{FeatureDetector}
use Rattle.detector.specs.Rust.{RustFloor, RustDetector}
use Rattle.vad.specs.declared.Decision.{Decision}
use Rattle.vad.specs.declared.Strand.{Strand}
use Rattle.vad.specs.Rust.{RustVad}
use Rattle.comis.specs.declared.loop_bank.Loops.{Loops}
use Rattle.comis.specs.LoopBank.{db}
use Rattle.comis.specs.Rust.{LoopBank}
use Rattle.chain.specs.declared.Chain.{Chain}
use Rattle.rules.specs.Rust.{RustChain}

-- the 300 powers
abbrev pub level_stored : Meter → Level
level_stored m = record {
  shelf = m.shelf;
  high_pass = m.high_pass;
  fast = m.fast;
  powers = record { count = length m.frames; list = filled zero64 short_term_frames m.frames };
}

-- an empty window has no minimum
abbrev pub floor_stored : RustFloor → Floor
floor_stored f = record {
  smoothed = f.smoothed;
  window_min = cond (eqb f.window_frames 0) zero64 f.window_min;
  window_frames = f.window_frames;
  minima = record { count = length f.minima; list = filled zero64 8 f.minima };
}

-- the latest 240 of the Rust's 300 decimated samples, f32
abbrev pub detector_stored : RustDetector → FeatureDetector
detector_stored d = record {
  filters = d.filters;
  decimated = record { count = length (latest 240 d.decimated); list = filled (of_bits binary32 0) 240 (latest 240 d.decimated) };
  floor = floor_stored d.floor;
  history = record { count = length d.history; list = filled zero64 40 d.history };
}

abbrev pub decision_stored : {L : Type 0} → RustVad L → Decision
decision_stored v = record {
  active = v.state.speech_active;
  probability = v.state.speech_probability;
  onsets = v.state.speech_onsets;
  offsets = v.state.speech_offsets;
  hold = v.hold;
  power = v.speech_power;
}

-- with its level as stored
abbrev pub strand_stored : {L : Type 0} → (L → Level) → RustVad L → Strand
strand_stored level v = record { level = level v.level; detector = detector_stored v.detector; decision = decision_stored v }

abbrev pub loops_stored : LoopBank → Loops
loops_stored b = record { slow = db b.slow; mid = db b.mid; fast = db b.fast; hold_remaining_seconds = b.hold }

-- the bed's: its first channel stands with the 300 powers in the strand, the others beside it
abbrev pub bed_level_stored : Meters → Level
bed_level_stored m = level_of (get_or m.channels 0 resting) (record { count = length m.frames; list = filled zero64 short_term_frames m.frames })

abbrev pub surround_stored : Layout → Meters → Surround
surround_stored l m = record { layout = l; others = filled resting other_channels (drop 1 m.channels) }

unfoldable pub stored : RustChain → Chain
stored m = record {
  settings = m.settings;
  key = strand_stored level_stored m.key;
  bed = strand_stored bed_level_stored m.bed;
  loops = loops_stored m.ducker.engine.loops;
  surround = surround_stored m.layout m.bed.level;
}
