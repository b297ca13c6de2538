-- What it is for a strand to stand for the Rust's `Vad`, and lists of calls from fresh. The level shown of speech follows from the stored power.
use Rattle.std.specs.Prelude.{◌≡◌, T, List, [], ◌∷◌, length, Float}
use mathlib.Core.List.{foldl}
use Rattle.level.specs.Bs1770.{frame_length, short_term_frames}
use Rattle.level.specs.declared.Level.{Level}
use Rattle.level.specs.Deque.{Meter, meter_of}
use Rattle.detector.specs.Agrees as detector
use Rattle.vad.specs.declared.VadSettings.{VadSettings}
use Rattle.vad.specs.declared.Strand.{Strand}
use Rattle.vad.specs.State.{speech_level_of}
use Rattle.vad.specs.Strand.{fresh_of, frame_of, reset_of}
use Rattle.vad.specs.Rust.{RustVad, new_vad, rust_reset, rust_push}

-- where the levels agree as `Levels` says
pub record AgreesBy {L : Type 0} (Levels : Level → L → Type 0) (t : Strand) (v : RustVad L) : Type 0 where
  pub level : Levels t.level v.level
  pub detector : detector.Agrees t.detector v.detector
  pub active : v.state.speech_active ≡ t.decision.active
  pub probability : v.state.speech_probability ≡ t.decision.probability
  pub onsets : v.state.speech_onsets ≡ t.decision.onsets
  pub offsets : v.state.speech_offsets ≡ t.decision.offsets
  pub hold : v.hold ≡ t.decision.hold
  pub power : v.speech_power ≡ t.decision.power
  pub speech_level : v.state.speech_level ≡ speech_level_of t.decision.power

-- a level of one channel
pub record Metered (l : Level) (m : Meter) : Type 0 where
  pub meter : m ≡ meter_of l
  pub places : length l.powers.list ≡ short_term_frames

abbrev pub Agrees : Strand → RustVad Meter → Type 0
Agrees = AgreesBy Metered

-- ---- lists of calls

pub data Call : Type 0 where
  frame : List Float → VadSettings → Call
  reset : Call

abbrev pub called : Strand → Call → Strand
called t (frame xs s) = (frame_of t xs s).strand
called t reset = reset_of t

abbrev pub rust_called : RustVad Meter → Call → RustVad Meter
rust_called v (frame xs s) = rust_push v xs s
rust_called v reset = rust_reset v

-- each frame has 480 samples, and its numbers are finite
abbrev pub Accepted : Strand → List Call → Type 0
Accepted t [] = Unit {0}
Accepted t (frame xs s ∷ cs) = (length xs ≡ frame_length) × (T (frame_of t xs s).finite × Accepted (frame_of t xs s).strand cs)
Accepted t (reset ∷ cs) = Accepted (reset_of t) cs

-- after any such list a strand stands for the Rust's `Vad`, and the next frame's answer is the Rust's state after it
abbrev pub StrandAgrees : Type 0
StrandAgrees = (cs : List Call) → Accepted fresh_of cs → Agrees (foldl called fresh_of cs) (foldl rust_called new_vad cs)

abbrev pub StrandAnswers : Type 0
StrandAnswers =
    (cs : List Call) (xs : List Float) (s : VadSettings)
    → Accepted fresh_of cs
    → length xs ≡ frame_length
    → T (frame_of (foldl called fresh_of cs) xs s).finite
    → (rust_push (foldl rust_called new_vad cs) xs s).state ≡ (frame_of (foldl called fresh_of cs) xs s).state
