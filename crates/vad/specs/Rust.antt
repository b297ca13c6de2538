-- The Rust's `Vad` as its file has it: the readings are kept in its state, and `push` takes a frame to level, detector and decision.
use Rattle.std.specs.Prelude.{ℕ, ◌+◌, ◌-◌, ◌%◌, ◌^◌, Bool, true, false, cond, List, ◌==◌, Float, Option, Some, None}
use Rattle.std.specs.Float.Ieee.{lt, le}
use Rattle.power.specs.Power.{exp10_of}
use Rattle.float.specs.Arithmetic.{zero64}
use Rattle.level.specs.declared.Reading.{Reading}
use Rattle.level.specs.Deque.{Meter, new_meter, meter_next, meter_reading}
use Rattle.detector.specs.Steps.{silence_db, db_of}
use Rattle.detector.specs.Rust.{RustDetector, RustHeard, rust_fresh, rust_frame}
use Rattle.vad.specs.declared.VadSettings.{VadSettings}
use Rattle.vad.specs.declared.VadState.{VadState}
use Rattle.vad.specs.Hold.{hold_frames}
use Rattle.vad.specs.Decision.{smoothed_of, off_of, flag_of, more, mean_of, exponent}
use Rattle.vad.specs.State.{tenths_of, rounded_of}

-- L is what the level keeps, such as the `Meter` of one channel
pub record RustVad (L : Type 0) : Type 0 where
  pub detector : RustDetector
  pub state : VadState
  pub hold : ℕ
  pub speech_power : Option Float
  pub level : L

-- `VadState` with `level_dbfs` at the silence floor, and all else at its default but the counts
abbrev pub quiet : ℕ → ℕ → VadState
quiet onsets offsets = record {
  speech_active = false;
  speech_probability = zero64;
  speech_level = None;
  level_dbfs = silence_db;
  momentary_lufs = record { 0 = zero64 };
  gated = false;
  short_term_lufs = record { 0 = zero64 };
  speech_onsets = onsets;
  speech_offsets = offsets;
  features = record { over_floor_db = zero64; modulation_db = zero64; voicing = zero64; anti = zero64 };
}

abbrev pub silent_vad : {L : Type 0} → L → VadState → RustVad L
silent_vad l s = record { detector = rust_fresh; state = s; hold = 0; speech_power = None; level = l }

-- `Vad::new` with a new level, and `Vad::reset`, which makes the level anew
abbrev pub new_with : {L : Type 0} → L → RustVad L
new_with l = silent_vad l (quiet 0 0)

unfoldable pub reset_with : {L : Type 0} → L → RustVad L → RustVad L
reset_with l v = silent_vad l (quiet v.state.speech_onsets ((v.state.speech_offsets + flag_of v.state.speech_active) % 2 ^ 64))

-- of one channel with weight 1
abbrev pub new_vad : RustVad Meter
new_vad = new_with new_meter

abbrev pub rust_reset : RustVad Meter → RustVad Meter
rust_reset v = reset_with new_meter v

-- ---- the decision: activity, counts and hold

pub record Switch : Type 0 where
  pub active : Bool
  pub onsets : ℕ
  pub offsets : ℕ
  pub hold : ℕ

abbrev pub switch : Bool → ℕ → ℕ → ℕ → Switch
switch a n m h = record { active = a; onsets = n; offsets = m; hold = h }

-- at or above the threshold; else, strictly below the lower one while speech is on; else as it was
unfoldable pub rust_switch : Switch → Float → Float → ℕ → Switch
rust_switch s p on frames =
    cond (le on p)
    (switch true (cond s.active s.onsets (more s.onsets)) s.offsets frames)
    (cond s.active
    (cond (lt p (off_of on))
    (cond (s.hold == 0) (switch false s.onsets (more s.offsets) s.hold) (switch s.active s.onsets s.offsets (s.hold - 1)))
    s)
    s)

-- ---- the speech power and the level shown of it: both change only while speech is on

pub record Speech : Type 0 where
  pub power : Option Float
  pub level : Option Float

abbrev pub speech : Float → Speech
speech mean = record { power = Some mean; level = Some (tenths_of (db_of mean)) }

unfoldable pub rust_speech : Bool → Speech → Float → Speech
rust_speech active s dbfs = cond active (speech (mean_of s.power (exp10_of (exponent dbfs)))) s

-- ---- `Vad::frame`, with the reading of the level, whose short-term loudness `push` shows after it

abbrev pub gated_by : Reading → VadSettings → Bool
gated_by r s = lt r.momentary.0 s.gate_lufs.0

abbrev pub rust_decided : {L : Type 0} → RustHeard → Reading → VadSettings → L → Float → Switch → Speech → RustVad L
rust_decided h r s m probability t sp = record {
  detector = h.state;
  state = record {
    speech_active = t.active;
    speech_probability = probability;
    speech_level = sp.level;
    level_dbfs = h.frame.level_dbfs;
    momentary_lufs = record { 0 = tenths_of r.momentary.0 };
    gated = gated_by r s;
    short_term_lufs = record { 0 = tenths_of r.short_term.0 };
    speech_onsets = t.onsets;
    speech_offsets = t.offsets;
    features = rounded_of h.frame.features;
  };
  hold = t.hold;
  speech_power = sp.power;
  level = m;
}

unfoldable pub rust_decide : {L : Type 0} → RustVad L → RustHeard → Reading → VadSettings → L → RustVad L
rust_decide v h r s m =
    let probability = smoothed_of v.state.speech_probability (cond (gated_by r s) zero64 h.frame.probability) in
    let t = rust_switch (switch v.state.speech_active v.state.speech_onsets v.state.speech_offsets v.hold) probability s.threshold (hold_frames s.hold_ms) in
    let old : Speech = record { power = v.speech_power; level = v.state.speech_level } in
    rust_decided h r s m probability t (rust_speech t.active old h.frame.level_dbfs)

-- `push` with one frame of one channel
unfoldable pub rust_push : RustVad Meter → List Float → VadSettings → RustVad Meter
rust_push v xs s = rust_decide v (rust_frame v.detector xs) (meter_reading v.level xs) s (meter_next v.level xs)
