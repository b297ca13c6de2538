-- One strand: level, detector and decision, as `Vad::push` runs them; and its reset.
use Rattle.std.specs.Prelude.{ℕ, ◌+◌, ◌%◌, ◌^◌, Bool, false, ◌&&◌, List, Float, None}
use Rattle.std.specs.Float.Ieee.{lt}
use Rattle.float.specs.Arithmetic.{zero64}
use Rattle.float.specs.AllFinite.{all_finite}
use Rattle.level.specs.Level as level
use Rattle.level.specs.declared.Framed as metered
use Rattle.detector.specs.declared.Heard.{Heard}
use Rattle.detector.specs.Detector as detector
use Rattle.vad.specs.declared.VadSettings.{VadSettings}
use Rattle.vad.specs.declared.Decision.{Decision}
use Rattle.vad.specs.declared.VadState.{VadState}
use Rattle.vad.specs.declared.Strand.{Strand}
use Rattle.vad.specs.declared.Framed.{Framed}
use Rattle.vad.specs.Decision.{heard_of, flag_of, decide_of, full_of}
use Rattle.vad.specs.State.{state_of, numbers_of}

-- ---- fresh

abbrev pub silent_with : ℕ → ℕ → Decision
silent_with onsets offsets =
    record { active = false; probability = zero64; onsets = onsets; offsets = offsets; hold = 0; power = None }

abbrev pub no_speech : Decision
no_speech = silent_with 0 0

abbrev pub fresh_of : Strand
fresh_of = record { level = level.fresh_of; detector = detector.fresh_of; decision = no_speech }

-- ---- a frame

-- below the gate nothing is speech
abbrev pub gated_of : metered.Framed → VadSettings → Bool
gated_of l s = lt l.reading.momentary.0 s.gate_lufs.0

-- the decision after the frame
abbrev pub next_of : Decision → metered.Framed → Heard → VadSettings → Decision
next_of d l h s = decide_of d (heard_of (gated_of l s) h.frame.probability) h.frame.level_dbfs s

abbrev pub framed_of : Decision → metered.Framed → Heard → Decision → VadState → Framed
framed_of before l h d shown = record {
  strand = record { level = l.level; detector = h.detector; decision = d };
  reading = l.reading;
  state = shown;
  finite = (l.finite && h.finite) && all_finite (numbers_of d shown);
  full = full_of before d;
}

-- what follows level and detector
unfoldable pub finish_of : Decision → metered.Framed → Heard → VadSettings → Framed
finish_of d l h s = framed_of d l h (next_of d l h s) (state_of (next_of d l h s) (gated_of l s) h.frame l.reading)

unfoldable pub frame_of : Strand → List Float → VadSettings → Framed
frame_of t xs s = finish_of t.decision (level.frame_of t.level xs) (detector.frame_of t.detector xs) s

-- ---- reset: offsets take in speech that was active, the counts stay, and the rest is fresh

unfoldable pub stopped_of : Decision → Decision
stopped_of d = silent_with d.onsets ((d.offsets + flag_of d.active) % 2 ^ 64)

unfoldable pub reset_of : Strand → Strand
reset_of t = record { level = level.fresh_of; detector = detector.fresh_of; decision = stopped_of t.decision }
