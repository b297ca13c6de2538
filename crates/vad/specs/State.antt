-- What is answered of a strand: the Rust's `VadState` but the detector's name. The speech level follows from the stored speech power.
use Rattle.std.specs.Prelude.{Bool, cond, List, [], ◌∷◌, Float, Option, option_map, unwrap_or}
use Rattle.float.specs.Whole.{round_to}
use Rattle.float.specs.Arithmetic.{zero64, ten64, hundred64}
use Rattle.level.specs.declared.Reading.{Reading}
use Rattle.detector.specs.declared.Features.{Features}
use Rattle.detector.specs.declared.Frame.{Frame}
use Rattle.detector.specs.Steps.{db_of}
use Rattle.vad.specs.declared.Decision.{Decision}
use Rattle.vad.specs.declared.VadState.{VadState}
use Rattle.vad.specs.Decision.{exponent}

-- to 0.1 and to 0.01
unfoldable pub tenths_of : Float → Float
tenths_of x = round_to x ten64

unfoldable pub hundredths_of : Float → Float
hundredths_of x = round_to x hundred64

unfoldable pub rounded_of : Features → Features
rounded_of f = record {
  over_floor_db = hundredths_of f.over_floor_db;
  modulation_db = hundredths_of f.modulation_db;
  voicing = hundredths_of f.voicing;
  anti = hundredths_of f.anti;
}

unfoldable pub speech_level_of : Option Float → Option Float
speech_level_of p = option_map (λ m. tenths_of (db_of m)) p

-- with the decision d after the frame
unfoldable pub state_of : Decision → Bool → Frame → Reading → VadState
state_of d gated f r = record {
  speech_active = d.active;
  speech_probability = d.probability;
  speech_level = speech_level_of d.power;
  level_dbfs = f.level_dbfs;
  momentary_lufs = record { 0 = tenths_of r.momentary.0 };
  gated = gated;
  short_term_lufs = record { 0 = tenths_of r.short_term.0 };
  speech_onsets = d.onsets;
  speech_offsets = d.offsets;
  features = rounded_of f.features;
}

-- ---- refusal 4

-- what goes to the power while speech is on; nothing counts as 0
abbrev pub handed_of : Decision → VadState → Float
handed_of d s = cond d.active (exponent s.level_dbfs) zero64

-- stored: the probability and the speech power, which also goes to the logarithm; handed to the power; answered
abbrev pub numbers_of : Decision → VadState → List Float
numbers_of d s =
    d.probability
    ∷ unwrap_or d.power zero64
    ∷ handed_of d s
    ∷ unwrap_or s.speech_level zero64
    ∷ s.level_dbfs
    ∷ s.momentary_lufs.0
    ∷ s.short_term_lufs.0
    ∷ s.features.over_floor_db
    ∷ s.features.modulation_db
    ∷ s.features.voicing
    ∷ s.features.anti
    ∷ []
