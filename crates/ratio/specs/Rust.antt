-- The Rust's ratio.rs as it stands, to be read beside it: with an engine that keeps more than the loops, and its config set only when the settings
-- change. A `&mut self` is a record handed back. Definitions only.
-- The state's name is the state; `None` is `Silence` and `Some(x)` is `Level x`.
use Rattle.std.specs.Prelude.{Bool, not, ◌&&◌, cond, List, [], ◌∷◌, Float}
use Rattle.std.specs.Bool.{beq}
use Rattle.std.specs.Float.{binary64}
use Rattle.std.specs.Float.Ieee.{lt, eq}
use Rattle.float.specs.Whole.{round_of}
use Rattle.float.specs.declared.Db.{Db}
use Rattle.float.specs.Arithmetic.{◌⊕◌, ◌⊖◌, ◌⊗◌, ◌⊘◌, zero64, ten64, hundred64}
use Rattle.comis.specs.declared.Shown.{Shown}
use Rattle.comis.specs.declared.Shown.TheVariants.{Silence, Level}
use Rattle.comis.specs.declared.engine.AutomixEngineConfig.{AutomixEngineConfig}
use Rattle.float.specs.Silence.{silence_lufs}
use Rattle.comis.specs.LoopBank.{db}
use Rattle.comis.specs.Rust.{AutomixEngine, new_engine, set_config, reset, rust_process_tick, rust_process_fast, total_reduction, active_target_ratio}
use Rattle.ratio.specs.declared.Duck.{Duck}
use Rattle.ratio.specs.declared.Inputs.{Inputs}
use Rattle.ratio.specs.declared.RatioStatus.{RatioStatus}
use Rattle.ratio.specs.Frame.{frame_seconds, disabled_status}

unfoldable pub reading : Float → Shown
reading l = cond (lt silence_lufs l) (Level (round_of binary64 (l ⊗ ten64) ⊘ ten64)) Silence

unfoldable pub round : Float → Float
round x = round_of binary64 (x ⊗ hundred64) ⊘ hundred64 ⊕ zero64

-- `d.ratio`
pub record Ratio : Type 0 where
  pub target : Float  -- LU
  pub overvoice : Float  -- LU
  pub most : Db  -- max_reduction_db
  pub speed : Float
  pub bed_voice : Bool

abbrev pub ratio : Duck → Ratio
ratio d = record { target = d.target_lu; overvoice = d.overvoice_lu; most = d.max_reduction_db; speed = d.speed; bed_voice = d.bed_voice }

-- `d.ratio == self.ratio`, field by field: 0 equals -0, and a NaN nothing
unfoldable pub same : Ratio → Ratio → Bool
same r q = (((eq r.target q.target && eq r.overvoice q.overvoice) && eq r.most.0 q.most.0) && eq r.speed q.speed) && beq r.bed_voice q.bed_voice

abbrev pub config : Ratio → AutomixEngineConfig
config r = record { target_ratio_lu = r.target; overvoice_ratio_lu = r.overvoice; max_gain_reduction_db = r.most; speed = r.speed }

pub record State : Type 0 where
  pub engine : AutomixEngine
  pub ratio : Ratio
  pub reduction : Float  -- dB
  pub status : RatioStatus

unfoldable pub new : Duck → State
new d = record { engine = new_engine (config (ratio d)); ratio = ratio d; reduction = zero64; status = disabled_status d.target_lu }

-- the first `if` of `frame`
unfoldable pub configured : State → Duck → State
configured s d =
    cond (not (same (ratio d) s.ratio))
    (record { engine = set_config s.engine (config (ratio d)); ratio = ratio d; reduction = s.reduction; status = s.status })
    s

-- the second
unfoldable pub off : State → Duck → State
off s d = record { engine = reset s.engine; ratio = s.ratio; reduction = zero64; status = disabled_status d.target_lu }

unfoldable pub ratio_lu : Float → Float → Float → Shown
ratio_lu dialogue bed reduction =
    cond (lt silence_lufs dialogue && lt silence_lufs bed)
    (Level ((round_of binary64 (round (dialogue ⊖ bed ⊕ reduction) ⊗ ten64)) ⊘ ten64))
    Silence

-- what is shown of an engine after `process_fast`
unfoldable pub shown : AutomixEngine → Inputs → RatioStatus
shown e i =
    record {
      state = e.previous_state;
      reduction_db = db (round (total_reduction e.loops));
      slow_db = db (round e.loops.slow);
      mid_db = db (round e.loops.mid);
      fast_db = db (round e.loops.fast);
      target_lu = active_target_ratio e;
      ratio_lu = ratio_lu i.dialogue_short_term.0 i.bed_short_term.0 (total_reduction e.loops);
      dialogue_lufs = reading i.dialogue_short_term.0;
      bed_lufs = reading i.bed_short_term.0;
    }

unfoldable pub engine_after : AutomixEngine → Duck → Inputs → AutomixEngine
engine_after e d i =
    rust_process_fast
    (rust_process_tick e i.bed_short_term.0 i.bed_momentary.0 i.dialogue_short_term.0 i.key_voice (i.target_voice && d.bed_voice) frame_seconds)
    i.bed_fast.0
    i.dialogue_short_term.0
    frame_seconds

unfoldable pub on : State → Duck → Inputs → State
on s d i =
    let e = engine_after s.engine d i in
    record { engine = e; ratio = s.ratio; reduction = total_reduction e.loops; status = shown e i }

unfoldable pub frame : State → Duck → Inputs → State
frame s d i = cond (not d.enabled) (off (configured s d) d) (on (configured s d) d i)

-- ---- lists of frames

-- a frame's settings and inputs, and what it answers
pub record Call : Type 0 where
  pub duck : Duck
  pub inputs : Inputs

pub record Answer : Type 0 where
  pub reduction : Float  -- dB
  pub status : RatioStatus

unfoldable pub answers : State → List Call → List Answer
answers s [] = []
answers s (c ∷ cs) = let n = frame s c.duck c.inputs in record { reduction = n.reduction; status = n.status } ∷ answers n cs
