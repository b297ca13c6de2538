-- What is shown of a frame: the Rust's `RatioStatus`, each operation rounded in its order. Definitions only.
use Rattle.std.specs.Prelude.{◌&&◌, cond, Float}
use Rattle.std.specs.Float.Ieee.{lt}
use Rattle.float.specs.Whole.{round_to}
use Rattle.float.specs.Arithmetic.{◌⊕◌, ◌⊖◌, zero64, ten64, hundred64}
use Rattle.float.specs.declared.Lufs.{Lufs}
use Rattle.float.specs.declared.Db.{Db}
use Rattle.comis.specs.declared.Shown.{Shown}
use Rattle.comis.specs.declared.Shown.TheVariants.{Silence, Level}
use Rattle.comis.specs.declared.mix_state.MixState.{MixState}
use Rattle.comis.specs.declared.loop_bank.LoopContributions.{LoopContributions}
use Rattle.comis.specs.declared.engine.AutomixEngineConfig.{AutomixEngineConfig}
use Rattle.comis.specs.LoopBank.{db}
use Rattle.comis.specs.Engine.{active_target}
use Rattle.float.specs.Silence.{silence_lufs}
use Rattle.ratio.specs.declared.Duck.{Duck}
use Rattle.ratio.specs.declared.Inputs.{Inputs}
use Rattle.ratio.specs.declared.RatioStatus.{RatioStatus}

-- to 0.1
abbrev pub tenths : Float → Float
tenths x = round_to x ten64

-- to 0.01; + 0 makes negative zero zero
unfoldable pub rounded_of : Float → Float
rounded_of x = round_to x hundred64 ⊕ zero64

unfoldable pub reading_of : Lufs → Shown
reading_of l = cond (lt silence_lufs l.0) (Level (tenths l.0)) Silence

unfoldable pub ratio_shown : Lufs → Lufs → Db → Shown
ratio_shown dialogue bed reduction =
    cond (lt silence_lufs dialogue.0 && lt silence_lufs bed.0)
    (Level (tenths (rounded_of (dialogue.0 ⊖ bed.0 ⊕ reduction.0))))
    Silence

abbrev pub config_of : Duck → AutomixEngineConfig
config_of d =
    record {
      target_ratio_lu = d.target_lu;
      overvoice_ratio_lu = d.overvoice_lu;
      max_gain_reduction_db = d.max_reduction_db;
      speed = d.speed;
    }

unfoldable pub status_of : AutomixEngineConfig → MixState → LoopContributions → Inputs → RatioStatus
status_of config s l i =
    record {
      state = s;
      reduction_db = db (rounded_of l.total_db.0);
      slow_db = db (rounded_of l.slow_db.0);
      mid_db = db (rounded_of l.mid_db.0);
      fast_db = db (rounded_of l.fast_db.0);
      target_lu = active_target config s;
      ratio_lu = ratio_shown i.dialogue_short_term i.bed_short_term l.total_db;
      dialogue_lufs = reading_of i.dialogue_short_term;
      bed_lufs = reading_of i.bed_short_term;
    }
