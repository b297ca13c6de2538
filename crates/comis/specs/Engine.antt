-- What each loop needs, and the loops' updates by the state: the Rust's `AutomixEngine` without `previous_state`. Definitions only.
use Rattle.std.specs.Prelude.{Bool, ◌||◌, cond, Float}
use Rattle.std.specs.Float.{binary64}
use Rattle.std.specs.Float.Ieee.{le, of_bits}
use Rattle.float.specs.Arithmetic.{◌⊖◌}
use Rattle.float.specs.declared.Db.{Db}
use Rattle.float.specs.declared.Lufs.{Lufs}
use Rattle.float.specs.Silence.{silence_lufs}
use Rattle.comis.specs.declared.mix_state.MixState.{MixState}
use Rattle.comis.specs.declared.mix_state.MixState.TheVariants.{ReleaseToUnity, DuckToTarget, InterviewPassthrough, DuckToOvervoice}
use Rattle.comis.specs.declared.loop_bank.LoopBankConfig.{LoopBankConfig}
use Rattle.comis.specs.declared.loop_bank.Loops.{Loops}
use Rattle.comis.specs.declared.loop_bank.Need.{Need}
use Rattle.comis.specs.declared.loop_bank.Need.TheVariants.{Nothing, Reduction}
use Rattle.comis.specs.declared.loop_bank.Updated.{Updated}
use Rattle.comis.specs.declared.engine.AutomixEngineConfig.{AutomixEngineConfig}
use Rattle.comis.specs.declared.engine.LoudnessSnapshot.{LoudnessSnapshot}
use Rattle.comis.specs.declared.engine.AutomixResult.{AutomixResult}
use Rattle.comis.specs.MixState.{from_vad, is_ducking}
use Rattle.comis.specs.LoopBank.{db, update_slow_mid, update_fast, update_release}

-- 6 dB and 4 dB
abbrev pub mid_authority : Db
mid_authority = db (of_bits binary64 0x4018000000000000)

abbrev pub fast_authority : Db
fast_authority = db (of_bits binary64 0x4010000000000000)

-- target - (dialogue - bed): LU, which are decibels of the bed
unfoldable pub required_reduction : Float → Lufs → Lufs → Need
required_reduction target bed dialogue =
    cond (le bed.0 silence_lufs || le dialogue.0 silence_lufs) Nothing (Reduction (db (target ⊖ (dialogue.0 ⊖ bed.0))))

unfoldable pub active_target : AutomixEngineConfig → MixState → Float
active_target config ReleaseToUnity = config.target_ratio_lu
active_target config DuckToTarget = config.target_ratio_lu
active_target config InterviewPassthrough = config.target_ratio_lu
active_target config DuckToOvervoice = config.overvoice_ratio_lu

abbrev pub loop_config : AutomixEngineConfig → LoopBankConfig
loop_config config =
    record {
      speed = config.speed;
      max_gain_reduction_db = config.max_gain_reduction_db;
      mid_authority_db = mid_authority;
      fast_authority_db = fast_authority;
    }

-- slow and mid in a state: three readings, bed short-term, bed momentary and dialogue short-term
unfoldable pub tick_in : AutomixEngineConfig → Loops → MixState → LoudnessSnapshot → Float → Updated
tick_in config loops state loudness dt =
    cond (is_ducking state)
    (update_slow_mid loops (loop_config config) state
    (required_reduction (active_target config state) loudness.bed_short_term_lufs loudness.dialogue_short_term_lufs)
    (required_reduction (active_target config state) loudness.bed_momentary_lufs loudness.dialogue_short_term_lufs)
    dt)
    (update_release loops (loop_config config) state dt)

unfoldable pub process_tick : AutomixEngineConfig → Loops → LoudnessSnapshot → Bool → Bool → Float → AutomixResult
process_tick config loops loudness key bed dt =
    record { state = from_vad key bed; updated = tick_in config loops (from_vad key bed) loudness dt }

-- in a release fast heads for 0, whatever its need
unfoldable pub process_fast : AutomixEngineConfig → Loops → MixState → Lufs → Lufs → Float → Updated
process_fast config loops state bed dialogue dt =
    update_fast loops (loop_config config) state (required_reduction (active_target config state) bed dialogue) dt
