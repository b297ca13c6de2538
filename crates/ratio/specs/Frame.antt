-- One frame of the ratio duck: the Rust's `State::frame`, with the loops as all that is kept. Definitions only.
use Rattle.std.specs.Prelude.{◌&&◌, cond, Float}
use Rattle.std.specs.Float.{binary64}
use Rattle.std.specs.Float.Ieee.{of_bits}
use Rattle.std.specs.Float.Ieee.Scale as scale
use Rattle.float.specs.Arithmetic.{zero64}
use Rattle.comis.specs.declared.Shown.TheVariants.{Silence}
use Rattle.comis.specs.declared.mix_state.MixState.TheVariants.{ReleaseToUnity}
use Rattle.comis.specs.declared.loop_bank.Loops.{Loops}
use Rattle.comis.specs.declared.loop_bank.Updated.{Updated}
use Rattle.comis.specs.declared.engine.LoudnessSnapshot.{LoudnessSnapshot}
use Rattle.comis.specs.declared.engine.AutomixResult.{AutomixResult}
use Rattle.comis.specs.LoopBank.{db, zero_loops, contributions_of}
use Rattle.comis.specs.Engine.{loop_config, process_tick, process_fast}
use Rattle.ratio.specs.declared.Duck.{Duck}
use Rattle.ratio.specs.declared.Inputs.{Inputs}
use Rattle.ratio.specs.declared.RatioStatus.{RatioStatus}
use Rattle.ratio.specs.declared.Framed.{Framed}
use Rattle.ratio.specs.Status.{config_of, status_of}
use Rattle.ratio.specs.Finite.{finite_loops, finite_status}

-- 0.01 s
abbrev pub frame_seconds : Float
frame_seconds = of_bits binary64 0x3f847ae147ae147b

-- ---- disabled

-- the plain target, and nothing else to show
abbrev pub disabled_status : Float → RatioStatus
disabled_status target =
    record {
      state = ReleaseToUnity;
      reduction_db = db zero64;
      slow_db = db zero64;
      mid_db = db zero64;
      fast_db = db zero64;
      target_lu = target;
      ratio_lu = Silence;
      dialogue_lufs = Silence;
      bed_lufs = Silence;
    }

unfoldable pub disabled_frame : Duck → Framed
disabled_frame d =
    record { reduction = db zero64; loops = zero_loops; status = disabled_status d.target_lu; finite = scale.finite d.target_lu }

-- ---- enabled

abbrev pub snapshot_of : Inputs → LoudnessSnapshot
snapshot_of i =
    record {
      bed_short_term_lufs = i.bed_short_term;
      bed_momentary_lufs = i.bed_momentary;
      dialogue_short_term_lufs = i.dialogue_short_term;
    }

-- slow and mid
abbrev pub tick_of : Loops → Duck → Inputs → AutomixResult
tick_of loops d i = process_tick (config_of d) loops (snapshot_of i) i.key_voice (i.target_voice && d.bed_voice) frame_seconds

-- fast
abbrev pub fast_of : Duck → Inputs → AutomixResult → Updated
fast_of d i t = process_fast (config_of d) t.updated.loops t.state i.bed_fast i.dialogue_short_term frame_seconds

-- `finite` reads what was handed to e ^ x, what is stored, and what is answered. What is handed to 60 ^ u is finite where the hold that is stored
-- is (`remaining_finite`).
unfoldable pub enabled_frame : Loops → Duck → Inputs → Framed
enabled_frame l d i =
    let t = tick_of l d i in
    let f = fast_of d i t in
    let c = contributions_of f.loops (loop_config (config_of d)) in
    let s = status_of (config_of d) t.state c i in
    record {
      reduction = c.total_db;
      loops = f.loops;
      status = s;
      finite = (((t.updated.finite && f.finite) && finite_loops f.loops) && scale.finite c.total_db.0) && finite_status s;
    }

unfoldable pub frame_of : Loops → Duck → Inputs → Framed
frame_of l d i = cond d.enabled (enabled_frame l d i) (disabled_frame d)
