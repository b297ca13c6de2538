-- The Rust's envelope.rs, loop_bank.rs and engine.rs as they stand, to be read beside them: with `releasing`, `interview_release`,
-- `release_speedup` and `previous_state`, which the Rust keeps from call to call. A `&mut self` is a record handed back. Definitions only.
-- A need `None` is `Nothing` and `Some(x)` is `Reduction` of x dB. Left out are DuckDepth, `com_gate_lufs` and `gain_linear`.
use Rattle.std.specs.Prelude.{Bool, true, false, not, ◌&&◌, ◌||◌, cond, Float}
use Rattle.std.specs.Float.Ieee.{neg, lt, le}
use Rattle.std.specs.Float.Ieee.Scale.{finite}
use Rattle.float.specs.Arithmetic.{◌⊕◌, ◌⊖◌, ◌⊗◌, ◌⊘◌, zero64, one64}
use Rattle.float.specs.Choice.{max_of, clamp_of}
use Rattle.power.specs.Power.{exp_of, exp60_of}
use Rattle.comis.specs.declared.mix_state.MixState.{MixState}
use Rattle.comis.specs.declared.mix_state.MixState.TheVariants.{ReleaseToUnity, DuckToTarget, InterviewPassthrough, DuckToOvervoice}
use Rattle.comis.specs.declared.loop_bank.Ballistics.{Ballistics}
use Rattle.comis.specs.declared.loop_bank.LoopBankConfig.{LoopBankConfig}
use Rattle.comis.specs.declared.loop_bank.Need.{Need}
use Rattle.comis.specs.declared.loop_bank.Need.TheVariants.{Nothing, Reduction}
use Rattle.comis.specs.declared.engine.AutomixEngineConfig.{AutomixEngineConfig}
use Rattle.comis.specs.MixState.{from_vad, is_ducking}
use Rattle.comis.specs.LoopBank.{db, slow_times, mid_times, fast_times, release_hold, interview_speedup, least_speed}
use Rattle.comis.specs.Engine.{loop_config}
use Rattle.float.specs.Silence.{silence_lufs}

-- ---- envelope.rs

unfoldable pub process : Float → Float → Float → Float → Float → Float
process current target attack release dt =
    let tc = cond (lt current target) attack release in
    let coeff = cond ((lt zero64 tc && finite tc) && lt zero64 dt) (exp_of (neg dt ⊘ tc)) zero64 in
    target ⊕ (current ⊖ target) ⊗ coeff

-- ---- loop_bank.rs

pub record LoopBank : Type 0 where
  pub config : LoopBankConfig
  pub slow : Float
  pub mid : Float
  pub fast : Float
  pub hold : Float  -- hold_remaining_seconds
  pub releasing : Bool
  pub interview_release : Bool
  pub release_speedup : Float

-- in the order of the fields
abbrev pub bank : LoopBankConfig → Float → Float → Float → Float → Bool → Bool → Float → LoopBank
bank c s m f h r i u = record { config = c; slow = s; mid = m; fast = f; hold = h; releasing = r; interview_release = i; release_speedup = u }

abbrev pub set_slow : LoopBank → Float → LoopBank
set_slow b x = bank b.config x b.mid b.fast b.hold b.releasing b.interview_release b.release_speedup

abbrev pub set_mid : LoopBank → Float → LoopBank
set_mid b x = bank b.config b.slow x b.fast b.hold b.releasing b.interview_release b.release_speedup

abbrev pub set_fast : LoopBank → Float → LoopBank
set_fast b x = bank b.config b.slow b.mid x b.hold b.releasing b.interview_release b.release_speedup

abbrev pub new_bank : LoopBankConfig → LoopBank
new_bank c = bank c zero64 zero64 zero64 zero64 false false one64

abbrev pub set_bank_config : LoopBank → LoopBankConfig → LoopBank
set_bank_config b c = bank c b.slow b.mid b.fast b.hold b.releasing b.interview_release b.release_speedup

unfoldable pub rust_release_stretch : LoopBank → Float
rust_release_stretch b = cond (not b.releasing || b.interview_release) one64 (exp60_of (clamp_of (b.hold ⊘ release_hold) zero64 one64))

unfoldable pub scaled : LoopBank → Ballistics → Ballistics
scaled b t =
    let speed = max_of b.config.speed least_speed in
    record {
      attack_seconds = t.attack_seconds ⊘ speed;
      release_seconds = t.release_seconds ⊗ rust_release_stretch b ⊘ (speed ⊗ b.release_speedup);
    }

-- a stage's `process` with its scaled times
abbrev pub stage : LoopBank → Ballistics → Float → Float → Float → Float
stage b t value target dt = process value target (scaled b t).attack_seconds (scaled b t).release_seconds dt

-- the two `if let` of update_slow_mid
unfoldable pub slow_if : LoopBank → Need → Float → LoopBank
slow_if b Nothing dt = b
slow_if b (Reduction required) dt = set_slow b (stage b slow_times b.slow (clamp_of required.0 zero64 b.config.max_gain_reduction_db.0) dt)

unfoldable pub mid_if : LoopBank → Need → Float → LoopBank
mid_if b Nothing dt = b
mid_if b (Reduction required) dt =
    set_mid b (stage b mid_times b.mid (clamp_of (required.0 ⊖ b.slow) (neg b.config.mid_authority_db.0) b.config.mid_authority_db.0) dt)

unfoldable pub rust_update_slow_mid : LoopBank → Need → Need → Float → LoopBank
rust_update_slow_mid b slow mid dt = mid_if (slow_if (bank b.config b.slow b.mid b.fast release_hold false false one64) slow dt) mid dt

unfoldable pub fast_target : Bool → LoopBank → Need → Float
fast_target true b required = zero64
fast_target false b Nothing = b.fast
fast_target false b (Reduction required) = clamp_of (required.0 ⊖ (b.slow ⊕ b.mid)) zero64 b.config.fast_authority_db.0

unfoldable pub rust_update_fast : LoopBank → Need → Float → LoopBank
rust_update_fast b required dt = set_fast b (stage b fast_times b.fast (fast_target b.releasing b required) dt)

-- mid at its own constant; then slow, less what a negative mid gave back
unfoldable pub release_stages : LoopBank → Float → LoopBank
release_stages b dt =
    let after = stage b mid_times b.mid zero64 dt in
    let trim = max_of (after ⊖ b.mid) zero64 in
    let moved = set_mid b after in
    let slow = stage moved slow_times moved.slow zero64 dt in
    cond (lt zero64 trim) (set_slow moved (max_of (slow ⊖ trim) zero64)) (set_slow moved slow)

unfoldable pub rust_update_release : LoopBank → Bool → Float → LoopBank
rust_update_release b interview dt =
    let hold = max_of (b.hold ⊖ dt) zero64 in
    release_stages (bank b.config b.slow b.mid b.fast hold true interview (cond interview interview_speedup one64)) dt

abbrev pub total_reduction : LoopBank → Float
total_reduction b = clamp_of (b.slow ⊕ b.mid ⊕ b.fast) zero64 b.config.max_gain_reduction_db.0

abbrev pub reset_bank : LoopBank → LoopBank
reset_bank b = new_bank b.config

-- ---- engine.rs

unfoldable pub rust_required_reduction : Float → Float → Float → Need
rust_required_reduction target bed dialogue = cond (le bed silence_lufs || le dialogue silence_lufs) Nothing (Reduction (db (target ⊖ (dialogue ⊖ bed))))

pub record AutomixEngine : Type 0 where
  pub config : AutomixEngineConfig
  pub loops : LoopBank
  pub previous_state : MixState

abbrev pub new_engine : AutomixEngineConfig → AutomixEngine
new_engine c = record { config = c; loops = new_bank (loop_config c); previous_state = ReleaseToUnity }

abbrev pub set_config : AutomixEngine → AutomixEngineConfig → AutomixEngine
set_config e c = record { config = c; loops = set_bank_config e.loops (loop_config c); previous_state = e.previous_state }

abbrev pub reset : AutomixEngine → AutomixEngine
reset e = record { config = e.config; loops = reset_bank e.loops; previous_state = ReleaseToUnity }

-- `match state { DuckToOvervoice => overvoice, _ => target }`
unfoldable pub target_in : AutomixEngineConfig → MixState → Float
target_in c ReleaseToUnity = c.target_ratio_lu
target_in c DuckToTarget = c.target_ratio_lu
target_in c InterviewPassthrough = c.target_ratio_lu
target_in c DuckToOvervoice = c.overvoice_ratio_lu

-- `state == MixState::InterviewPassthrough`
abbrev pub is_interview : MixState → Bool
is_interview ReleaseToUnity = false
is_interview DuckToTarget = false
is_interview InterviewPassthrough = true
is_interview DuckToOvervoice = false

unfoldable pub tick_loops : AutomixEngine → MixState → Float → Float → Float → Float → LoopBank
tick_loops e state bed_short_term bed_momentary dialogue dt =
    cond (is_ducking state)
    (rust_update_slow_mid e.loops (rust_required_reduction (target_in e.config state) bed_short_term dialogue) (rust_required_reduction (target_in e.config state) bed_momentary dialogue) dt)
    (rust_update_release e.loops (is_interview state) dt)

-- `process_tick`; its answer is the state, which is the new `previous_state`
unfoldable pub rust_process_tick : AutomixEngine → Float → Float → Float → Bool → Bool → Float → AutomixEngine
rust_process_tick e bed_short_term bed_momentary dialogue key bed dt =
    let s = from_vad key bed in
    record { config = e.config; loops = tick_loops e s bed_short_term bed_momentary dialogue dt; previous_state = s }

-- `process_fast`; its answer is `total_reduction` of the loops
unfoldable pub rust_process_fast : AutomixEngine → Float → Float → Float → AutomixEngine
rust_process_fast e bed_fast dialogue dt =
    let required = cond (is_ducking e.previous_state) (rust_required_reduction (target_in e.config e.previous_state) bed_fast dialogue) Nothing in
    record { config = e.config; loops = rust_update_fast e.loops required dt; previous_state = e.previous_state }

abbrev pub active_target_ratio : AutomixEngine → Float
active_target_ratio e = target_in e.config e.previous_state
