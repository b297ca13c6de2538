-- The Rust's loops and engine go where ours go: what they keep besides the loops is set, by the state, before it is read.
use mathlib.Core.Path.{◌≡◌, refl, sym, ap, ap₂, ◌∙◌}
use mathlib.Core.Bool.{Bool, true, false, not, cond}
use lib.Ieee.{Float, binary64, sub, lt}
use Rattle.float.specs.Arithmetic.{zero64}
use Rattle.float.specs.Choice.{max_of}
use Rattle.float.specs.declared.Db.{Db}
use Rattle.float.specs.declared.Lufs.{Lufs}
use Rattle.comis.specs.declared.envelope.Coefficient.{Coefficient}
use Rattle.comis.specs.declared.mix_state.MixState.{MixState}
use Rattle.comis.specs.declared.mix_state.MixState.TheVariants.{ReleaseToUnity, DuckToTarget, InterviewPassthrough, DuckToOvervoice}
use Rattle.comis.specs.declared.loop_bank.Ballistics.{Ballistics}
use Rattle.comis.specs.declared.loop_bank.LoopBankConfig.{LoopBankConfig}
use Rattle.comis.specs.declared.loop_bank.Loops.{Loops}
use Rattle.comis.specs.declared.loop_bank.Need.{Need}
use Rattle.comis.specs.declared.loop_bank.Need.TheVariants.{Nothing, Reduction}
use Rattle.comis.specs.declared.engine.AutomixEngineConfig.{AutomixEngineConfig}
use Rattle.comis.specs.declared.engine.LoudnessSnapshot.{LoudnessSnapshot}
use Rattle.comis.specs.Envelope.{time_constant, gradual, coeff_of, toward, process_of}
use Rattle.comis.specs.MixState.{is_ducking}
use Rattle.comis.specs.LoopBank.{db, slow_times, mid_times, fast_times, release_hold, release_stretch, release_speedup, scaled_of, step_of, with_slow, with_mid, with_fast, with_hold, step_slow, step_mid, update_slow_mid, duck_goal, fast_goal, update_fast, less_trim, update_release}
use Rattle.comis.specs.Engine.{loop_config, required_reduction, active_target, tick_in, process_fast}
use Rattle.comis.specs.Rust as rust

-- ---- a step

-- the Rust's loops in the state s, as an update leaves them
abbrev pub bank_in : LoopBankConfig → Loops → MixState → rust.LoopBank
bank_in c l s = rust.bank c l.slow.0 l.mid.0 l.fast.0 l.hold_remaining_seconds (not (is_ducking s)) (rust.is_interview s) (release_speedup s)

value_of : (b : Bool) (x y : Coefficient) → (cond b x y).value ≡ cond b x.value y.value
value_of true x y = refl
value_of false x y = refl

process-same : (current target attack release dt : Float) → rust.process current target attack release dt ≡ (process_of (record { current = current }) target attack release dt).envelope.current
unfolding rust.process process_of coeff_of
process-same current target attack release dt = ap (toward current target) (sym (value_of (gradual (time_constant current target attack release) dt) _ _))

scaled-same : (c : LoopBankConfig) (l : Loops) (s : MixState) (t : Ballistics) → rust.scaled (bank_in c l s) t ≡ scaled_of c t l.hold_remaining_seconds s
unfolding rust.scaled rust.rust_release_stretch scaled_of release_stretch release_speedup
scaled-same c l ReleaseToUnity t = refl
scaled-same c l DuckToTarget t = refl
scaled-same c l InterviewPassthrough t = refl
scaled-same c l DuckToOvervoice t = refl

stage-same : (c : LoopBankConfig) (l : Loops) (s : MixState) (t : Ballistics) (value target : Db) (dt : Float) → rust.stage (bank_in c l s) t value.0 target.0 dt ≡ (step_of l c s t value target dt).envelope.current
unfolding step_of
stage-same c l s t value target dt =
    ap (λ (b : Ballistics). rust.process value.0 target.0 b.attack_seconds b.release_seconds dt) (scaled-same c l s t) ∙ process-same value.0 target.0 _ _ dt

-- ---- updates

slow-same : (c : LoopBankConfig) (l : Loops) (s : MixState) (need : Need) (dt : Float) → rust.slow_if (bank_in c l s) need dt ≡ bank_in c (step_slow l c s need dt).loops s
unfolding rust.slow_if step_slow
slow-same c l s Nothing dt = refl
slow-same c l s (Reduction x) dt = ap (λ (v : Float). bank_in c (with_slow l v) s) (stage-same c l s slow_times l.slow _ dt)

mid-same : (c : LoopBankConfig) (l : Loops) (s : MixState) (need : Need) (dt : Float) → rust.mid_if (bank_in c l s) need dt ≡ bank_in c (step_mid l c s need dt).loops s
unfolding rust.mid_if step_mid
mid-same c l s Nothing dt = refl
mid-same c l s (Reduction x) dt = ap (λ (v : Float). bank_in c (with_mid l v) s) (stage-same c l s mid_times l.mid _ dt)

slow-mid-same : (c : LoopBankConfig) (l : Loops) (s : MixState) (slow mid : Need) (dt : Float) → rust.mid_if (rust.slow_if (bank_in c (with_hold l release_hold) s) slow dt) mid dt ≡ bank_in c (update_slow_mid l c s slow mid dt).loops s
unfolding update_slow_mid
slow-mid-same c l s slow mid dt =
    ap (λ (b : rust.LoopBank). rust.mid_if b mid dt) (slow-same c (with_hold l release_hold) s slow dt) ∙ mid-same c _ s mid dt

less-same : (c : LoopBankConfig) (l : Loops) (s : MixState) (slow trim : Float) (b : Bool) → cond b (bank_in c (with_slow l (max_of (sub binary64 slow trim) zero64)) s) (bank_in c (with_slow l slow) s) ≡ bank_in c (with_slow l (cond b (max_of (sub binary64 slow trim) zero64) slow)) s
less-same c l s slow trim true = refl
less-same c l s slow trim false = refl

-- mid and slow of a release by the values that their stages reach
abbrev released : LoopBankConfig → Loops → MixState → Float → Float → rust.LoopBank
released c l s mid slow = bank_in c (with_slow (with_mid l mid) (less_trim slow (max_of (sub binary64 mid l.mid.0) zero64))) s

stages_same : (c : LoopBankConfig) (l : Loops) (s : MixState) (dt : Float) → rust.release_stages (bank_in c l s) dt ≡ released c l s (step_of l c s mid_times l.mid (db zero64) dt).envelope.current (step_of l c s slow_times l.slow (db zero64) dt).envelope.current
unfolding rust.release_stages rust.scaled rust.rust_release_stretch less_trim
stages_same c l s dt =
    let mid = rust.stage (bank_in c l s) mid_times l.mid.0 zero64 dt in
    let slow = rust.stage (bank_in c l s) slow_times l.slow.0 zero64 dt in
    let trim = max_of (sub binary64 mid l.mid.0) zero64 in
    less-same c (with_mid l mid) s slow trim (lt zero64 trim)
    ∙ ap₂ (released c l s) (stage-same c l s mid_times l.mid (db zero64) dt) (stage-same c l s slow_times l.slow (db zero64) dt)

-- our loops in a release, when the hold is lowered and before the stages
abbrev lowered : Loops → Float → Loops
lowered l dt = with_hold l (max_of (sub binary64 l.hold_remaining_seconds dt) zero64)

-- mid is what its stage reaches by the lowered hold
release-mid : (c : LoopBankConfig) (l : Loops) (s : MixState) (dt : Float) → (step_of (lowered l dt) c s mid_times l.mid (db zero64) dt).envelope.current ≡ (update_release l c s dt).loops.mid.0
unfolding update_release
release-mid c l s dt = refl

-- slow, by what mid is
release-slow : (c : LoopBankConfig) (l : Loops) (s : MixState) (dt : Float) → less_trim (step_of (lowered l dt) c s slow_times l.slow (db zero64) dt).envelope.current (max_of (sub binary64 (update_release l c s dt).loops.mid.0 l.mid.0) zero64) ≡ (update_release l c s dt).loops.slow.0
unfolding update_release
release-slow c l s dt = refl

release-rest : (c : LoopBankConfig) (l : Loops) (s : MixState) (dt : Float) → bank_in c (with_slow (with_mid (lowered l dt) (update_release l c s dt).loops.mid.0) (update_release l c s dt).loops.slow.0) s ≡ bank_in c (update_release l c s dt).loops s
unfolding update_release
release-rest c l s dt = refl

release-same : (c : LoopBankConfig) (l : Loops) (s : MixState) (dt : Float) → rust.release_stages (bank_in c (lowered l dt) s) dt ≡ bank_in c (update_release l c s dt).loops s
release-same c l s dt =
    stages_same c (lowered l dt) s dt
    ∙ ap (λ (mid : Float). released c (lowered l dt) s mid (step_of (lowered l dt) c s slow_times l.slow (db zero64) dt).envelope.current) (release-mid c l s dt)
    ∙ ap (λ (slow : Float). bank_in c (with_slow (with_mid (lowered l dt) (update_release l c s dt).loops.mid.0) slow) s) (release-slow c l s dt)
    ∙ release-rest c l s dt

-- any loops that hold l, whatever else they keep
abbrev pub bank_of : LoopBankConfig → Loops → Bool → Bool → Float → rust.LoopBank
bank_of c l r i u = rust.bank c l.slow.0 l.mid.0 l.fast.0 l.hold_remaining_seconds r i u

abbrev pub engine_of : AutomixEngineConfig → rust.LoopBank → MixState → rust.AutomixEngine
engine_of c b s = record { config = c; loops = b; previous_state = s }

pub tick-same : (config : AutomixEngineConfig) (l : Loops) (r i : Bool) (u : Float) (before s : MixState) (n : LoudnessSnapshot) (dt : Float) → rust.tick_loops (engine_of config (bank_of (loop_config config) l r i u) before) s n.bed_short_term_lufs.0 n.bed_momentary_lufs.0 n.dialogue_short_term_lufs.0 dt ≡ bank_in (loop_config config) (tick_in config l s n dt).loops s
unfolding rust.tick_loops rust.rust_update_slow_mid rust.rust_update_release rust.rust_required_reduction rust.target_in tick_in required_reduction active_target release_speedup
tick-same config l r i u before ReleaseToUnity n dt = release-same (loop_config config) l ReleaseToUnity dt
tick-same config l r i u before DuckToTarget n dt = slow-mid-same (loop_config config) l DuckToTarget _ _ dt
tick-same config l r i u before InterviewPassthrough n dt = release-same (loop_config config) l InterviewPassthrough dt
tick-same config l r i u before DuckToOvervoice n dt = slow-mid-same (loop_config config) l DuckToOvervoice _ _ dt

goal_same : (c : LoopBankConfig) (l : Loops) (s : MixState) (need : Need) → rust.fast_target false (bank_in c l s) need ≡ (duck_goal l c need).0
unfolding rust.fast_target duck_goal
goal_same c l s Nothing = refl
goal_same c l s (Reduction x) = refl

-- the Rust's need is none in a release, where fast heads for 0 anyway
fast-target-same : (config : AutomixEngineConfig) (l : Loops) (s : MixState) (bed dialogue : Lufs) → rust.fast_target (not (is_ducking s)) (bank_in (loop_config config) l s) (cond (is_ducking s) (rust.rust_required_reduction (rust.target_in config s) bed.0 dialogue.0) Nothing) ≡ (fast_goal l (loop_config config) s (required_reduction (active_target config s) bed dialogue)).0
unfolding rust.fast_target rust.rust_required_reduction rust.target_in fast_goal required_reduction active_target
fast-target-same config l ReleaseToUnity bed dialogue = refl
fast-target-same config l DuckToTarget bed dialogue = goal_same (loop_config config) l DuckToTarget _
fast-target-same config l InterviewPassthrough bed dialogue = refl
fast-target-same config l DuckToOvervoice bed dialogue = goal_same (loop_config config) l DuckToOvervoice _

pub fast-same : (config : AutomixEngineConfig) (l : Loops) (s : MixState) (bed dialogue : Lufs) (dt : Float) → rust.rust_process_fast (engine_of config (bank_in (loop_config config) l s) s) bed.0 dialogue.0 dt ≡ engine_of config (bank_in (loop_config config) (process_fast config l s bed dialogue dt).loops s) s
unfolding rust.rust_process_fast rust.rust_update_fast process_fast update_fast
fast-same config l s bed dialogue dt =
    ap (λ (v : Float). engine_of config (bank_in (loop_config config) (with_fast l v) s) s)
    (ap (λ (g : Float). rust.stage (bank_in (loop_config config) l s) fast_times l.fast.0 g dt) (fast-target-same config l s bed dialogue) ∙ stage-same (loop_config config) l s fast_times l.fast _ dt)
