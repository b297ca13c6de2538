-- The three loops: the Rust's `LoopBank`, each operation rounded in its order, without the fields that each update sets before it reads them:
-- `releasing`, `interview_release` and `release_speedup` are what the state says. Definitions only.
use Rattle.std.specs.Prelude.{Bool, true, ◌&&◌, cond, Float}
use Rattle.std.specs.Float.{binary64}
use Rattle.std.specs.Float.Ieee.{neg, lt, of_bits}
use Rattle.float.specs.Arithmetic.{◌⊕◌, ◌⊖◌, ◌⊗◌, ◌⊘◌, zero64, one64}
use Rattle.float.specs.Choice.{max_of, clamp_of}
use Rattle.float.specs.declared.Db.{Db}
use Rattle.power.specs.Power.{exp60_of}
use Rattle.comis.specs.declared.envelope.Stepped.{Stepped}
use Rattle.comis.specs.declared.mix_state.MixState.{MixState}
use Rattle.comis.specs.declared.mix_state.MixState.TheVariants.{ReleaseToUnity, DuckToTarget, InterviewPassthrough, DuckToOvervoice}
use Rattle.comis.specs.declared.loop_bank.Ballistics.{Ballistics}
use Rattle.comis.specs.declared.loop_bank.LoopBankConfig.{LoopBankConfig}
use Rattle.comis.specs.declared.loop_bank.Loops.{Loops}
use Rattle.comis.specs.declared.loop_bank.Need.{Need}
use Rattle.comis.specs.declared.loop_bank.Need.TheVariants.{Nothing, Reduction}
use Rattle.comis.specs.declared.loop_bank.Updated.{Updated}
use Rattle.comis.specs.declared.loop_bank.LoopContributions.{LoopContributions}
use Rattle.comis.specs.Envelope.{process_of}
use Rattle.comis.specs.MixState.{is_ducking}

-- ---- constants

-- attack and release at speed 1, seconds
abbrev pub slow_times : Ballistics
slow_times = record { attack_seconds = of_bits binary64 0x4004000000000000; release_seconds = of_bits binary64 0x4008000000000000 }  -- 2.5, 3

abbrev pub mid_times : Ballistics
mid_times = record { attack_seconds = of_bits binary64 0x3fc3333333333333; release_seconds = of_bits binary64 0x3fe3333333333333 }  -- 0.15, 0.6

abbrev pub fast_times : Ballistics
fast_times = record { attack_seconds = of_bits binary64 0x3f747ae147ae147b; release_seconds = of_bits binary64 0x3fd999999999999a }  -- 0.005, 0.4

-- 0.8 s
abbrev pub release_hold : Float
release_hold = of_bits binary64 0x3fe999999999999a

-- 4
abbrev pub interview_speedup : Float
interview_speedup = of_bits binary64 0x4010000000000000

-- 0.01
abbrev pub least_speed : Float
least_speed = of_bits binary64 0x3f847ae147ae147b

-- ---- time constants

-- what is handed to the power of 60: the part of the hold that is left, from 0 to 1
abbrev pub remaining_of : Float → Float
remaining_of hold = clamp_of (hold ⊘ release_hold) zero64 one64

unfoldable pub release_stretch : Float → MixState → Float
release_stretch hold ReleaseToUnity = exp60_of (remaining_of hold)
release_stretch hold DuckToTarget = one64
release_stretch hold InterviewPassthrough = one64
release_stretch hold DuckToOvervoice = one64

unfoldable pub release_speedup : MixState → Float
release_speedup ReleaseToUnity = one64
release_speedup DuckToTarget = one64
release_speedup InterviewPassthrough = interview_speedup
release_speedup DuckToOvervoice = one64

unfoldable pub scaled_of : LoopBankConfig → Ballistics → Float → MixState → Ballistics
scaled_of config b hold state =
    let speed = max_of config.speed least_speed in
    record {
      attack_seconds = b.attack_seconds ⊘ speed;
      release_seconds = b.release_seconds ⊗ release_stretch hold state ⊘ (speed ⊗ release_speedup state);
    }

-- ---- steps

-- x dB
abbrev pub db : Float → Db
db x = record { 0 = x }

-- one loop at x dB, or x seconds left of the hold
abbrev pub with_slow : Loops → Float → Loops
with_slow l x = record { slow = db x; mid = l.mid; fast = l.fast; hold_remaining_seconds = l.hold_remaining_seconds }

abbrev pub with_mid : Loops → Float → Loops
with_mid l x = record { slow = l.slow; mid = db x; fast = l.fast; hold_remaining_seconds = l.hold_remaining_seconds }

abbrev pub with_fast : Loops → Float → Loops
with_fast l x = record { slow = l.slow; mid = l.mid; fast = db x; hold_remaining_seconds = l.hold_remaining_seconds }

abbrev pub with_hold : Loops → Float → Loops
with_hold l x = record { slow = l.slow; mid = l.mid; fast = l.fast; hold_remaining_seconds = x }

abbrev pub updated : Loops → Bool → Updated
updated l b = record { loops = l; finite = b }

-- a value one step nearer to its target; the smoother holds it as a plain number, dB
unfoldable pub step_of : Loops → LoopBankConfig → MixState → Ballistics → Db → Db → Float → Stepped
step_of l config state b value target dt =
    let t = scaled_of config b l.hold_remaining_seconds state in
    process_of (record { current = value.0 }) target.0 t.attack_seconds t.release_seconds dt

-- ---- fresh

abbrev pub zero_loops : Loops
zero_loops = record { slow = db zero64; mid = db zero64; fast = db zero64; hold_remaining_seconds = zero64 }

-- ---- ducking

unfoldable pub step_slow : Loops → LoopBankConfig → MixState → Need → Float → Updated
step_slow l config state Nothing dt = updated l true
step_slow l config state (Reduction need) dt =
    let s = step_of l config state slow_times l.slow (db (clamp_of need.0 zero64 config.max_gain_reduction_db.0)) dt in
    updated (with_slow l s.envelope.current) s.finite

-- slow's value is the one after its step
unfoldable pub step_mid : Loops → LoopBankConfig → MixState → Need → Float → Updated
step_mid l config state Nothing dt = updated l true
step_mid l config state (Reduction need) dt =
    let trim = db (clamp_of (need.0 ⊖ l.slow.0) (neg config.mid_authority_db.0) config.mid_authority_db.0) in
    let m = step_of l config state mid_times l.mid trim dt in
    updated (with_mid l m.envelope.current) m.finite

unfoldable pub update_slow_mid : Loops → LoopBankConfig → MixState → Need → Need → Float → Updated
update_slow_mid l config state slow mid dt =
    let s = step_slow (with_hold l release_hold) config state slow dt in
    let m = step_mid s.loops config state mid dt in
    updated m.loops (s.finite && m.finite)

-- slow and mid are those after their steps
unfoldable pub duck_goal : Loops → LoopBankConfig → Need → Db
duck_goal l config Nothing = l.fast
duck_goal l config (Reduction need) = db (clamp_of (need.0 ⊖ (l.slow.0 ⊕ l.mid.0)) zero64 config.fast_authority_db.0)

unfoldable pub fast_goal : Loops → LoopBankConfig → MixState → Need → Db
fast_goal l config state need = cond (is_ducking state) (duck_goal l config need) (db zero64)

unfoldable pub update_fast : Loops → LoopBankConfig → MixState → Need → Float → Updated
update_fast l config state need dt =
    let f = step_of l config state fast_times l.fast (fast_goal l config state need) dt in
    updated (with_fast l f.envelope.current) f.finite

-- ---- release

-- slow after its step, less what mid gave back on its way up to 0, dB
unfoldable pub less_trim : Float → Float → Float
less_trim slow trim = cond (lt zero64 trim) (max_of (slow ⊖ trim) zero64) slow

unfoldable pub update_release : Loops → LoopBankConfig → MixState → Float → Updated
update_release l config state dt =
    let held = with_hold l (max_of (l.hold_remaining_seconds ⊖ dt) zero64) in
    let m = step_of held config state mid_times l.mid (db zero64) dt in
    let trim = max_of (m.envelope.current ⊖ l.mid.0) zero64 in
    let s = step_of held config state slow_times l.slow (db zero64) dt in
    updated (with_slow (with_mid held m.envelope.current) (less_trim s.envelope.current trim)) (m.finite && s.finite)

-- ---- the sum

abbrev pub total_of : Loops → Db → Db
total_of l most = db (clamp_of (l.slow.0 ⊕ l.mid.0 ⊕ l.fast.0) zero64 most.0)

unfoldable pub contributions_of : Loops → LoopBankConfig → LoopContributions
contributions_of l config =
    record {
      slow_db = l.slow;
      mid_db = l.mid;
      fast_db = l.fast;
      total_db = total_of l config.max_gain_reduction_db;
    }
