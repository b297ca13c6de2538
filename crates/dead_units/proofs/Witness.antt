-- Concrete histories: a silent frame on a fresh chain passes and reduces nothing; after it and a settings call a frame with a click reduces the bed.
use Prim.Native.Nat.{ℕ}
use mathlib.Core.Path.{◌≡◌, refl, ◌∙◌}
use mathlib.Core.Bool.{true, false}
use mathlib.Core.List.{List, [], ◌∷◌}
use lib.ListN.{length}
use lib.Ieee.{Float, binary64, size, round, add, sum, sub, neg, mul, div, lt, le, eq, is_nan, of_bits, of_int, to_unsigned}
use Rattle.float.specs.Units.{units_of}
use Rattle.float.specs.Whole.{round_of}
use Rattle.float.specs.Choice.{max_of, min_of, clamp_of}
use Rattle.narrow.specs.Narrow.{narrow_of}
use Rattle.root.specs.Root.{sqrt_of, root_of, root_of_units, floor_root, root_below}
use Rattle.logarithm.specs.Logarithm.{log10_of, log2_of, log2_to, log2_at, quotient_of, units_log_of, whole_log_of, fraction_of}
use Rattle.power.specs.Roots.{roots}
use Rattle.power.specs.Power.{exp10_of, exp60_of, exp_of, exp2_of, pow_at, pow_units, raise, floor_of, floor_units}
use Rattle.sequence.specs.History.{latest, newest, count_after, places_after}
use Rattle.biquad.specs.Tick.{tick_of}
use Rattle.level.specs.Bs1770.{mean, loudness}
use Rattle.float.specs.Arithmetic.{zero64, one64}
use Rattle.float.specs.AllFinite.{all_finite}
use Rattle.sequence.specs.Latest as values
use Rattle.level.specs.Weighing as weighing
use Rattle.level.specs.Level as level
use Rattle.detector.specs.Filters as filters
use Rattle.detector.specs.Steps.{db_of, smoothstep_of}
use Rattle.detector.specs.Floor as floor
use Rattle.detector.specs.Modulation as modulation
use Rattle.detector.specs.Voicing as voicing
use Rattle.detector.specs.Detector as detector
use Rattle.vad.specs.declared.VadSettings.{VadSettings}
use Rattle.vad.specs.Hold.{hold_frames}
use Rattle.vad.specs.Decision as decision
use Rattle.vad.specs.State as state
use Rattle.vad.specs.Strand as strand
use Rattle.comis.specs.Envelope.{coeff_of, process_of}
use Rattle.comis.specs.LoopBank as bank
use Rattle.comis.specs.Engine.{required_reduction, active_target, tick_in, process_tick, process_fast}
use Rattle.ratio.specs.Status as status
use Rattle.ratio.specs.Finite.{finite_shown, finite_loops, finite_status}
use Rattle.ratio.specs.Frame.{enabled_frame, frame_of}
use Rattle.settings.specs.declared.Settings.{Settings}
use Rattle.chain.specs.declared.Chain.{Chain}
use Rattle.chain.specs.declared.Worked.{Worked}
use Rattle.settings.specs.Settings.{call_ranges, outside_of, outside_strand, outside_duck, outside_settings, stored_of, stored_strand, stored_duck, zeroed_of, fresh_duck}
use Rattle.channels.specs.Surround.{mono_surround}
use Rattle.chain.specs.Base.{Base, widened, fresh_base, base_work}
use Rattle.chain.specs.Chain.{fresh_of, inputs_of, worked_of, work_of, kept_of, finite_in, full_in}
use Rattle.rules.proofs.Mono.{work-is}
use Rattle.dead_units.proofs.Silence.{Rests, late_frame, late_of, strand_late}

abbrev pub silence : List Float
silence = late_frame 480 []

abbrev pub click : List Float
click = late_frame 479 (one64 ∷ [])

-- what a frame with n zeros first makes of a chain with one channel whose strands are at rest
abbrev pub late_work : Base → ℕ → List Float → Worked
late_work b n xs = worked_of (widened b) (late_of b.key n xs b.settings.key) (late_of b.bed n xs b.settings.bed) mono_surround

pub work_late : (b : Base) → Rests b.key → Rests b.bed → (n : ℕ) (xs : List Float) → length (late_frame n xs) ≡ 480
    → work_of (widened b) (late_frame n xs) (late_frame n xs) ≡ late_work b n xs
unfolding base_work
work_late b k d n xs e =
    work-is b (late_frame n xs) (late_frame n xs) e
    ∙ (λ i. worked_of (widened b) (strand_late b.key k n xs e b.settings.key i) (strand_late b.bed d n xs e b.settings.bed i) mono_surround)

pub fresh-rests : Rests fresh_base.key
fresh-rests = record { level = refl; filters = refl }

-- the chain after a silent frame
abbrev pub quiet_chain : Chain
quiet_chain = kept_of fresh_of (late_work fresh_base 480 [])

-- key threshold 0 and bed threshold 1, so that the key alone speaks, and gates at 0 LUFS
abbrev strand_at : Float → VadSettings
strand_at threshold = record { threshold = threshold; hold_ms = of_bits binary64 0x4072c00000000000; gate_lufs = record { 0 = zero64 } }

abbrev pub key_speaks : Settings
key_speaks = record { key = strand_at zero64; bed = strand_at one64; duck = fresh_duck }

abbrev pub click_base : Base
click_base = record { settings = stored_of key_speaks; key = quiet_chain.key; bed = quiet_chain.bed; loops = quiet_chain.loops }

-- by computation
pub record Computed : Type 0 where
  pub silent_finite : finite_in (late_work fresh_base 480 []) ≡ true
  pub silent_room : full_in (late_work fresh_base 480 []) ≡ false
  pub silent_reduction : lt zero64 (late_work fresh_base 480 []).duck.reduction.0 ≡ false
  pub key_rests : Rests quiet_chain.key
  pub bed_rests : Rests quiet_chain.bed
  pub click_finite : finite_in (late_work click_base 479 (one64 ∷ [])) ≡ true
  pub click_room : full_in (late_work click_base 479 (one64 ∷ [])) ≡ false
  pub click_reduction : lt zero64 (late_work click_base 479 (one64 ∷ [])).duck.reduction.0 ≡ true
  pub in_range : outside_settings call_ranges key_speaks ≡ false
  pub silence_sound : all_finite silence ≡ true
  pub click_sound : all_finite click ≡ true

pub computed : Computed
unfolding
    late_of strand.finish_of decision.heard_of decision.smoothed_of decision.off_of decision.onset_of decision.offset_of decision.switch_of decision.mean_of decision.voiced_of decision.decide_of decision.full_of
    state.tenths_of state.hundredths_of state.rounded_of state.speech_level_of state.state_of
    level.finish_of level.read_of level.joined_of level.means_of mean level.lufs_of level.start_of weighing.run_of weighing.step_of loudness newest
    detector.finish_of detector.powers_of detector.shown_of detector.probability_of
    filters.run_of filters.step_of filters.outputs_of filters.kept_of filters.eighths tick_of
    floor.floor_of floor.smoothed_of floor.window_min_of floor.stored_of
    modulation.modulation_of modulation.variance_of modulation.mean_of modulation.deviations_of modulation.total_of
    voicing.voicing_of sqrt_of root_of root_of_units floor_root root_below hold_frames to_unsigned
    smoothstep_of clamp_of round_of log10_of log2_of log2_to log2_at quotient_of units_log_of whole_log_of fraction_of units_of
    exp10_of exp60_of exp_of exp2_of pow_at pow_units raise roots floor_of floor_units
    inputs_of frame_of enabled_frame coeff_of process_of required_reduction active_target tick_in process_tick process_fast
    bank.release_stretch bank.release_speedup bank.scaled_of bank.step_of bank.step_slow bank.step_mid bank.update_slow_mid bank.duck_goal bank.fast_goal bank.update_fast bank.less_trim bank.update_release bank.contributions_of
    status.rounded_of status.reading_of status.ratio_shown status.status_of finite_shown finite_loops finite_status
    all_finite db_of narrow_of max_of min_of values.keep_of values.push_of values.blanks count_after places_after latest is_nan neg le eq add sum sub mul div lt round size of_int of_bits
    stored_of stored_strand stored_duck zeroed_of outside_settings outside_strand outside_duck outside_of
computed = record {
  silent_finite = refl;
  silent_room = refl;
  silent_reduction = refl;
  key_rests = record { level = refl; filters = refl };
  bed_rests = record { level = refl; filters = refl };
  click_finite = refl;
  click_room = refl;
  click_reduction = refl;
  in_range = refl;
  silence_sound = refl;
  click_sound = refl;
}
