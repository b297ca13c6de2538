-- Refusal 4, runaway: the frame would store, answer, or hand to the logarithm, a power, the root or the narrowing a number that isn't finite.
-- Here stand all these numbers, as the specification and the Rust have them: a list for each of the six, and the promise. No flag of the code is read.
-- What a frame makes of a chain is `work_of`; t is a strand before the frame, xs are the 480 samples that its detector hears (all of the key's, the
-- bed's first channel), and f is what the frame makes of it.
use Rattle.std.specs.Prelude.{ℕ, zero, suc, ◌+◌, ◌-◌, ◌≡◌, ◌↔◌, false, cond, ◌&&◌, List, [], ◌∷◌, ◌++◌, ltb, length, get_or, take, drop, Float, Option, Some, None, option_to_list, Err}
use Rattle.std.specs.Float.{nan}
use Rattle.std.specs.Float.Ieee.{neg, lt}
use Rattle.refusal.specs.declared.Refusal.TheVariants.{Runaway}
use Rattle.refusal.specs.Table.{number_of}
use Rattle.float.specs.declared.Lufs.{Lufs}
use Rattle.float.specs.Choice.{clamp_of}
use Rattle.sequence.specs.History.{latest, held}
use Rattle.level.specs.declared.Level.{Level}
use Rattle.level.specs.Bs1770.{momentary_frames, short_term_frames}
use Rattle.float.specs.Arithmetic.{◌⊕◌, ◌⊖◌, ◌⊗◌, ◌⊘◌, zero64, one64, ten64}
use Rattle.float.specs.AllFinite.{all_finite}
use Rattle.level.specs.Level as level
use Rattle.layout.specs.Weights.{used_weights}
use Rattle.channels.specs.declared.Channel.{Channel}
use Rattle.channels.specs.declared.Surround.{Surround}
use Rattle.channels.specs.Surround.{own_of}
use Rattle.detector.specs.declared.filters.Bands.{Bands}
use Rattle.detector.specs.declared.FeatureDetector.{FeatureDetector}
use Rattle.detector.specs.Filters.{begun, run_of, outputs_of, eighths}
use Rattle.detector.specs.Modulation.{variance_of}
use Rattle.detector.specs.Voicing.{energy_of, uneven_of}
use Rattle.detector.specs.Detector.{frame64}
use Rattle.vad.specs.declared.VadState.{VadState}
use Rattle.vad.specs.declared.Strand.{Strand}
use Rattle.vad.specs.declared.Framed.{Framed}
use Rattle.comis.specs.declared.Shown.{Shown}
use Rattle.comis.specs.declared.Shown.TheVariants as shown
use Rattle.comis.specs.declared.mix_state.MixState.{MixState}
use Rattle.comis.specs.declared.mix_state.MixState.TheVariants.{ReleaseToUnity, DuckToTarget, InterviewPassthrough, DuckToOvervoice}
use Rattle.comis.specs.declared.loop_bank.Ballistics.{Ballistics}
use Rattle.comis.specs.declared.loop_bank.Loops.{Loops}
use Rattle.comis.specs.declared.loop_bank.Need.{Need}
use Rattle.comis.specs.declared.loop_bank.Need.TheVariants.{Nothing, Reduction}
use Rattle.comis.specs.MixState.{from_vad, is_ducking}
use Rattle.comis.specs.Envelope.{time_constant, gradual, exponent}
use Rattle.comis.specs.LoopBank.{slow_times, mid_times, fast_times, scaled_of, remaining_of}
use Rattle.comis.specs.Engine.{mid_authority, fast_authority, required_reduction, active_target, loop_config}
use Rattle.ratio.specs.declared.Duck.{Duck}
use Rattle.ratio.specs.declared.Inputs.{Inputs}
use Rattle.ratio.specs.declared.RatioStatus.{RatioStatus}
use Rattle.ratio.specs.Status.{config_of}
use Rattle.ratio.specs.Frame.{frame_seconds}
use Rattle.chain.specs.declared.Chain.{Chain}
use Rattle.chain.specs.declared.Answer.{Answer}
use Rattle.chain.specs.declared.Worked.{Worked}
use Rattle.chain.specs.Chain.{inputs_of, first_channel, work_of, kept_of, answer_of, channel_count, frame_of}
use Rattle.chain.specs.StrandFrames.{Whole}
use Rattle.chain.specs.Valid.{Valid}
use Rattle.chain.specs.Numbers.{numbers_of}
use Rattle.rules.specs.Rules.{frame_number}

-- ---- stored: every float of the chain after the frame, those of each channel of the bed too, an LFE's as well

abbrev pub stored_in : Chain → Worked → List Float
stored_in c w = numbers_of (kept_of c w)

-- ---- answered: the unrounded reduction, all of `RatioStatus`, and each strand's `VadState`. Silence and a speech level that is absent are no numbers.

abbrev pub of_shown : Shown → List Float
of_shown shown.Silence = []
of_shown (shown.Level x) = x ∷ []

abbrev pub of_status : RatioStatus → List Float
of_status s =
    (s.reduction_db.0 ∷ s.slow_db.0 ∷ s.mid_db.0 ∷ s.fast_db.0 ∷ s.target_lu ∷ [])
    ++ of_shown s.ratio_lu ++ of_shown s.dialogue_lufs ++ of_shown s.bed_lufs

abbrev pub of_state : VadState → List Float
of_state s =
    (s.speech_probability ∷ s.level_dbfs ∷ s.momentary_lufs.0 ∷ s.short_term_lufs.0
    ∷ s.features.over_floor_db ∷ s.features.modulation_db ∷ s.features.voicing ∷ s.features.anti ∷ [])
    ++ option_to_list s.speech_level

abbrev pub answered_in : Answer → List Float
answered_in a = (a.reduction.0 ∷ []) ++ of_status a.status ++ of_state a.key ++ of_state a.bed

-- ---- to the logarithm: `lufs` and `db` take it only of a power above 0

abbrev pub above_zero : Float → List Float
above_zero p = cond (lt zero64 p) (p ∷ []) []

-- the means over 40 and over 300 frames of the level after the frame, and the fast power
abbrev pub of_loudness : Level → Float → List Float
of_loudness l fast = above_zero (level.mean_of momentary_frames l.powers) ++ above_zero (level.mean_of short_term_frames l.powers) ++ above_zero fast

-- the fast power of the key, which has one channel, of weight 1
abbrev pub key_fast : Level → Float
key_fast l = zero64 ⊕ one64 ⊗ l.fast

-- each channel's fast power, by its weight, added in channel order
unfoldable pub joint_fast : Float → List Float → List Channel → Float
joint_fast sum [] cs = sum
joint_fast sum (b ∷ bs) [] = sum
joint_fast sum (b ∷ bs) (c ∷ cs) = joint_fast (sum ⊕ b ⊗ c.fast) bs cs

-- that of the bed: the strand's channel is its first, and the weights are the layout's
abbrev pub bed_fast : Level → Surround → Float
bed_fast l s = joint_fast zero64 (used_weights s.layout) (own_of l ∷ s.others)

-- the powers of the frame and of its band, from the sums over the samples
abbrev pub of_bands : Bands → List Float
of_bands s = above_zero (s.full ⊘ frame64) ++ above_zero (s.band ⊘ frame64)

-- the speech power, from which the speech level is worked out
abbrev pub of_speech : Option Float → List Float
of_speech None = []
of_speech (Some m) = above_zero m

abbrev pub to_logarithm : Strand → List Float → Framed → Float → List Float
to_logarithm t xs f fast = of_loudness f.strand.level fast ++ of_bands (run_of (begun t.detector.filters) xs) ++ of_speech f.strand.decision.power

-- ---- to a power

-- 10 ^ u, of the frame's level while speech is on
abbrev pub to_ten : Framed → List Float
to_ten f = cond f.state.speech_active ((f.state.level_dbfs ⊘ ten64) ∷ []) []

-- e ^ u, by an envelope's step of 0.01 s. Where the time constant isn't above 0 or isn't finite, it jumps to its target.
abbrev pub by_step : Ballistics → Float → Float → List Float
by_step t current target =
    let tc = time_constant current target t.attack_seconds t.release_seconds in
    cond (gradual tc frame_seconds) (exponent tc frame_seconds ∷ []) []

-- 60 ^ u, by the stretch of a release, from the hold that remains
abbrev pub by_stretch : MixState → Float → List Float
by_stretch ReleaseToUnity hold = remaining_of hold ∷ []
by_stretch DuckToTarget hold = []
by_stretch InterviewPassthrough hold = []
by_stretch DuckToOvervoice hold = []

-- the ducker's steps in a state, from the loops before the frame to those after it: in a duck slow and mid after the frame are those after their steps
module _ (before after : Loops) (d : Duck) (state : MixState) where
  abbrev pub times_of : Ballistics → Ballistics
  times_of b = scaled_of (loop_config (config_of d)) b after.hold_remaining_seconds state

  -- without a need slow and mid stay, and fast steps toward itself
  abbrev pub slow_step : Need → List Float
  slow_step Nothing = []
  slow_step (Reduction need) = by_step (times_of slow_times) before.slow.0 (clamp_of need.0 zero64 d.max_reduction_db.0)

  abbrev pub mid_step : Need → List Float
  mid_step Nothing = []
  mid_step (Reduction need) = by_step (times_of mid_times) before.mid.0 (clamp_of (need.0 ⊖ after.slow.0) (neg mid_authority.0) mid_authority.0)

  abbrev pub fast_step : Need → List Float
  fast_step Nothing = by_step (times_of fast_times) before.fast.0 before.fast.0
  fast_step (Reduction need) = by_step (times_of fast_times) before.fast.0 (clamp_of (need.0 ⊖ (after.slow.0 ⊕ after.mid.0)) zero64 fast_authority.0)

  -- what a reading of the bed needs
  abbrev pub need_of : Lufs → Lufs → Need
  need_of bed dialogue = required_reduction (active_target (config_of d) state) bed dialogue

  abbrev pub ducking : Inputs → List Float
  ducking i =
      slow_step (need_of i.bed_short_term i.dialogue_short_term)
      ++ mid_step (need_of i.bed_momentary i.dialogue_short_term)
      ++ fast_step (need_of i.bed_fast i.dialogue_short_term)

  abbrev pub releasing : List Float
  releasing =
      by_step (times_of mid_times) before.mid.0 zero64 ++ by_step (times_of slow_times) before.slow.0 zero64 ++ by_step (times_of fast_times) before.fast.0 zero64

  abbrev pub steps : Inputs → List Float
  steps i = cond (is_ducking state) (ducking i) releasing ++ by_stretch state after.hold_remaining_seconds

abbrev pub state_of : Duck → Inputs → MixState
state_of d i = from_vad i.key_voice (i.target_voice && d.bed_voice)

-- a disabled ducker hands nothing on
abbrev pub to_power : Chain → Worked → List Float
to_power c w =
    let d = c.settings.duck in
    let i = inputs_of w.key w.bed in
    to_ten w.key ++ to_ten w.bed ++ cond d.enabled (steps c.loops w.duck.loops d (state_of d i) i) []

-- ---- to the root

-- head times tail of n lags, from lag on: the energies of x[..240 - lag] and x[lag..], from those of the lag before; at the first lag, 15, they are there
unfoldable pub head_tails : List Float → ℕ → ℕ → Float → Float → List Float
head_tails x zero lag head tail = []
head_tails x (suc n) lag head tail =
    let h = cond (ltb 15 lag) (head ⊖ get_or x (240 - lag) nan ⊗ get_or x (240 - lag) nan) head in
    let t = cond (ltb 15 lag) (tail ⊖ get_or x (lag - 1) nan ⊗ get_or x (lag - 1) nan) tail in
    (h ⊗ t) ∷ head_tails x n (lag + 1) h t

-- the lags 15 to 75, where the halves are even
abbrev pub of_window : List Float → List Float
of_window x = cond (uneven_of (energy_of (take 120 x)) (energy_of (drop 120 x))) [] (head_tails x 61 15 (energy_of (take 225 x)) (energy_of (drop 15 x)))

-- of 240 values; nothing while there are fewer
unfoldable pub of_voicing : List Float → List Float
of_voicing xs = cond (ltb (length xs) 240) [] (of_window (latest 240 xs))

-- of the detector after the frame
abbrev pub of_detector : FeatureDetector → List Float
of_detector d = variance_of (held d.history.count d.history.list) ∷ of_voicing (held d.decimated.count d.decimated.list)

abbrev pub to_root : Framed → List Float
to_root f = of_detector f.strand.detector

-- ---- to the narrowing: every eighth output of the pitch filter, 60 of them

abbrev pub to_narrowing : Strand → List Float → List Float
to_narrowing t xs = eighths 60 (outputs_of (begun t.detector.filters) xs)

-- ---- all of them

unfoldable pub numbers_in : Chain → List Float → List Float → List Float
numbers_in c key bed =
    let w = work_of c key bed in
    let first = first_channel bed in
    stored_in c w
    ++ answered_in (answer_of w)
    ++ (to_logarithm c.key key w.key (key_fast w.key.strand.level) ++ to_logarithm c.bed first w.bed (bed_fast w.bed.strand.level w.surround))
    ++ to_power c w
    ++ (to_root w.key ++ to_root w.bed)
    ++ (to_narrowing c.key key ++ to_narrowing c.bed first)

-- ---- the promise

-- 480 finite samples of the key and of each channel of the bed, so that neither 1 nor 2 is met, and a number that isn't finite
abbrev pub RunsAway : Chain → List Float → List Float → Type 0
RunsAway c key bed = Whole (channel_count c) key bed × (all_finite (numbers_in c key bed) ≡ false)

-- THE PROMISE: on a chain that an image can hold, a frame is refused with 4 exactly where it runs away
pub record RunawayExact : Type 0 where
  -- by the table
  pub number : (c : Chain) (key bed : List Float) → Valid c → (frame_number c key bed ≡ number_of Runaway) ↔ RunsAway c key bed
  -- by `Chain::frame`
  pub outcome : (c : Chain) (key bed : List Float) → Valid c → ((frame_of c key bed).outcome ≡ Err Runaway) ↔ RunsAway c key bed
