-- The ducker's flag against the lists: each envelope's flag is that of what it hands to the power, state by state.
use mathlib.Core.Path.{◌≡◌, refl, sym, ap, subst, ◌∙◌}
use mathlib.Core.Bool.{Bool, true, false, cond, ◌&&◌, and-true}
use mathlib.Core.List.{List, [], ◌∷◌, ◌++◌}
use lib.Dec.{T}
use lib.Ieee.{Float, neg}
use lib.Ieee.Fits.{and_i, and_l, and_r}
use lib.Ieee.Scale as scale
use Rattle.float.specs.declared.Db.{Db}
use Rattle.float.specs.Choice.{clamp_of}
use Rattle.float.specs.Arithmetic.{◌⊕◌, ◌⊖◌, zero64}
use Rattle.float.specs.AllFinite.{all_finite}
use Rattle.comis.specs.declared.Shown.{Shown}
use Rattle.comis.specs.declared.Shown.TheVariants as shown
use Rattle.comis.specs.declared.mix_state.MixState.{MixState}
use Rattle.comis.specs.declared.mix_state.MixState.TheVariants.{ReleaseToUnity, DuckToTarget, InterviewPassthrough, DuckToOvervoice}
use Rattle.comis.specs.declared.loop_bank.Ballistics.{Ballistics}
use Rattle.comis.specs.declared.loop_bank.LoopBankConfig.{LoopBankConfig}
use Rattle.comis.specs.declared.loop_bank.Loops.{Loops}
use Rattle.comis.specs.declared.loop_bank.Need.{Need}
use Rattle.comis.specs.declared.loop_bank.Need.TheVariants.{Nothing, Reduction}
use Rattle.comis.specs.declared.loop_bank.Updated.{Updated}
use Rattle.power.specs.Power.{exp_of}
use Rattle.comis.specs.declared.envelope.Coefficient.{Coefficient}
use Rattle.comis.specs.MixState.{is_ducking}
use Rattle.comis.specs.Envelope.{time_constant, gradual, exponent, coeff_of, process_of}
use Rattle.comis.specs.LoopBank.{db, slow_times, mid_times, fast_times, scaled_of, step_of, step_slow, step_mid, update_slow_mid, duck_goal, fast_goal, update_fast, update_release, with_hold, release_hold}
use Rattle.comis.specs.Engine.{mid_authority, fast_authority, loop_config, tick_in, process_tick, process_fast}
use Rattle.comis.proofs.Stretch.{remaining_finite}
use Rattle.ratio.specs.declared.Duck.{Duck}
use Rattle.ratio.specs.declared.Inputs.{Inputs}
use Rattle.ratio.specs.declared.Framed.{Framed}
use Rattle.ratio.specs.declared.RatioStatus.{RatioStatus}
use Rattle.ratio.specs.Status.{config_of}
use Rattle.ratio.specs.Finite.{finite_shown, finite_loops, finite_status}
use Rattle.ratio.specs.Frame.{frame_seconds, snapshot_of, disabled_frame, enabled_frame, frame_of}
use Rattle.chain.specs.Numbers.{of_loops}
use Rattle.runaway.specs.Runaway.{of_shown, of_status, by_step, by_stretch, slow_step, mid_step, fast_step, ducking, releasing, steps, state_of}
use Rattle.level.proofs.Finite.{Alls, none, ◌more◌, ◌and◌, all-finite, finite-all, only, all_and, parts}
use Rattle.rules.proofs.AllFinite.{zero-finite}

three : (a b c : List Float) → all_finite (a ++ b ++ c) ≡ (all_finite a && all_finite b) && all_finite c
three a b c = all_and (a ++ b) c ∙ ap (λ (x : Bool). x && all_finite c) (all_and a b)

-- ---- an envelope's step

coeff_are : (tc : Float) → (coeff_of tc frame_seconds).finite ≡ all_finite (cond (gradual tc frame_seconds) (exponent tc frame_seconds ∷ []) [])
unfolding coeff_of all_finite
coeff_are tc = go (gradual tc frame_seconds)
  where
    chosen : Bool → Coefficient
    chosen b = cond b (record { value = exp_of (exponent tc frame_seconds); finite = scale.finite (exponent tc frame_seconds) }) (record { value = zero64; finite = true })

    go : (b : Bool) → (chosen b).finite ≡ all_finite (cond b (exponent tc frame_seconds ∷ []) [])
    go true = sym (and-true (scale.finite (exponent tc frame_seconds)))
    go false = refl

module _ (d : Duck) (state : MixState) where
  abbrev config : LoopBankConfig
  config = loop_config (config_of d)

  step_are : (l : Loops) (b : Ballistics) (value target : Db)
      → (step_of l config state b value target frame_seconds).finite ≡ all_finite (by_step (scaled_of config b l.hold_remaining_seconds state) value.0 target.0)
  unfolding step_of process_of
  step_are l b value target =
      let t = scaled_of config b l.hold_remaining_seconds state in
      coeff_are (time_constant value.0 target.0 t.attack_seconds t.release_seconds)

  module _ (l before after : Loops) (hold : l.hold_remaining_seconds ≡ after.hold_remaining_seconds) where
    slow_are : l.slow ≡ before.slow → (need : Need) → (step_slow l config state need frame_seconds).finite ≡ all_finite (slow_step before after d state need)
    unfolding step_slow
    slow_are e Nothing = unfold all_finite in refl
    slow_are e (Reduction x) =
        step_are l slow_times l.slow (db (clamp_of x.0 zero64 d.max_reduction_db.0))
        ∙ (λ i. all_finite (by_step (scaled_of config slow_times (hold i) state) (e i).0 (clamp_of x.0 zero64 d.max_reduction_db.0)))

    mid_are : l.mid ≡ before.mid → l.slow ≡ after.slow → (need : Need) → (step_mid l config state need frame_seconds).finite ≡ all_finite (mid_step before after d state need)
    unfolding step_mid
    mid_are e s Nothing = unfold all_finite in refl
    mid_are e s (Reduction x) =
        step_are l mid_times l.mid (db (clamp_of (x.0 ⊖ l.slow.0) (neg mid_authority.0) mid_authority.0))
        ∙ (λ i. all_finite (by_step (scaled_of config mid_times (hold i) state) (e i).0 (clamp_of (x.0 ⊖ (s i).0) (neg mid_authority.0) mid_authority.0)))

    goal_are : is_ducking state ≡ true → l.fast ≡ before.fast → l.slow ≡ after.slow → l.mid ≡ after.mid → (need : Need)
        → (update_fast l config state need frame_seconds).finite ≡ all_finite (fast_step before after d state need)
    unfolding update_fast fast_goal duck_goal
    goal_are b e s m Nothing =
        (λ i. (step_of l config state fast_times l.fast (cond (b i) l.fast (db zero64)) frame_seconds).finite)
        ∙ step_are l fast_times l.fast l.fast
        ∙ (λ i. all_finite (by_step (scaled_of config fast_times (hold i) state) (e i).0 (e i).0))
    goal_are b e s m (Reduction x) =
        (λ i. (step_of l config state fast_times l.fast (cond (b i) (db (clamp_of (x.0 ⊖ (l.slow.0 ⊕ l.mid.0)) zero64 fast_authority.0)) (db zero64)) frame_seconds).finite)
        ∙ step_are l fast_times l.fast (db (clamp_of (x.0 ⊖ (l.slow.0 ⊕ l.mid.0)) zero64 fast_authority.0))
        ∙ (λ i. all_finite (by_step (scaled_of config fast_times (hold i) state) (e i).0 (clamp_of (x.0 ⊖ ((s i).0 ⊕ (m i).0)) zero64 fast_authority.0)))

    unity_are : is_ducking state ≡ false → l.fast ≡ before.fast → (need : Need)
        → (update_fast l config state need frame_seconds).finite ≡ all_finite (by_step (scaled_of config fast_times after.hold_remaining_seconds state) before.fast.0 zero64)
    unfolding update_fast fast_goal
    unity_are b e need =
        (λ i. (step_of l config state fast_times l.fast (cond (b i) (duck_goal l config need) (db zero64)) frame_seconds).finite)
        ∙ step_are l fast_times l.fast (db zero64)
        ∙ (λ i. all_finite (by_step (scaled_of config fast_times (hold i) state) (e i).0 zero64))

  -- ---- the three of a frame

  record Others (l m : Loops) : Type 0 where
    fast : m.fast ≡ l.fast
    hold : m.hold_remaining_seconds ≡ l.hold_remaining_seconds

  slow-keeps : (l : Loops) (need : Need) → ((step_slow l config state need frame_seconds).loops.mid ≡ l.mid) × Others l (step_slow l config state need frame_seconds).loops
  unfolding step_slow
  slow-keeps l Nothing = (refl, record { fast = refl; hold = refl })
  slow-keeps l (Reduction x) = (refl, record { fast = refl; hold = refl })

  mid-keeps : (l : Loops) (need : Need) → ((step_mid l config state need frame_seconds).loops.slow ≡ l.slow) × Others l (step_mid l config state need frame_seconds).loops
  unfolding step_mid
  mid-keeps l Nothing = (refl, record { fast = refl; hold = refl })
  mid-keeps l (Reduction x) = (refl, record { fast = refl; hold = refl })

  module _ (l : Loops) where
    abbrev duck_tick : Need → Need → Updated
    duck_tick slow mid = update_slow_mid l config state slow mid frame_seconds

    abbrev release_tick : Updated
    release_tick = update_release l config state frame_seconds

    abbrev fast_after : Updated → Need → Updated
    fast_after u need = update_fast u.loops config state need frame_seconds

    ducking_are : is_ducking state ≡ true → (slow mid fast : Need)
        → (duck_tick slow mid).finite && (fast_after (duck_tick slow mid) fast).finite
        ≡ all_finite (slow_step l (fast_after (duck_tick slow mid) fast).loops d state slow ++ mid_step l (fast_after (duck_tick slow mid) fast).loops d state mid ++ fast_step l (fast_after (duck_tick slow mid) fast).loops d state fast)
    unfolding update_slow_mid update_fast
    ducking_are b slow mid fast =
        let start = with_hold l release_hold in
        let s = (step_slow start config state slow frame_seconds).loops in
        let m = (step_mid s config state mid frame_seconds).loops in
        let after = (update_fast m config state fast frame_seconds).loops in
        let k = slow-keeps start slow in
        let j = mid-keeps s mid in
        let p = slow_are start l after (sym (j.1.hold ∙ k.1.hold)) refl slow in
        let q = mid_are s l after (sym j.1.hold) k.0 (sym j.0) mid in
        let r = goal_are m l after refl b (j.1.fast ∙ k.1.fast) refl refl fast in
        (λ i. (p i && q i) && r i) ∙ sym (three (slow_step l after d state slow) (mid_step l after d state mid) (fast_step l after d state fast))

    releasing_are : is_ducking state ≡ false → (fast : Need)
        → release_tick.finite && (fast_after release_tick fast).finite ≡ all_finite (releasing l (fast_after release_tick fast).loops d state)
    unfolding update_release update_fast
    releasing_are b fast =
        let u = release_tick.loops in
        let after = (update_fast u config state fast frame_seconds).loops in
        let held = with_hold l u.hold_remaining_seconds in
        let p = step_are held mid_times l.mid (db zero64) in
        let q = step_are held slow_times l.slow (db zero64) in
        let r = unity_are u l after refl b refl fast in
        let times : Ballistics → Ballistics = λ t. scaled_of config t u.hold_remaining_seconds state in
        (λ i. (p i && q i) && r i) ∙ sym (three (by_step (times mid_times) l.mid.0 zero64) (by_step (times slow_times) l.slow.0 zero64) (by_step (times fast_times) l.fast.0 zero64))

-- ---- an enabled frame

module _ (l : Loops) (d : Duck) (i : Inputs) where
  module _ (state : MixState) where
    abbrev tick : Updated
    tick = tick_in (config_of d) l state (snapshot_of i) frame_seconds

    abbrev quick : Updated
    quick = process_fast (config_of d) tick.loops state i.bed_fast i.dialogue_short_term frame_seconds

  powers_are : (state : MixState) → (tick state).finite && (quick state).finite ≡ all_finite (cond (is_ducking state) (ducking l (quick state).loops d state i) (releasing l (quick state).loops d state))
  unfolding tick_in process_fast
  powers_are ReleaseToUnity = releasing_are d ReleaseToUnity l refl _
  powers_are DuckToTarget = ducking_are d DuckToTarget l refl _ _ _
  powers_are InterviewPassthrough = releasing_are d InterviewPassthrough l refl _
  powers_are DuckToOvervoice = ducking_are d DuckToOvervoice l refl _ _ _

stretch_finite : (state : MixState) (hold : Float) → T (scale.finite hold) → Alls (by_stretch state hold)
stretch_finite ReleaseToUnity hold h = remaining_finite hold h more none
stretch_finite DuckToTarget hold h = none
stretch_finite InterviewPassthrough hold h = none
stretch_finite DuckToOvervoice hold h = none

-- ---- what is stored and answered

five : (a b c d e : Bool) → (((a && b) && c) && d) && e ≡ a && (b && (c && (d && (e && true))))
five false b c d e = refl
five true false c d e = refl
five true true false d e = refl
five true true true false e = refl
five true true true true false = refl
five true true true true true = refl

loops_are : (l : Loops) → finite_loops l ≡ all_finite (of_loops l)
unfolding finite_loops all_finite
loops_are l = five true (scale.finite l.slow.0) (scale.finite l.mid.0) (scale.finite l.fast.0) (scale.finite l.hold_remaining_seconds)

shown_are : (s : Shown) → finite_shown s ≡ all_finite (of_shown s)
unfolding finite_shown all_finite
shown_are shown.Silence = refl
shown_are (shown.Level x) = five true true true true (scale.finite x)

status_are : (s : RatioStatus) → finite_status s ≡ all_finite (of_status s)
unfolding finite_status
status_are s =
    let front = s.reduction_db.0 ∷ s.slow_db.0 ∷ s.mid_db.0 ∷ s.fast_db.0 ∷ s.target_lu ∷ [] in
    let r = of_shown s.ratio_lu in
    let a = of_shown s.dialogue_lufs in
    let b = of_shown s.bed_lufs in
    (λ i. ((first i && shown_are s.ratio_lu i) && shown_are s.dialogue_lufs i) && shown_are s.bed_lufs i)
    ∙ sym (all_and (front ++ r ++ a) b ∙ ap (λ (x : Bool). x && all_finite b) (three front r a))
  where
    first : (((scale.finite s.reduction_db.0 && scale.finite s.slow_db.0) && scale.finite s.mid_db.0) && scale.finite s.fast_db.0) && scale.finite s.target_lu
        ≡ all_finite (s.reduction_db.0 ∷ s.slow_db.0 ∷ s.mid_db.0 ∷ s.fast_db.0 ∷ s.target_lu ∷ [])
    first = unfold all_finite in five (scale.finite s.reduction_db.0) (scale.finite s.slow_db.0) (scale.finite s.mid_db.0) (scale.finite s.fast_db.0) (scale.finite s.target_lu)

-- ---- a frame

pub record Lists (on : Bool) (before : Loops) (d : Duck) (i : Inputs) (f : Framed) : Type 0 where
  pub stored : Alls (of_loops f.loops)
  pub answered : Alls ((f.reduction.0 ∷ []) ++ of_status f.status)
  pub power : Alls (cond on (steps before f.loops d (state_of d i) i) [])

module _ (l : Loops) (d : Duck) (i : Inputs) where
  abbrev f : Framed
  f = enabled_frame l d i

  abbrev state : MixState
  state = state_of d i

  abbrev powers : List Float
  powers = cond (is_ducking state) (ducking l f.loops d state i) (releasing l f.loops d state)

  -- the four parts of an enabled frame's flag
  enabled_are : f.finite ≡ ((all_finite powers && all_finite (of_loops f.loops)) && scale.finite f.reduction.0) && all_finite (of_status f.status)
  unfolding enabled_frame process_tick
  enabled_are = λ k. ((powers_are l d i state k && loops_are f.loops k) && scale.finite f.reduction.0) && status_are f.status k

  enabled-told : T f.finite → Lists true l d i f
  enabled-told t =
      let p = all_finite powers in
      let s = all_finite (of_loops f.loops) in
      let r = scale.finite f.reduction.0 in
      let a = all_finite (of_status f.status) in
      let whole = subst T enabled_are t in
      let three = and_l ((p && s) && r) a whole in
      let two = and_l (p && s) r three in
      let stored = finite-all (of_loops f.loops) (and_r p s two) in
      record {
        stored = stored;
        answered = and_r (p && s) r three more finite-all (of_status f.status) (and_r ((p && s) && r) a whole);
        power = finite-all powers (and_l p s two) and stretch_finite state f.loops.hold_remaining_seconds (hold stored);
      }
    where
      hold : {x y z h : Float} → Alls (x ∷ y ∷ z ∷ h ∷ []) → T (scale.finite h)
      hold (x more y more z more h more none) = h

  enabled-tells : Lists true l d i f → T f.finite
  enabled-tells t =
      let p = all_finite powers in
      let s = all_finite (of_loops f.loops) in
      let r = scale.finite f.reduction.0 in
      let a = all_finite (of_status f.status) in
      let shown = parts (f.reduction.0 ∷ []) t.answered in
      subst T (sym enabled_are)
      (and_i ((p && s) && r) a (and_i (p && s) r (and_i p s (all-finite (parts powers t.power).0) (all-finite t.stored)) (only shown.0)) (all-finite shown.1))

  disabled-told : T (disabled_frame d).finite → Lists false l d i (disabled_frame d)
  unfolding disabled_frame
  disabled-told t =
      let z = zero-finite in
      record { stored = z more z more z more z more none; answered = z more z more z more z more z more t more none; power = none }

  disabled-tells : Lists false l d i (disabled_frame d) → T (disabled_frame d).finite
  unfolding disabled_frame
  disabled-tells t = go t.answered
    where
      go : {a b c e g x : Float} → Alls (a ∷ b ∷ c ∷ e ∷ g ∷ x ∷ []) → T (scale.finite x)
      go (a more b more c more e more g more h more none) = h

  pub duck-told : T (frame_of l d i).finite → Lists d.enabled l d i (frame_of l d i)
  unfolding frame_of
  duck-told = go d.enabled
    where
      go : (b : Bool) → T (cond b (enabled_frame l d i) (disabled_frame d)).finite → Lists b l d i (cond b (enabled_frame l d i) (disabled_frame d))
      go true = enabled-told
      go false = disabled-told

  pub duck-tells : Lists d.enabled l d i (frame_of l d i) → T (frame_of l d i).finite
  unfolding frame_of
  duck-tells = go d.enabled
    where
      go : (b : Bool) → Lists b l d i (cond b (enabled_frame l d i) (disabled_frame d)) → T (cond b (enabled_frame l d i) (disabled_frame d)).finite
      go true = enabled-tells
      go false = disabled-tells
