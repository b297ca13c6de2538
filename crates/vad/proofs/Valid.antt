-- A fresh strand is valid; a reset keeps that, and so does a frame whose numbers are all finite and which doesn't fill the onsets.
use Rattle.std.proofs.Common.{◌≡◌, ℕ, ◌+◌, ◌%◌, ◌^◌, ◌<◌, ◌≤◌, Bool, true, false, cond, ◌&&◌, T, eqb, List, get_or, sym, refl, ◌∙◌, mod-eq_of_lt, arith, leb-false, Option, Some, None, IfSome, unwrap_or}
use lib.Ieee.{Float, nan, binary64, fits, lt, le, neg, mul, is_nan, of_bits}
use lib.Ieee.Fits.{add-fits, cond-fits, nan-fits, round-fits, and_l, and_r}
use lib.Ieee.Scale.{finite}
use Rattle.float.specs.Valid.{Num}
use Rattle.float.specs.Choice.{min_of}
use Rattle.power.specs.Power.{above, floor_of, pow_at, thousand, log2_ten, exp2_of, exp10_of}
use Rattle.float.specs.Arithmetic.{zero64}
use Rattle.float.specs.AllFinite.{all_finite}
use Rattle.level.specs.Level as level-spec
use Rattle.level.specs.Valid as level
use Rattle.level.specs.declared.Framed as metered
use Rattle.level.proofs.Finite.{all-at}
use Rattle.level.proofs.Valid as levels
use Rattle.detector.specs.Detector as detector-spec
use Rattle.detector.specs.Valid as detector
use Rattle.detector.specs.declared.Heard.{Heard}
use Rattle.detector.proofs.Valid as detectors
use Rattle.vad.specs.declared.VadSettings.{VadSettings}
use Rattle.vad.specs.declared.Decision.{Decision}
use Rattle.vad.specs.declared.Strand.{Strand}
use Rattle.vad.specs.Hold.{hold_frames}
use Rattle.vad.specs.Decision.{flag_of, more, heard_of, smoothed_of, off_of, onset_of, held_of, offset_of, switch_of, mean_of, with_power, with_probability, exponent, voiced_of, decide_of, full_of}
use Rattle.vad.specs.State.{state_of, numbers_of}
use Rattle.vad.specs.Strand.{gated_of, next_of, fresh_of, finish_of, frame_of, stopped_of, reset_of}
use Rattle.vad.specs.Valid.{DecisionValid, Valid, HoldWithin}
use Rattle.vad.proofs.Hold.{hold-few}
use Rattle.vad.proofs.Rust.{decide-probability}

more-is : (n : ℕ) → n ≤ 4294967295 → more n ≡ n + 1
more-is n h = let l : n + 1 < 2 ^ 64 = omega arith in mod-eq_of_lt l

-- ---- counts and hold, whatever the numbers

-- what stays of the counts: onsets minus offsets equals active
pub record Even (d : Decision) : Type 0 where
  pub counts : d.onsets ≡ d.offsets + flag_of d.active
  pub hold : d.hold ≤ 6000

module _ (d : Decision) (v : Even d) (room : d.onsets ≤ 4294967295) where
  onset-even : (n : ℕ) → n ≤ 6000 → Even (onset_of d n)
  unfolding onset_of
  onset-even n h = record { counts = go d.active v.counts; hold = h }
    where
      go : (b : Bool) → d.onsets ≡ d.offsets + flag_of b → cond b d.onsets (more d.onsets) ≡ d.offsets + 1
      go true e = e
      go false e = more-is d.onsets room ∙ omega arith

  -- only speech that is active ends
  offset-even : d.active ≡ true → Even (offset_of d)
  unfolding offset_of
  offset-even a = go (eqb d.hold 0)
    where
      one : d.onsets ≡ d.offsets + 1
      one = rw a at v.counts

      go : (b : Bool) → Even (held_of d b)
      go true = record { counts = omega (arith, one, more-is d.offsets (omega (arith, one))); hold = v.hold }
      go false = record { counts = v.counts; hold = omega (arith, v.hold) }

  switch-even : (on off : Float) (n : ℕ) → n ≤ 6000 → Even (switch_of d on off n)
  unfolding switch_of
  switch-even on off n h = go (le on d.probability) (lt d.probability off) d.active refl
    where
      go : (x y z : Bool) → d.active ≡ z → Even (cond x (onset_of d n) (cond z (cond y (offset_of d) d) d))
      go true y z e = onset-even n h
      go false true true e = offset-even e
      go false false true e = v
      go false y false e = v

  -- a frame adds at most one onset, and that where speech turns on
  switch-onsets : (on off : Float) (n : ℕ) → (d.active ≡ false → (switch_of d on off n).active ≡ true → d.onsets < 4294967295)
      → (switch_of d on off n).onsets ≤ 4294967295
  unfolding switch_of onset_of offset_of
  switch-onsets on off n few = go (le on d.probability) (lt d.probability off) d.active d.active (eqb d.hold 0) refl few
    where
      after : Bool → Bool → Bool → Bool → Bool → Decision
      after x y z w b = cond x (record { active = true; probability = d.probability; onsets = cond w d.onsets (more d.onsets); offsets = d.offsets; hold = n; power = d.power }) (cond z (cond y (held_of d b) d) d)

      go : (x y z w b : Bool) → d.active ≡ w → (d.active ≡ false → (after x y z w b).active ≡ true → d.onsets < 4294967295) → (after x y z w b).onsets ≤ 4294967295
      go true y z true b e f = room
      go true y z false b e f = let l = f e refl in omega (arith, l, more-is d.onsets room)
      go false true true w true e f = room
      go false true true w false e f = room
      go false false true w b e f = room
      go false y false w b e f = room

-- the speech power leaves them alone
module _ (d : Decision) (dbfs : Float) where
  abbrev voiced : Bool → Decision
  voiced b = cond b (with_power d (Some (mean_of d.power (exp10_of (exponent dbfs))))) d

  voiced-even : Even d → Even (voiced_of d dbfs)
  unfolding voiced_of
  voiced-even v = go d.active
    where
      go : (b : Bool) → Even (voiced b)
      go true = record { counts = v.counts; hold = v.hold }
      go false = v

  voiced-onsets : (voiced_of d dbfs).onsets ≡ d.onsets
  unfolding voiced_of
  voiced-onsets = go d.active
    where
      go : (b : Bool) → (voiced b).onsets ≡ d.onsets
      go true = refl
      go false = refl

  voiced-active : (voiced_of d dbfs).active ≡ d.active
  unfolding voiced_of
  voiced-active = go d.active
    where
      go : (b : Bool) → (voiced b).active ≡ d.active
      go true = refl
      go false = refl

-- ---- the decision

limit : (before after : Decision) → full_of before after ≡ false → before.active ≡ false → after.active ≡ true → before.onsets < 4294967295
unfolding full_of
limit before after h b a = leb-false 4294967295 before.onsets (rw (b, a) at h)

-- each number fits, whatever it is
mean-fits : (o : Option Float) (x : Float) → T (fits binary64 x) → T (fits binary64 (mean_of o x))
unfolding mean_of
mean-fits None x h = h
mean-fits (Some m) x h = add-fits binary64 _ _

power-fits : (u : Float) → T (fits binary64 (exp10_of u))
unfolding exp10_of exp2_of pow_at
power-fits u =
    let y = mul binary64 u log2_ten in
    let x = pow_at (above (floor_of (min_of y thousand))) in
    cond-fits binary64 (is_nan y) nan (cond (lt y (neg thousand)) zero64 x) (nan-fits binary64)
    (cond-fits binary64 (lt y (neg thousand)) zero64 x zero-fits (round-fits binary64 false _ _))
  where
    zero-fits : T (fits binary64 zero64)
    zero-fits = unfold of_bits fits in tt

voiced-power : (d : Decision) (dbfs : Float) → IfSome d.power (Num binary64) → T (finite (unwrap_or (voiced_of d dbfs).power zero64)) → IfSome (voiced_of d dbfs).power (Num binary64)
unfolding voiced_of
voiced-power d dbfs v = go d.active
  where
    go : (b : Bool) → T (finite (unwrap_or (voiced d dbfs b).power zero64)) → IfSome (voiced d dbfs b).power (Num binary64)
    go true h = (h, mean-fits d.power (exp10_of (exponent dbfs)) (power-fits (exponent dbfs)))
    go false h = v

switch-power : (d : Decision) (on off : Float) (n : ℕ) → (switch_of d on off n).power ≡ d.power
unfolding switch_of onset_of offset_of
switch-power d on off n = go (le on d.probability) (lt d.probability off) d.active (eqb d.hold 0)
  where
    go : (x y z b : Bool) → (cond x (onset_of d n) (cond z (cond y (held_of d b) d) d)).power ≡ d.power
    go true y z b = refl
    go false true true true = refl
    go false true true false = refl
    go false false true b = refl
    go false y false b = refl

probability-fits : (d : Decision) (p dbfs : Float) (s : VadSettings) → T (fits binary64 (decide_of d p dbfs s).probability)
probability-fits d p dbfs s = rw (decide-probability d p dbfs s) (unfold smoothed_of in add-fits binary64 _ _)

module _ (d : Decision) (v : DecisionValid d) (p dbfs : Float) (s : VadSettings) (within : HoldWithin s)
    (sound : T (finite (decide_of d p dbfs s).probability)) (stored : T (finite (unwrap_or (decide_of d p dbfs s).power zero64)))
    (room : full_of d (decide_of d p dbfs s) ≡ false) where
  abbrev begun : Decision
  begun = with_probability d (smoothed_of d.probability p)

  abbrev half : Decision
  half = switch_of begun s.threshold (off_of s.threshold) (hold_frames s.hold_ms)

  half-even : Even half
  half-even = switch-even begun (record { counts = v.counts; hold = v.hold }) v.onsets s.threshold (off_of s.threshold) (hold_frames s.hold_ms) (hold-few s.hold_ms within)

  few : d.active ≡ false → half.active ≡ true → d.onsets < 4294967295
  few a b = limit d (decide_of d p dbfs s) room a (unfold decide_of in voiced-active half dbfs ∙ b)

  pub decide-valid : DecisionValid (decide_of d p dbfs s)
  unfolding decide_of
  decide-valid =
      let e = voiced-even half dbfs half-even in
      record {
        probability = (sound, probability-fits d p dbfs s);
        counts = e.counts;
        onsets = rw (voiced-onsets half dbfs) (switch-onsets begun (record { counts = v.counts; hold = v.hold }) v.onsets s.threshold (off_of s.threshold) (hold_frames s.hold_ms) few);
        hold = e.hold;
        power = voiced-power half dbfs (rw (switch-power begun s.threshold (off_of s.threshold) (hold_frames s.hold_ms)) v.power) stored;
      }

-- ---- the strand

zero-num : Num binary64 zero64
unfolding of_bits fits
zero-num = (tt, tt)

pub fresh_valid : Valid fresh_of
fresh_valid = record {
  level = levels.fresh_valid;
  detector = detectors.fresh_valid;
  decision = record { probability = zero-num; counts = refl; onsets = omega arith; hold = omega arith; power = tt };
}

pub reset-valid : (t : Strand) → Valid t → Valid (reset_of t)
unfolding reset_of stopped_of
reset-valid t v =
    let d = t.decision in
    let e : (d.offsets + flag_of d.active) % 2 ^ 64 ≡ d.offsets + flag_of d.active = same (d.offsets + flag_of d.active) (omega (arith, v.decision.counts, v.decision.onsets)) in
    record {
      level = levels.fresh_valid;
      detector = detectors.fresh_valid;
      decision = record { probability = zero-num; counts = v.decision.counts ∙ sym e ∙ sym (plain _); onsets = v.decision.onsets; hold = omega arith; power = tt };
    }
  where
    same : (n : ℕ) → n ≤ 4294967295 → n % 2 ^ 64 ≡ n
    same n h = let l : n < 2 ^ 64 = omega arith in mod-eq_of_lt l

    plain : (n : ℕ) → n + 0 ≡ n
    plain n = omega arith

-- what follows level and detector, whatever they are
module _ (d : Decision) (v : DecisionValid d) (l : metered.Framed) (h : Heard) (s : VadSettings) (within : HoldWithin s)
    (ok : T (finish_of d l h s).finite) (room : (finish_of d l h s).full ≡ false) where
  abbrev after : Decision
  after = next_of d l h s

  abbrev numbers : List Float
  numbers = numbers_of after (state_of after (gated_of l s) h.frame l.reading)

  all : T ((l.finite && h.finite) && all_finite numbers)
  unfolding finish_of
  all = ok

  number : (k : ℕ) → k < 11 → T (finite (get_or numbers k nan))
  number k b = all-at numbers k (and_r (l.finite && h.finite) (all_finite numbers) all) b

  front : T (l.finite && h.finite)
  front = and_l (l.finite && h.finite) (all_finite numbers) all

  pub level-finite : T l.finite
  level-finite = and_l l.finite h.finite front

  pub finish-valid : level.Valid l.level → (T h.finite → detector.Valid h.detector) → Valid (finish_of d l h s).strand
  unfolding finish_of
  finish-valid level-valid detector-valid = record {
    level = level-valid;
    detector = detector-valid (and_r l.finite h.finite front);
    decision = decide-valid d v (heard_of (gated_of l s) h.frame.probability) h.frame.level_dbfs s within (number 0 (omega arith)) (number 1 (omega arith)) room;
  }

pub frame-valid : (t : Strand) → Valid t → (xs : List Float) (s : VadSettings) → HoldWithin s → T (frame_of t xs s).finite → (frame_of t xs s).full ≡ false
    → Valid (frame_of t xs s).strand
unfolding frame_of
frame-valid t v xs s within ok room =
    let l = level-spec.frame_of t.level xs in
    let h = detector-spec.frame_of t.detector xs in
    finish-valid t.decision v.decision l h s within ok room
    (levels.frame-valid t.level xs v.level (level-finite t.decision v.decision l h s within ok room))
    (detectors.frame-valid t.detector xs v.detector)
