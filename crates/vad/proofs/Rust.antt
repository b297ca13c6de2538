-- A strand agrees with the Rust's `Vad`: fresh, after a reset, and after each frame whose numbers are finite; so after any list of these.
use Rattle.std.proofs.Common.{◌≡◌, ℕ, ◌+◌, ◌-◌, ◌%◌, ◌^◌, Bool, true, false, cond, ◌&&◌, T, eqb, List, [], ◌∷◌, length, sym, refl, ap, ◌∙◌, ap₂, Option, Some}
use mathlib.Core.List.{foldl}
use lib.ListN.{length-replicate}
use lib.Ieee.{Float, lt, le}
use lib.Ieee.Fits.{and_l, and_r}
use Rattle.power.specs.Power.{exp10_of}
use Rattle.sequence.specs.Latest.{blanks}
use Rattle.level.specs.Level as level
use Rattle.float.specs.Arithmetic.{zero64}
use Rattle.float.specs.AllFinite.{all_finite}
use Rattle.level.specs.declared.Level.{Level}
use Rattle.level.specs.declared.Reading.{Reading}
use Rattle.level.specs.Deque.{Meter, new_meter, meter_next, meter_reading}
use Rattle.level.proofs.Deque.{level-deque, level-deque-reading, level-places}
use Rattle.detector.specs.Detector as detector
use Rattle.detector.specs.Rust.{rust_frame}
use Rattle.detector.proofs.Rust as detected
use Rattle.vad.specs.declared.VadSettings.{VadSettings}
use Rattle.vad.specs.declared.Decision.{Decision}
use Rattle.vad.specs.declared.Strand.{Strand}
use Rattle.vad.specs.Hold.{hold_frames}
use Rattle.level.specs.declared.Framed as metered
use Rattle.detector.specs.declared.Heard.{Heard}
use Rattle.vad.specs.Decision.{flag_of, more, heard_of, smoothed_of, off_of, onset_of, held_of, offset_of, switch_of, mean_of, with_power, with_probability, exponent, voiced_of, decide_of}
use Rattle.vad.specs.State.{speech_level_of, state_of, numbers_of}
use Rattle.vad.specs.Strand.{gated_of, next_of, fresh_of, finish_of, frame_of, stopped_of, reset_of}
use Rattle.vad.specs.Rust.{RustVad, new_with, reset_with, new_vad, rust_reset, Switch, switch, rust_switch, Speech, speech, rust_speech, rust_decide, rust_push}
use Rattle.vad.specs.Agrees.{AgreesBy, Metered, Agrees, Call, frame, reset, called, rust_called, Accepted, StrandAgrees, StrandAnswers}

-- ---- the decision

abbrev switch_at : Decision → Switch
switch_at d = switch d.active d.onsets d.offsets d.hold

abbrev speech_at : Decision → Speech
speech_at d = record { power = d.power; level = speech_level_of d.power }

module _ (d : Decision) (on : Float) (n : ℕ) where
  pub record Switched : Type 0 where
    pub switched : switch_at (switch_of d on (off_of on) n) ≡ rust_switch (switch_at d) d.probability on n
    pub probability : (switch_of d on (off_of on) n).probability ≡ d.probability
    pub power : (switch_of d on (off_of on) n).power ≡ d.power

  abbrev port : Bool → Bool → Bool → Bool → Decision
  port x y z w = cond x (onset_of d n) (cond z (cond y (held_of d w) d) d)

  abbrev rust : Bool → Bool → Bool → Bool → Switch
  rust x y z w =
      cond x
      (switch true (cond d.active d.onsets (more d.onsets)) d.offsets n)
      (cond z
      (cond y (cond w (switch false d.onsets (more d.offsets) d.hold) (switch d.active d.onsets d.offsets (d.hold - 1))) (switch_at d))
      (switch_at d))

  by_cases : (x y z w : Bool) → (switch_at (port x y z w) ≡ rust x y z w) × (((port x y z w).probability ≡ d.probability) × ((port x y z w).power ≡ d.power))
  unfolding onset_of
  by_cases true y z w = (refl, (refl, refl))
  by_cases false true true true = (refl, (refl, refl))
  by_cases false true true false = (refl, (refl, refl))
  by_cases false false true w = (refl, (refl, refl))
  by_cases false y false w = (refl, (refl, refl))

  switches : Switched
  unfolding switch_of rust_switch offset_of
  switches =
      let h = by_cases (le on d.probability) (lt d.probability (off_of on)) d.active (eqb d.hold 0) in
      record { switched = h.0; probability = h.1.0; power = h.1.1 }

-- the speech power with a frame
voices : (d : Decision) (dbfs : Float) → speech_at (voiced_of d dbfs) ≡ rust_speech d.active (speech_at d) dbfs
unfolding voiced_of rust_speech
voices d dbfs = go d.active
  where
    go : (b : Bool) → speech_at (cond b (with_power d (Some (mean_of d.power (exp10_of (exponent dbfs))))) d)
        ≡ cond b (speech (mean_of d.power (exp10_of (exponent dbfs)))) (speech_at d)
    go true = unfold speech_level_of in refl
    go false = refl

voices_else : (d : Decision) (dbfs : Float) → (switch_at (voiced_of d dbfs) ≡ switch_at d) × ((voiced_of d dbfs).probability ≡ d.probability)
unfolding voiced_of
voices_else d dbfs = go d.active
  where
    go : (b : Bool) → (switch_at (cond b (with_power d (Some (mean_of d.power (exp10_of (exponent dbfs))))) d) ≡ switch_at d)
        × ((cond b (with_power d (Some (mean_of d.power (exp10_of (exponent dbfs))))) d).probability ≡ d.probability)
    go true = (refl, refl)
    go false = (refl, refl)

module _ (d : Decision) (probability dbfs : Float) (s : VadSettings) where
  abbrev p : Float
  p = smoothed_of d.probability probability

  abbrev next : Switch
  next = rust_switch (switch_at d) p s.threshold (hold_frames s.hold_ms)

  abbrev half : Decision
  half = switch_of (with_probability d p) s.threshold (off_of s.threshold) (hold_frames s.hold_ms)

  half_is : Switched (with_probability d p) s.threshold (hold_frames s.hold_ms)
  half_is = switches (with_probability d p) s.threshold (hold_frames s.hold_ms)

  decide-switch : switch_at (decide_of d probability dbfs s) ≡ next
  unfolding decide_of
  decide-switch = (voices_else half dbfs).0 ∙ half_is.switched

  pub decide-probability : (decide_of d probability dbfs s).probability ≡ p
  unfolding decide_of
  decide-probability = (voices_else half dbfs).1 ∙ half_is.probability

  decide-speech : speech_at (decide_of d probability dbfs s) ≡ rust_speech next.active (speech_at d) dbfs
  unfolding decide_of
  decide-speech =
      voices half dbfs
      ∙ ap₂ (λ (t : Switch) (o : Option Float). rust_speech t.active (record { power = o; level = speech_level_of o }) dbfs) half_is.switched half_is.power

-- ---- a frame, whose level is read as l and as the Rust's r and m

module _ {L : Type 0} {Before : Level → L → Type 0} (t : Strand) (v : RustVad L) (a : AgreesBy Before t v) (xs : List Float) (n : length xs ≡ 480) (s : VadSettings)
    (l : metered.Framed) (r : Reading) (m : L) (same-reading : r ≡ l.reading)
    (ok : T (finish_of t.decision l (detector.frame_of t.detector xs) s).finite) where
  abbrev h : Heard
  h = detector.frame_of t.detector xs

  abbrev d : Decision
  d = next_of t.decision l h s

  heard-finite : T h.finite
  unfolding finish_of
  heard-finite =
      and_r l.finite h.finite (and_l (l.finite && h.finite) (all_finite (numbers_of d (state_of d (gated_of l s) h.frame l.reading))) ok)

  frame_same : (rust_frame v.detector xs).frame ≡ h.frame
  frame_same = detected.frame-shown t.detector v.detector a.detector xs n heard-finite

  abbrev q : Float
  q = heard_of (gated_of l s) h.frame.probability

  abbrev dbfs : Float
  dbfs = h.frame.level_dbfs

  abbrev rust_after : RustVad L
  rust_after = rust_decide v (rust_frame v.detector xs) r s m

  -- the Rust's state after the frame
  abbrev after : RustVad L
  after = record {
    detector = (rust_frame v.detector xs).state;
    state = state_of d (gated_of l s) h.frame l.reading;
    hold = d.hold;
    speech_power = d.power;
    level = m;
  }

  decided : rust_after ≡ after
  unfolding rust_decide state_of heard_of
  decided =
      rw (frame_same, same-reading, a.probability, a.active, a.onsets, a.offsets, a.hold, a.power, a.speech_level)
      (rw (← decide-speech t.decision q dbfs s, ← decide-switch t.decision q dbfs s, ← decide-probability t.decision q dbfs s))

  pub decide-state : rust_after.state ≡ (finish_of t.decision l h s).state
  unfolding finish_of
  decide-state = ap (λ (r : RustVad L). r.state) decided

  pub decide-agrees : (After : Level → L → Type 0) → After l.level m → AgreesBy After (finish_of t.decision l h s).strand rust_after
  unfolding finish_of state_of
  decide-agrees After next_level = rw decided
      (record {
        level = next_level;
        detector = detected.frame-agrees t.detector v.detector a.detector xs n heard-finite;
        active = refl;
        probability = refl;
        onsets = refl;
        offsets = refl;
        hold = refl;
        power = refl;
        speech_level = refl;
      })

-- of one channel
module _ (t : Strand) (v : RustVad Meter) (a : Agrees t v) (xs : List Float) (n : length xs ≡ 480) (s : VadSettings) (ok : T (frame_of t xs s).finite) where
  abbrev own : metered.Framed
  own = level.frame_of t.level xs

  pub reading-same : meter_reading v.level xs ≡ own.reading
  reading-same = ap (λ (m : Meter). meter_reading m xs) a.level.meter ∙ sym (level-deque-reading t.level xs a.level.places)

  metered_next : Metered own.level (meter_next v.level xs)
  metered_next = record {
    meter = ap (λ (m : Meter). meter_next m xs) a.level.meter ∙ sym (level-deque t.level xs a.level.places);
    places = level-places t.level xs a.level.places;
  }

  fine : T (finish_of t.decision own (detector.frame_of t.detector xs) s).finite
  unfolding frame_of
  fine = ok

  pub push-state : (rust_push v xs s).state ≡ (frame_of t xs s).state
  unfolding frame_of rust_push
  push-state = decide-state t v a xs n s own (meter_reading v.level xs) (meter_next v.level xs) reading-same fine

  pub push-agrees : Agrees (frame_of t xs s).strand (rust_push v xs s)
  unfolding frame_of rust_push
  push-agrees = decide-agrees t v a xs n s own (meter_reading v.level xs) (meter_next v.level xs) reading-same fine Metered metered_next

-- ---- fresh, and a reset

fresh-places : length (blanks 300 zero64) ≡ 300
unfolding blanks
fresh-places = length-replicate 300 zero64

-- a level's new form is the Rust's
pub new-agrees : {L : Type 0} {After : Level → L → Type 0} (l : L) → After level.fresh_of l → AgreesBy After fresh_of (new_with l)
new-agrees l new = record {
  level = new;
  detector = detected.fresh-agrees;
  active = refl;
  probability = refl;
  onsets = refl;
  offsets = refl;
  hold = refl;
  power = refl;
  speech_level = unfold speech_level_of in refl;
}

pub anew-agrees : {L : Type 0} {Before After : Level → L → Type 0} (t : Strand) (v : RustVad L) (l : L) → AgreesBy Before t v → After level.fresh_of l
    → AgreesBy After (reset_of t) (reset_with l v)
unfolding reset_of stopped_of reset_with
anew-agrees t v l a new = record {
  level = new;
  detector = detected.fresh-agrees;
  active = refl;
  probability = refl;
  onsets = a.onsets;
  offsets = ap₂ (λ (m : ℕ) (b : Bool). (m + flag_of b) % 2 ^ 64) a.offsets a.active;
  hold = refl;
  power = refl;
  speech_level = unfold speech_level_of in refl;
}

fresh_metered : Metered level.fresh_of new_meter
fresh_metered = record { meter = refl; places = fresh-places }

pub fresh-agrees : Agrees fresh_of new_vad
fresh-agrees = new-agrees new_meter fresh_metered

pub reset-agrees : (t : Strand) (v : RustVad Meter) → Agrees t v → Agrees (reset_of t) (rust_reset v)
reset-agrees t v a = anew-agrees t v new_meter a fresh_metered

-- ---- any list of these

agrees_after : (cs : List Call) (t : Strand) (v : RustVad Meter) → Agrees t v → Accepted t cs → Agrees (foldl called t cs) (foldl rust_called v cs)
agrees_after [] t v a ok = a
agrees_after (frame xs s ∷ cs) t v a ok =
    agrees_after cs (frame_of t xs s).strand (rust_push v xs s) (push-agrees t v a xs ok.0 s ok.1.0) ok.1.1
agrees_after (reset ∷ cs) t v a ok = agrees_after cs (reset_of t) (rust_reset v) (reset-agrees t v a) ok

pub strand-agrees : StrandAgrees
strand-agrees cs ok = agrees_after cs fresh_of new_vad fresh-agrees ok

pub strand-answers : StrandAnswers
strand-answers cs xs s ok n fine = push-state (foldl called fresh_of cs) (foldl rust_called new_vad cs) (strand-agrees cs ok) xs n s fine
