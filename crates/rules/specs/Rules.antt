-- The specification's rules for frames, settings calls, resets and layout calls, and the port: what the four functions do, as their contracts say it.
use Rattle.refusal.specs.declared.Refusal.{Refusal}
use Rattle.std.specs.Prelude.{ℕ, Bool, cond, not, ◌||◌, List, [], ◌∷◌, T, eqb, length, Float, Result, Ok, Err}
use Rattle.std.specs.Float.{binary64}
use Rattle.std.specs.Float.Ieee.{fits}
use Rattle.refusal.specs.declared.Refusal.TheVariants.{ShortFrame, BadSample, BadSetting, Runaway, CounterFull, NoStrand, BadLayout}
use Rattle.refusal.specs.Table.{number_of, Row, ◌means◌, first_number}
use Rattle.demands.specs.Calls as calls
use Rattle.level.specs.Bs1770.{frame_length}
use Rattle.float.specs.AllFinite.{all_finite}
use Rattle.layout.specs.declared.Layout.{Layout}
use Rattle.layout.specs.Layout.{layout_within}
use Rattle.vad.specs.declared.VadSettings.{VadSettings}
use Rattle.ratio.specs.declared.Duck.{Duck}
use Rattle.settings.specs.declared.Settings.{Settings}
use Rattle.chain.specs.declared.Chain.{Chain}
use Rattle.chain.specs.declared.Answer.{Answer}
use Rattle.settings.specs.Settings.{call_ranges, outside_settings, stored_of}
use Rattle.chain.specs.Numbers.{numbers_of}
use Rattle.chain.specs.Chain.{Framed, Changed, fresh_of, work_of, kept_of, answer_of, finite_in, full_in, bed_length, with_settings, key_anew, bed_anew, laid_out, frame_of, set_of, reset_of, layout_of}

-- ---- what may be sent

-- what a record of settings can hold: any f64, infinite or not a number too
abbrev pub HeldStrand : VadSettings → Type 0
HeldStrand s = T (fits binary64 s.threshold) × T (fits binary64 s.hold_ms) × T (fits binary64 s.gate_lufs.0)

abbrev pub HeldDuck : Duck → Type 0
HeldDuck d =
    T (fits binary64 d.target_lu) × T (fits binary64 d.overvoice_lu) × T (fits binary64 d.max_reduction_db.0) × T (fits binary64 d.speed)

pub record Asked : Type 0 where
  pub values : Settings
  pub key : HeldStrand values.key
  pub bed : HeldStrand values.bed
  pub duck : HeldDuck values.duck

-- a frame's samples are any floats in any number, a reset's strand is any number, and a layout's words are any numbers
pub data Event : Type 0 where
  frame : List Float → List Float → Event  -- key, bed
  settings : Asked → Event
  reset : ℕ → Event
  layout : Layout → Event

-- a frame is answered; of any other call it is known that it passed
pub data Answered : Type 0 where
  shown : Answer → Answered
  noted : Answered

-- ---- the table, over both strands together

-- the key isn't 480 samples, or the bed isn't 480 samples a channel
abbrev pub short_frame : Chain → List Float → List Float → Bool
short_frame c key bed = not (eqb (length key) frame_length) || not (eqb (length bed) (bed_length c))

-- a sample is infinite or not a number
abbrev pub bad_sample : List Float → List Float → Bool
bad_sample key bed = not (all_finite key) || not (all_finite bed)

-- a frame is tested in the order 1, 2, 4, 5
abbrev pub frame_rows : Chain → List Float → List Float → List Row
frame_rows c key bed =
    short_frame c key bed means ShortFrame
    ∷ bad_sample key bed means BadSample
    ∷ not (finite_in (work_of c key bed)) means Runaway
    ∷ full_in (work_of c key bed) means CounterFull
    ∷ []

abbrev pub settings_rows : Settings → List Row
settings_rows s = outside_settings call_ranges s means BadSetting ∷ []

-- reset of a strand other than 0 or 1
abbrev pub reset_rows : ℕ → List Row
reset_rows n = not (eqb n 0 || eqb n 1) means NoStrand ∷ []

-- a layout outside the ranges
abbrev pub layout_rows : Layout → List Row
layout_rows l = not (layout_within l) means BadLayout ∷ []

unfoldable pub frame_number : Chain → List Float → List Float → ℕ
frame_number c key bed = first_number (frame_rows c key bed)

unfoldable pub settings_number : Settings → ℕ
settings_number s = first_number (settings_rows s)

unfoldable pub reset_number : ℕ → ℕ
reset_number n = first_number (reset_rows n)

unfoldable pub layout_number : Layout → ℕ
layout_number l = first_number (layout_rows l)

abbrev pub refuses : Chain → Event → ℕ
refuses c (frame key bed) = frame_number c key bed
refuses c (settings a) = settings_number a.values
refuses c (reset n) = reset_number n
refuses c (layout l) = layout_number l

-- ---- what a call that passes makes and answers

abbrev pub next : Chain → Event → Chain
next c (frame key bed) = kept_of c (work_of c key bed)
next c (settings a) = with_settings c (stored_of a.values)
next c (reset n) = cond (eqb n 0) (key_anew c) (bed_anew c)
next c (layout l) = laid_out c l

abbrev pub answers : Chain → Event → Answered
answers c (frame key bed) = shown (answer_of (work_of c key bed))
answers c (settings a) = noted
answers c (reset n) = noted
answers c (layout l) = noted

-- every number that the chain stores
abbrev pub Finite : Chain → Type 0
Finite c = T (all_finite (numbers_of c))

abbrev pub rules : calls.Rules
rules = record {
  State = Chain;
  Event = Event;
  Answer = Answered;
  fresh = fresh_of;
  refuses = refuses;
  next = next;
  answers = answers;
  Finite = Finite;
}

-- ---- the port

abbrev pub reply_of : Result Answer Refusal → calls.Reply Answered
reply_of (Ok a) = calls.passed (calls.answer (shown a))
reply_of (Err r) = calls.refusal (number_of r)

abbrev pub noted_of : Result Unit Refusal → calls.Reply Answered
noted_of (Ok _) = calls.passed (calls.answer noted)
noted_of (Err r) = calls.refusal (number_of r)

abbrev pub after_frame : Framed → calls.Step Chain Answered
after_frame f = calls.gets (reply_of f.outcome) [] f.chain

abbrev pub after_change : Changed → calls.Step Chain Answered
after_change f = calls.gets (noted_of f.outcome) [] f.chain

abbrev pub port : calls.Port rules (calls.event_calls rules)
port c (frame key bed) = after_frame (frame_of c key bed)
port c (settings a) = after_change (set_of c a.values)
port c (reset n) = after_change (reset_of c n)
port c (layout l) = after_change (layout_of c l)
