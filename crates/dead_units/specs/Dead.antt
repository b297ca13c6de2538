-- Dead units that the specification names: none of them meets the demands.
use Rattle.std.specs.Prelude.{ℕ, Bool, true, false, cond, [], Float}
use Rattle.std.specs.Float.Ieee.{lt}
use Rattle.demands.specs.Calls.{Reply, answer, done, refusal, passed, Step, gets, event_calls, Port}
use Rattle.demands.specs.Demands.{Demand1, Demand2}
use Rattle.demands.specs.Dead.{Fixed, Repeats, Invents, RefusesAll, always}
use Rattle.float.specs.Arithmetic.{zero64, one64}
use Rattle.vad.specs.Rust.{quiet}
use Rattle.comis.specs.declared.loop_bank.Loops.{Loops}
use Rattle.comis.specs.LoopBank.{db}
use Rattle.ratio.specs.Frame.{disabled_status}
use Rattle.chain.specs.declared.Chain.{Chain}
use Rattle.chain.specs.declared.Answer.{Answer}
use Rattle.rules.specs.Rules.{Event, frame, settings, reset, layout, Answered, shown, noted, rules, port}
use Rattle.rules.specs.Rust.{rust}

-- the reduction in an answer, dB
abbrev pub reduction_of : Answered → Float
reduction_of (shown a) = a.reduction.0
reduction_of noted = zero64

-- the onsets in an answer, of the key and of the bed
abbrev pub key_onsets : Answered → ℕ
key_onsets (shown a) = a.key.speech_onsets
key_onsets noted = 0

abbrev pub bed_onsets : Answered → ℕ
bed_onsets (shown a) = a.bed.speech_onsets
bed_onsets noted = 0

abbrev pub is_frame : Event → Bool
is_frame (frame key bed) = true
is_frame (settings a) = false
is_frame (reset n) = false
is_frame (layout l) = false

-- ---- no unit of these sorts meets the demands, whatever it does with other calls

pub record NoDeadUnit (unit : Port rules (event_calls rules)) : Type 0 where
  -- a ducker that always answers 0 dB, or any other fixed reduction, to a frame
  pub not_fixed : Demand2 rules (event_calls rules) unit rust → Fixed rules is_frame rust reduction_of unit → ⊥
  -- one that works on the first frame and repeats it
  pub not_repeats : Demand2 rules (event_calls rules) unit rust → Repeats rules is_frame rust reduction_of unit → ⊥
  -- one that ever answers more onsets than the Rust, of the key or of the bed
  pub not_inventing : Demand2 rules (event_calls rules) unit rust → Invents rules rust key_onsets unit → ⊥
  pub not_inventing_bed : Demand2 rules (event_calls rules) unit rust → Invents rules rust bed_onsets unit → ⊥
  -- one that refuses every frame
  pub not_refusing : Demand1 rules (event_calls rules) unit → RefusesAll rules is_frame unit → ⊥

-- ---- two such units, to show that the sorts have them

-- An answer with the reduction x, dB.
abbrev pub answering : Float → Answer
answering x = record { reduction = db x; status = disabled_status zero64; key = quiet 0 0; bed = quiet 0 0 }

-- Always x dB to a frame; other calls as the port does them.
abbrev pub stuck : Float → Port rules (event_calls rules)
stuck x = always rules is_frame (shown (answering x)) port

-- Works on the first frame that passes, and repeats its reduction; other calls as the port does them. It remembers the reduction
-- in the place of the slow loop, and that it has one in the place of the hold.
abbrev pub remembering : Float → Loops
remembering x = record { slow = db x; mid = db zero64; fast = db zero64; hold_remaining_seconds = one64 }

abbrev pub remembers : Chain → Bool
remembers c = lt zero64 c.loops.hold_remaining_seconds

abbrev pub with_loops : Chain → Loops → Chain
with_loops c l = record { settings = c.settings; key = c.key; bed = c.bed; loops = l; surround = c.surround }

-- the chain c after a first frame that got this reply
abbrev pub remembered : Chain → Reply Answered → Chain
remembered c (refusal n) = c
remembered c (passed (answer a)) = with_loops c (remembering (reduction_of a))
remembered c (passed done) = c

abbrev pub first_frame : Chain → Reply Answered → Step Chain Answered
first_frame c r = gets r [] (remembered c r)

abbrev pub repeating : Port rules (event_calls rules)
repeating c (frame key bed) =
    cond (remembers c) (gets (passed (answer (shown (answering c.loops.slow.0)))) [] c) (first_frame c (port c (frame key bed)).seen.reply)
repeating c (settings a) = port c (settings a)
repeating c (reset n) = port c (reset n)
repeating c (layout l) = port c (layout l)

pub record NoDeadUnits : Type 0 where
  -- whatever the unit is
  pub none : (unit : Port rules (event_calls rules)) → NoDeadUnit unit
  -- a unit that answers 3 dB to every frame, or any other reduction, is fixed, and passes settings calls
  pub stuck_fixed : (x : Float) → Fixed rules is_frame rust reduction_of (stuck x)
  -- one that works on the first frame and repeats it does so also where other calls come before it
  pub repeating_repeats : Repeats rules is_frame rust reduction_of repeating
