-- With one channel at 0, 0 a chain does what it did before beds had layouts: from every such chain, fresh, restored or laid out so, over every list of
-- frames, settings calls and resets.
use Rattle.std.specs.Prelude.{ℕ, ◌≡◌, Bool, not, ◌||◌, List, [], ◌∷◌, eqb, length, Float}
use Rattle.refusal.specs.declared.Refusal.TheVariants.{ShortFrame, BadSample, Runaway, CounterFull}
use Rattle.refusal.specs.Table.{Row, ◌means◌, first_number}
use Rattle.demands.specs.Calls as calls
use Rattle.demands.specs.Calls.{Log, empty, ◌▹◌}
use Rattle.level.specs.Bs1770.{frame_length}
use Rattle.layout.specs.Layout.{mono_of}
use Rattle.chain.specs.declared.Chain.{Chain}
use Rattle.chain.specs.Chain.{fresh_of}
use Rattle.chain.specs.Valid.{Valid}
use Rattle.chain.specs.Base.{Base, widened, base_of, fresh_base, base_work, base_finite, base_full, base_kept, base_answer, base_set, base_reset}
use Rattle.rules.specs.Rules.{Asked, Event, Answered, shown, noted, bad_sample, settings_number, reset_number, Finite, rules}
use Rattle.rules.specs.Rules as all

-- ---- the rules of one channel

pub data BaseEvent : Type 0 where
  frame : List Float → List Float → BaseEvent  -- key, bed
  settings : Asked → BaseEvent
  reset : ℕ → BaseEvent

-- each strand has 480 samples
abbrev pub short_frame : List Float → List Float → Bool
short_frame key bed = not (eqb (length key) frame_length) || not (eqb (length bed) frame_length)

abbrev pub frame_rows : Base → List Float → List Float → List Row
frame_rows b key bed =
    short_frame key bed means ShortFrame
    ∷ bad_sample key bed means BadSample
    ∷ not (base_finite (base_work b key bed)) means Runaway
    ∷ base_full (base_work b key bed) means CounterFull
    ∷ []

abbrev pub refuses : Base → BaseEvent → ℕ
refuses b (frame key bed) = first_number (frame_rows b key bed)
refuses b (settings a) = settings_number a.values
refuses b (reset n) = reset_number n

abbrev pub next : Base → BaseEvent → Base
next b (frame key bed) = base_kept b (base_work b key bed)
next b (settings a) = base_set b a.values
next b (reset n) = base_reset b n

abbrev pub answers : Base → BaseEvent → Answered
answers b (frame key bed) = shown (base_answer (base_work b key bed))
answers b (settings a) = noted
answers b (reset n) = noted

abbrev pub base_rules : calls.Rules
base_rules = record {
  State = Base;
  Event = BaseEvent;
  Answer = Answered;
  fresh = fresh_base;
  refuses = refuses;
  next = next;
  answers = answers;
  Finite = λ b. Finite (widened b);
}

-- ---- the same call on a chain with a layout, and a list of them

abbrev pub called : BaseEvent → Event
called (frame key bed) = all.frame key bed
called (settings a) = all.settings a
called (reset n) = all.reset n

abbrev pub called_all : Log BaseEvent → Log Event
called_all empty = empty
called_all (es ▹ e) = called_all es ▹ called e

-- the state after a list of calls of which the first gets s
abbrev pub state_from : (R : calls.Rules) → R.State → Log R.Event → R.State
state_from R s empty = s
state_from R s (es ▹ e) = R.next (state_from R s es) e

-- each call of a list passes in its turn, the first on b
abbrev pub Passing : Base → Log BaseEvent → Type 0
Passing b empty = Unit {0}
Passing b (es ▹ e) = Passing b es × (refuses (state_from base_rules b es) e ≡ 0)

-- after a list of accepted calls the state is that of one channel, and the next call gets that number and that answer
pub record MonoIsBase (b : Base) (es : Log BaseEvent) (e : BaseEvent) : Type 0 where
  pub state : state_from rules (widened b) (called_all es) ≡ widened (state_from base_rules b es)
  pub number : all.refuses (state_from rules (widened b) (called_all es)) (called e) ≡ refuses (state_from base_rules b es) e
  pub answer : refuses (state_from base_rules b es) e ≡ 0
      → all.answers (state_from rules (widened b) (called_all es)) (called e) ≡ answers (state_from base_rules b es) e

-- THE PROMISE
pub record AsBase : Type 0 where
  -- from every chain of one channel, over every list
  pub lists : (b : Base) (es : Log BaseEvent) (e : BaseEvent) → Passing b es → MonoIsBase b es e
  -- such chains are a fresh one, and every chain that an image can hold whose layout is one channel at 0, 0
  pub fresh : fresh_of ≡ widened fresh_base
  pub mono : (c : Chain) → Valid c → c.surround.layout ≡ mono_of → c ≡ widened (base_of c)
