-- What the demands speak of: lists, calls and what is seen of them, the specification's rules, the port, a reference.
use Rattle.std.specs.Prelude.{cond, List, [], ◌∷◌, ℕ, zero, suc, length, eqb}
use Rattle.refusal.specs.declared.Refusal.TheVariants.{WrongLength}
use Rattle.refusal.specs.Table.{number_of}

-- ---- LISTS

infixl 60 ◌▹◌
-- a list in the order of time: `cs ▹ c` is the list cs and then c
pub data Log (A : Type 0) : Type 0 where
  empty : Log A
  ◌▹◌ : Log A → A → Log A

-- x stands in a list; a proof of it is a place in the list
pub data Among {A : Type 0} : A → List A → Type 0 where
  here : {x : A} {xs : List A} → Among x (x ∷ xs)
  there : {x y : A} {xs : List A} → Among x xs → Among x (y ∷ xs)

-- ---- CALLS, AND WHAT IS SEEN OF THEM

abbrev pub Bytes : Type 0
Bytes = List ℕ

-- a frame, a settings call or a reset is an event; a save lends a buffer; a restore brings bytes
pub data Call (Event : Type 0) : Type 0 where
  event : Event → Call Event
  save : Bytes → Call Event
  restore : Bytes → Call Event

-- the bytes that a call lends, as they are before it
abbrev pub lent_by : {Event : Type 0} → Call Event → Bytes
lent_by (event e) = []
lent_by (save b) = b
lent_by (restore b) = b

-- what a call that passes gets: an event its answer; a save or a restore is done
pub data Got (Answer : Type 0) : Type 0 where
  answer : Answer → Got Answer
  done : Got Answer

-- what any call gets: a refusal's number and nothing else, or what a call that passes gets
pub data Reply (Answer : Type 0) : Type 0 where
  refusal : ℕ → Reply Answer
  passed : Got Answer → Reply Answer

-- what the caller sees of a call: the reply, and the lent bytes after the call
pub record Seen (Answer : Type 0) : Type 0 where
  pub reply : Reply Answer
  pub lent : Bytes

-- what a call does: what is seen of it, and the chain after it
pub record Step (State Answer : Type 0) : Type 0 where
  pub seen : Seen Answer
  pub state : State

abbrev pub gets : {State Answer : Type 0} → Reply Answer → Bytes → State → Step State Answer
gets r b s = record { seen = record { reply = r; lent = b }; state = s }

-- a reply by its number: 0 passed, any other is a refusal
abbrev pub coded : {Answer : Type 0} → ℕ → Got Answer → Reply Answer
coded zero g = passed g
coded (suc n) g = refusal (suc n)

-- ---- THE SPECIFICATION

-- the rules of the events: frames, settings calls, resets
pub record Rules : Type 1 where
  pub State : Type 0  -- the payload's numbers
  pub Event : Type 0
  pub Answer : Type 0
  pub fresh : State
  pub refuses : State → Event → ℕ  -- an event's number in the refusal table; 0: it passes
  pub next : State → Event → State  -- what an event that passes makes of the state
  pub answers : State → Event → Answer  -- and its answer
  pub Finite : State → Type 0  -- no number of the state is infinite or not a number

-- the rules of the images
pub record Images (R : Rules) : Type 0 where
  pub size : ℕ  -- of an image that is saved, in bytes
  pub image : R.State → Bytes  -- what a save writes
  pub refuses_image : Bytes → ℕ  -- an image's number in the refusal table; 0: it passes
  pub meaning : Bytes → R.State  -- the state that accepted bytes stand for, whether or not they are its image
  pub bits : R.State → List ℕ  -- every number of the state, by its bits

-- what a call gets where it passes
abbrev pub owed : (R : Rules) → R.State → Call R.Event → Got R.Answer
owed R s (event e) = answer (R.answers s e)
owed R s (save b) = done
owed R s (restore b) = done

-- A SET OF CALLS that a chain takes
pub record Calls (R : Rules) : Type 1 where
  pub Sent : Type 0  -- what may be sent to it
  pub call : Sent → Call R.Event  -- which call that is
  pub ruling : R.State → Sent → ℕ  -- its number in the refusal table, for a chain in a state; 0: it passes

-- events alone: frames, settings calls and resets
abbrev pub event_calls : (R : Rules) → Calls R
event_calls R = record { Sent = R.Event; call = event; ruling = R.refuses }

-- events, saves and restores: a save is refused by its buffer's length, a restore by its bytes, whatever the state
abbrev pub ruling_of : (R : Rules) → Images R → R.State → Call R.Event → ℕ
ruling_of R I s (event e) = R.refuses s e
ruling_of R I s (save b) = cond (eqb (length b) I.size) 0 (number_of WrongLength)
ruling_of R I s (restore b) = I.refuses_image b

abbrev pub all_calls : (R : Rules) → Images R → Calls R
all_calls R I = record { Sent = Call R.Event; call = λ c. c; ruling = ruling_of R I }

-- ---- THE PORT: what the delivered functions make of a chain and a call, as their contracts say it
abbrev pub Port : (R : Rules) → Calls R → Type 0
Port R S = R.State → S.Sent → Step R.State R.Answer

-- ---- A REFERENCE for the answers, or for a part of them: the Rust; BS.1770's loudness
pub record Reference (R : Rules) : Type 1 where
  pub Model : Type 0
  pub new : Model
  pub feed : Model → R.Event → Model  -- what an event makes of it
  pub Said : Type 0
  pub says : Model → R.Event → Said  -- what it says of an event
  pub part : R.Answer → Said  -- the part of the port's answer that is compared

-- a reference that speaks of the whole history before an event, with no model of its own
abbrev pub of_history : (R : Rules) (Said : Type 0) → (Log R.Event → R.Event → Said) → (R.Answer → Said) → Reference R
of_history R Said says part = record { Model = Log R.Event; new = empty; feed = λ h e. h ▹ e; Said = Said; says = says; part = part }
