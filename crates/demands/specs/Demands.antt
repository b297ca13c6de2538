-- The three demands, over whole lists of calls. R and I are the specification's rules, S is the set of calls that a chain takes,
-- and `port` is what the delivered functions do (all four: Calls.antt). Events are frames, settings calls and resets.
use Rattle.std.specs.Prelude.{◌≡◌, List, [], ◌∷◌, ◌⊎◌, ◌↔◌, length}
use Rattle.refusal.specs.Table.{InTable}
use Rattle.demands.specs.Calls.{Log, empty, ◌▹◌, Among, Bytes, event, save, restore, lent_by, answer, done, Reply, refusal, passed, Seen, gets, Rules, Images, owed, Calls, event_calls, all_calls, Port, Reference}

-- ---- WHAT THE SPECIFICATION SAYS OF A LIST OF CALLS

abbrev pub History : Rules → Type 0
History R = Log R.Event

-- an accepted save: the history at it, and the bytes that it wrote
pub record Save (R : Rules) : Type 0 where
  pub past : History R
  pub wrote : Bytes

module _ (R : Rules) where
  -- the state that the specification gives for a history: a fresh chain is fed it in order
  unfoldable pub state_of : History R → R.State
  state_of empty = R.fresh
  state_of (h ▹ e) = R.next (state_of h) e

  -- a reference runs afresh over a history
  unfoldable pub model_of : (M : Reference R) → History R → M.Model
  model_of M empty = M.new
  model_of M (h ▹ e) = M.feed (model_of M h) e

  -- the answers in what was seen, in order: the parts of them that a reference speaks of
  abbrev pub hear : (M : Reference R) → Log M.Said → Reply R.Answer → Log M.Said
  hear M l (refusal n) = l
  hear M l (passed (answer a)) = l ▹ M.part a
  hear M l (passed done) = l

  unfoldable pub heard : (M : Reference R) → Log (Seen R.Answer) → Log M.Said
  heard M empty = empty
  heard M (l ▹ x) = hear M (heard M l) x.reply

  module _ (S : Calls R) where
    open R use {State, Event, Answer, fresh, refuses, next, answers, Finite}
    open S use {Sent, call, ruling}

    abbrev pub Passes : State → Sent → Type 0
    Passes s c = ruling s c ≡ 0

    abbrev pub Refused : State → Sent → Type 0
    Refused s c = ruling s c ≡ 0 → ⊥

    -- what an accepted save writes: by the calls before it, the save, and the history at it
    abbrev pub Writes : Type 0
    Writes = Log Sent → Sent → History R → Bytes

    -- `Story w cs h xs`: each accepted restore in the list cs brings what an earlier save of cs wrote; h is the
    -- history of cs, and xs are its accepted saves, the latest first. Which calls are refused follows from the
    -- rules and the state that they give for the history, never from what the port replies.
    pub data Story (w : Writes) : Log Sent → History R → List (Save R) → Type 0 where
      -- a history starts empty
      begins : Story w empty empty []
      -- an accepted frame, settings call or reset adds itself
      adds : {cs : Log Sent} {h : History R} {xs : List (Save R)} {c : Sent} {e : Event}
          → Story w cs h xs → call c ≡ event e → Passes (state_of h) c → Story w (cs ▹ c) (h ▹ e) xs
      -- a save adds nothing
      keeps : {cs : Log Sent} {h : History R} {xs : List (Save R)} {c : Sent} {l : Bytes}
          → Story w cs h xs → call c ≡ save l → Passes (state_of h) c → Story w (cs ▹ c) h (record { past = h; wrote = w cs c h } ∷ xs)
      -- a refused call adds nothing
      stays : {cs : Log Sent} {h : History R} {xs : List (Save R)} {c : Sent}
          → Story w cs h xs → Refused (state_of h) c → Story w (cs ▹ c) h xs
      -- a restore names an earlier save, brings the bytes that it wrote, and returns to the history at it
      returns : {cs : Log Sent} {h : History R} {xs : List (Save R)} {c : Sent} {x : Save R}
          → Story w cs h xs → call c ≡ restore x.wrote → Among x xs → Story w (cs ▹ c) x.past xs

    -- by the rules alone, a save writes the image of the state of its history
    abbrev pub ruled : Images R → Writes
    ruled I cs c h = I.image (state_of h)

    -- what a reference says of the accepted events of a list, in order
    unfoldable pub said : (M : Reference R) {w : Writes} {cs : Log Sent} {h : History R} {xs : List (Save R)} → Story w cs h xs → Log M.Said
    said M begins = empty
    said M (adds {h = h} {e = e} st k z) = said M st ▹ M.says (model_of M h) e
    said M (keeps st k z) = said M st
    said M (stays st n) = said M st
    said M (returns st k m) = said M st

    module _ (port : Port R S) where
      -- ---- WHAT THE PORT MAKES OF A LIST OF CALLS

      -- the chain after a list of calls, where the first gets the chain s; and all that is seen of them
      unfoldable pub from : State → Log Sent → State
      from s empty = s
      from s (cs ▹ c) = (port (from s cs) c).state

      unfoldable pub seen_from : State → Log Sent → Log (Seen Answer)
      seen_from s empty = empty
      seen_from s (cs ▹ c) = seen_from s cs ▹ (port (from s cs) c).seen

      -- the chain after a list of calls from a fresh chain; and what is seen of a call that comes next
      abbrev pub after : Log Sent → State
      after cs = from fresh cs

      abbrev pub sees : Log Sent → Sent → Seen Answer
      sees cs c = (port (after cs) c).seen

      -- the port's saves write what they leave in the lent buffer
      abbrev pub ported : Writes
      ported cs c h = (sees cs c).lent

      -- a list that restores only its own saves, with its history and its saves
      pub record Told : Type 0 where
        pub calls : Log Sent
        pub history : History R
        pub saves : List (Save R)
        pub story : Story ported calls history saves

      -- the same lists, without a history: what each accepted restore brings was written by an earlier accepted save
      -- (`Wrote cs b`: an accepted save of cs wrote the bytes b)
      abbrev pub Wrote : Log Sent → Bytes → Type 0
      Wrote empty b = ⊥
      Wrote (cs ▹ c) b = Wrote cs b ⊎ ((l : Bytes) × (call c ≡ save l) × Passes (after cs) c × ((sees cs c).lent ≡ b))

      abbrev pub Proper : Log Sent → Type 0
      Proper empty = Unit {0}
      Proper (cs ▹ c) = Proper cs × ((b : Bytes) → call c ≡ restore b → Passes (after cs) c → Wrote cs b)

      -- ---- DEMAND 1. Whoever sends a frame, settings, a reset or an image, of any length and content, after any list cs,

      pub record Demand1 : Type 0 where
        -- gets an answer,
        pub answered : (cs : Log Sent) (c : Sent) → Passes (after cs) c → (sees cs c).reply ≡ passed (owed R (after cs) (call c))
        -- or one refusal, with the number that the rules give; it changes no stored number and no byte of a lent buffer;
        pub refused : (cs : Log Sent) (c : Sent) → Refused (after cs) c
            → port (after cs) c ≡ gets (refusal (ruling (after cs) c)) (lent_by (call c)) (after cs)
        -- the number is one of the specification's table;
        pub numbered : (cs : Log Sent) (c : Sent) → Refused (after cs) c → InTable (ruling (after cs) c)
        -- and no stored number is ever infinite or not a number.
        pub finite : (cs : Log Sent) → Finite (after cs)

      -- ---- DEMAND 2. On every list that restores only its own saves the answers, in order, are what the reference says,
      -- bit for bit, where it runs afresh over the history before each accepted event.

      pub record Demand2 (M : Reference R) : Type 0 where
        pub equal : (t : Told) → heard M (seen_from fresh t.calls) ≡ said M t.story

      -- Which lists these are, and what the chain is after them.
      pub record Lists : Type 0 where
        -- No list is left out: every proper list has a history, and only proper lists have one.
        pub told : (cs : Log Sent) → Proper cs → (t : Told) × (t.calls ≡ cs)
        pub proper : (t : Told) → Proper t.calls
        -- The chain has the state that the rules give for its history.
        pub holds : (t : Told) → after t.calls ≡ state_of t.history
        -- It does not matter which save a restore names, of those that wrote its bytes.
        pub any_name : (t t' : Told) → t.calls ≡ t'.calls → state_of t.history ≡ state_of t'.history

      -- ---- THE STATE IS THE REFERENCE'S. `stored` gives, of all that a reference keeps, the numbers that a chain stores.
      -- The state that the rules give for a history is that of the reference, run afresh over it; so the chain has it,
      pub record SameState (M : Reference R) (stored : M.Model → State) : Type 0 where
        pub rules : (t : Told) → state_of t.history ≡ stored (model_of M t.history)
        pub chain : (t : Told) → after t.calls ≡ stored (model_of M t.history)
        -- and so had the chain at each accepted save.
        pub saves : (t : Told) (x : Save R) → Among x t.saves → state_of x.past ≡ stored (model_of M x.past)

      -- ---- DEMANDS 1 AND 2 need no images. The Rust and BS.1770's loudness are two references; the Rust's state is the chain's.
      pub record Answering (rust loudness : Reference R) (stored : rust.Model → State) : Type 0 where
        pub one : Demand1
        pub two_rust : Demand2 rust
        pub two_loudness : Demand2 loudness
        pub lists : Lists
        pub state : SameState rust stored

      module _ (I : Images R) where
        open I use {size, image, meaning, bits}

        -- ---- DEMAND 3. Take, from a fresh chain, any list of frames, settings, resets, saves and restores, refused ones
        -- included, in which each accepted restore brings an image saved earlier in the same list.

        -- Each accepted save writes the image of the state that the rules give for the history before it,
        pub record Demand3a (M : Reference R) (stored : M.Model → State) : Type 0 where
          pub writes : (t : Told) (x : Save R) → Among x t.saves → x.wrote ≡ image (state_of x.past)
          -- which is the state of the reference, run afresh over that history.
          pub writes_stored : (t : Told) (x : Save R) → Among x t.saves → x.wrote ≡ image (stored (model_of M x.past))
          -- Such bytes are never refused.
          pub accepted : (t : Told) (x : Save R) → Among x t.saves → (c : Sent) → call c ≡ restore x.wrote
              → Passes (state_of t.history) c × ((sees t.calls c).reply ≡ passed done)

        -- Any two images so saved, in one list or two, are equal byte for byte exactly when these states are the same,
        pub record Demand3b : Type 0 where
          pub equal : (t t' : Told) (x x' : Save R) → Among x t.saves → Among x' t'.saves
              → (x.wrote ≡ x'.wrote) ↔ (state_of x.past ≡ state_of x'.past)
          -- every number alike in its bits.
          pub alike : (t t' : Told) (x x' : Save R) → Among x t.saves → Among x' t'.saves
              → (x.wrote ≡ x'.wrote) ↔ (bits (state_of x.past) ≡ bits (state_of x'.past))

        -- A chain that did cs and the save c, and one that did ds and the restore d of what c wrote: the restore is done, and
        -- for every further list fs both give the same replies and bytes. cs, ds and fs are any lists, foreign images too.
        pub record Demand3c : Type 0 where
          pub same : (cs ds : Log Sent) (c d : Sent) (l : Bytes) → call c ≡ save l → Passes (after cs) c → call d ≡ restore (sees cs c).lent
              → ((sees ds d).reply ≡ passed done) × ((fs : Log Sent) → seen_from (after (ds ▹ d)) fs ≡ seen_from (after (cs ▹ c)) fs)

        -- ---- The specification, "Histories and lists of calls": from whatever chain a list of calls leaves, restores of foreign
        -- images among them, each accepted call gives what the definitions give; a restore gives the state that its bytes mean.
        pub record Onwards : Type 0 where
          pub goes : (cs : Log Sent) (c : Sent) (e : Event) → call c ≡ event e → Passes (after cs) c
              → port (after cs) c ≡ gets (passed (answer (answers (after cs) e))) [] (next (after cs) e)
          pub saves : (cs : Log Sent) (c : Sent) (l : Bytes) → call c ≡ save l → Passes (after cs) c
              → port (after cs) c ≡ gets (passed done) (image (after cs)) (after cs)
          pub restores : (cs : Log Sent) (c : Sent) (b : Bytes) → call c ≡ restore b → Passes (after cs) c
              → port (after cs) c ≡ gets (passed done) b (meaning b)
          -- Accepted bytes as long as an image that is saved are the image of the state that they mean.
          pub present : (cs : Log Sent) (c : Sent) (b : Bytes) → call c ≡ restore b → Passes (after cs) c → length b ≡ size → image (meaning b) ≡ b
          -- The chain's image has that length, and means the chain.
          pub written : (cs : Log Sent) → (length (image (after cs)) ≡ size) × (meaning (image (after cs)) ≡ after cs)

        -- ---- A history needs no port: a list has the same histories if each save writes what the rules say.
        pub record NoPort : Type 0 where
          pub same : (cs : Log Sent) (h : History R) (xs : List (Save R)) → Story ported cs h xs ↔ Story (ruled I) cs h xs

  -- ---- A CHAIN THAT TAKES EVENTS ALONE: demands 1 and 2, and every list of events has a history
  pub record EventDemands (port : Port R (event_calls R)) (rust loudness : Reference R) (stored : rust.Model → R.State) : Type 0 where
    pub answering : Answering (event_calls R) port rust loudness stored
    pub every : (es : Log R.Event) → (t : Told (event_calls R) port) × (t.calls ≡ es)

  -- ---- A CHAIN THAT TAKES EVENTS, SAVES AND RESTORES: all three demands
  pub record Demands (I : Images R) (port : Port R (all_calls R I)) (rust loudness : Reference R) (stored : rust.Model → R.State) : Type 0 where
    pub answering : Answering (all_calls R I) port rust loudness stored
    pub three_a : Demand3a (all_calls R I) port I rust stored
    pub three_b : Demand3b (all_calls R I) port I
    pub three_c : Demand3c (all_calls R I) port I
    pub onwards : Onwards (all_calls R I) port I
    pub no_port : NoPort (all_calls R I) port I
