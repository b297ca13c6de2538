-- What a product proves of its functions, call by call. From these laws the demands follow for whole lists.
use Rattle.std.specs.Prelude.{◌≡◌, [], length}
use Rattle.refusal.specs.Table.{InTable}
use Rattle.demands.specs.Calls.{Bytes, event, save, restore, answer, done, refusal, passed, gets, Rules, Images, event_calls, ruling_of, all_calls, Port, Reference}

module _ (R : Rules) where
  open R use {State, Event, fresh, refuses, next, answers, Finite}

  -- ---- frames, settings calls and resets
  pub record EventLaws (port : Port R (event_calls R)) : Type 1 where
    -- the states that a chain may have
    pub Valid : State → Type 0
    pub finite : (s : State) → Valid s → Finite s
    pub fresh_valid : Valid fresh
    pub next_valid : (s : State) (e : Event) → Valid s → refuses s e ≡ 0 → Valid (next s e)
    -- the numbers are those of the table
    pub number : (s : State) (e : Event) → Valid s → (refuses s e ≡ 0 → ⊥) → InTable (refuses s e)
    -- the port: what each call gets, and the chain that it leaves
    pub refused : (s : State) (e : Event) → Valid s → (refuses s e ≡ 0 → ⊥) → port s e ≡ gets (refusal (refuses s e)) [] s
    pub passes : (s : State) (e : Event) → Valid s → refuses s e ≡ 0 → port s e ≡ gets (passed (answer (answers s e))) [] (next s e)

  module _ (I : Images R) where
    open I use {size, image, refuses_image, meaning, bits}

    -- ---- the images of the valid states, and what accepted bytes mean
    pub record SaveLaws (Valid : State → Type 0) : Type 0 where
      -- the bits of a valid state tell it from any other
      pub bits_inj : (s t : State) → Valid s → Valid t → bits s ≡ bits t → s ≡ t
      -- its image has the size of images, is accepted, and means it (so two valid states have two images)
      pub image_size : (s : State) → Valid s → length (image s) ≡ size
      pub image_passes : (s : State) → Valid s → refuses_image (image s) ≡ 0
      pub meaning_image : (s : State) → Valid s → meaning (image s) ≡ s
      -- accepted bytes mean a valid state; those of that size are its image
      pub meaning_valid : (b : Bytes) → refuses_image b ≡ 0 → Valid (meaning b)
      pub present : (b : Bytes) → refuses_image b ≡ 0 → length b ≡ size → image (meaning b) ≡ b

    -- ---- with saves and restores
    pub record Laws (port : Port R (all_calls R I)) : Type 1 where
      pub events : EventLaws (λ s e. port s (event e))
      pub images : SaveLaws events.Valid
      pub image_number : (b : Bytes) → (refuses_image b ≡ 0 → ⊥) → InTable (refuses_image b)
      -- the port
      pub save_refused : (s : State) (l : Bytes) → events.Valid s → (ruling_of R I s (save l) ≡ 0 → ⊥) → port s (save l) ≡ gets (refusal (ruling_of R I s (save l))) l s
      pub saved : (s : State) (l : Bytes) → events.Valid s → ruling_of R I s (save l) ≡ 0 → port s (save l) ≡ gets (passed done) (image s) s
      pub restore_refused : (s : State) (b : Bytes) → events.Valid s → (refuses_image b ≡ 0 → ⊥) → port s (restore b) ≡ gets (refusal (refuses_image b)) b s
      pub restored : (s : State) (b : Bytes) → events.Valid s → refuses_image b ≡ 0 → port s (restore b) ≡ gets (passed done) b (meaning b)

  -- ---- a reference keeps step with the rules, accepted event by accepted event
  pub record Agrees (Valid : State → Type 0) (M : Reference R) : Type 1 where
    pub Like : State → M.Model → Type 0
    pub like_new : Like fresh M.new
    pub like_next : (s : State) (m : M.Model) (e : Event) → Valid s → Like s m → refuses s e ≡ 0 → Like (next s e) (M.feed m e)
    pub like_says : (s : State) (m : M.Model) (e : Event) → Valid s → Like s m → refuses s e ≡ 0 → M.part (answers s e) ≡ M.says m e

  -- and of all that it keeps, `stored` gives the chain's state
  abbrev pub Stores : (Valid : State → Type 0) (M : Reference R) → Agrees Valid M → (M.Model → State) → Type 0
  Stores Valid M A stored = (s : State) (m : M.Model) → Valid s → A.Like s m → s ≡ stored m
