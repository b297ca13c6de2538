-- Dead units that the specification wants shut out, and the witnesses that a product gives against them.
use Rattle.std.specs.Prelude.{◌≡◌, Bool, true, false, cond, [], ℕ, ◌<◌}
use Rattle.demands.specs.Calls.{Log, empty, ◌▹◌, Bytes, Call, save, restore, answer, refusal, passed, gets, Rules, Images, event_calls, all_calls, Port, Reference}
use Rattle.demands.specs.Demands.{History, state_of, model_of, Passes, after, sees}

module _ (R : Rules) where
  -- each event of a history passes in its turn
  abbrev pub Lived : History R → Type 0
  Lived empty = Unit {0}
  Lived (h ▹ e) = Lived h × (R.refuses (state_of R h) e ≡ 0)

  -- ---- EVENTS OF A SORT, such as frames

  module _ (sort : R.Event → Bool) where
    -- none of a list is of the sort
    abbrev pub None : Log R.Event → Type 0
    None empty = Unit {0}
    None (es ▹ e) = None es × (sort e ≡ false)

    -- `First es bs f`: f is the first event of the sort in the list es, and bs are the events before it
    pub data First : Log R.Event → Log R.Event → R.Event → Type 0 where
      now : {bs : Log R.Event} {f : R.Event} → None bs → sort f ≡ true → First (bs ▹ f) bs f
      earlier : {es bs : Log R.Event} {f e : R.Event} → First es bs f → First (es ▹ e) bs f

    -- ---- WITNESSES: they speak of the rules and the reference alone

    -- an event of the sort that passes on a fresh chain
    pub record Passing : Type 0 where
      pub event : R.Event
      pub of_sort : sort event ≡ true
      pub passes : R.refuses R.fresh event ≡ 0

    -- what is looked at of a reference's answers, such as the reduction
    module _ (M : Reference R) {View : Type 0} (look : M.Said → View) where
      -- two histories, each with an event of the sort after it, for which the reference is seen to say two things
      pub record TwoAnswers : Type 0 where
        pub h : History R
        pub e : R.Event
        pub h' : History R
        pub e' : R.Event
        pub of_sort : sort e ≡ true
        pub of_sort' : sort e' ≡ true
        pub lived : Lived (h ▹ e)
        pub lived' : Lived (h' ▹ e')
        pub apart : look (M.says (model_of R M h) e) ≡ look (M.says (model_of R M h') e') → ⊥

      -- a history and an event of the sort after it, of which the reference says something else than of the first of that sort
      pub record Moves : Type 0 where
        pub h : History R
        pub e : R.Event
        pub past : History R
        pub first : R.Event
        pub of_sort : sort e ≡ true
        pub is_first : First (h ▹ e) past first
        pub lived : Lived (h ▹ e)
        pub apart : look (M.says (model_of R M h) e) ≡ look (M.says (model_of R M past) first) → ⊥

      -- ---- DEAD UNITS: first two that answer, by what is looked at; one that counts; one that refuses; two with images

      module _ (port : Port R (event_calls R)) where
        -- in every history, whatever it answers to an event of the sort looks like v (always 0 dB), whatever it does with the others
        pub record Fixed : Type 0 where
          pub v : View
          pub fixed : (h : History R) (e : R.Event) (a : R.Answer) → Lived (h ▹ e) → sort e ≡ true
              → (sees R (event_calls R) port h e).reply ≡ passed (answer a) → look (M.part a) ≡ v

        -- in every history, whatever it answers to an event of the sort looks like its answer to the first of that sort, with any other
        -- events before it and between (works on the first frame and repeats it)
        pub record Repeats : Type 0 where
          pub repeats : (h past : History R) (e f : R.Event) (a a₁ : R.Answer) → Lived (h ▹ e) → First (h ▹ e) past f → sort e ≡ true
              → (sees R (event_calls R) port past f).reply ≡ passed (answer a₁)
              → (sees R (event_calls R) port h e).reply ≡ passed (answer a) → look (M.part a) ≡ look (M.part a₁)

    -- it refuses every event of the sort (runaway for every frame)
    pub record RefusesAll (port : Port R (event_calls R)) : Type 0 where
      pub refuses : (es : Log R.Event) (e : R.Event) → sort e ≡ true → (n : ℕ) × ((sees R (event_calls R) port es e).reply ≡ refusal n)

    -- the unit that gives one answer to every event of the sort, and does with the others what another unit does
    abbrev pub always : R.Answer → Port R (event_calls R) → Port R (event_calls R)
    always a unit s e = cond (sort e) (gets (passed (answer a)) [] s) (unit s e)

  -- somewhere it counts more than the reference (onsets invented)
  pub record Invents (M : Reference R) (count : M.Said → ℕ) (port : Port R (event_calls R)) : Type 0 where
    pub h : History R
    pub e : R.Event
    pub lived : Lived (h ▹ e)
    pub a : R.Answer
    pub answers : (sees R (event_calls R) port h e).reply ≡ passed (answer a)
    pub more : count (M.says (model_of R M h) e) < count (M.part a)

  -- two histories with two states
  pub record TwoStates : Type 0 where
    pub h : History R
    pub h' : History R
    pub lived : Lived h
    pub lived' : Lived h'
    pub apart : state_of R h ≡ state_of R h' → ⊥

  module _ (I : Images R) (port : Port R (all_calls R I)) where
    -- every accepted save writes one fixed image
    pub record OneImage : Type 0 where
      pub bytes : Bytes
      pub writes : (cs : Log (Call R.Event)) (l : Bytes) → Passes R (all_calls R I) (after R (all_calls R I) port cs) (save l)
          → (sees R (all_calls R I) port cs (save l)).lent ≡ bytes

    -- a restore leaves the chain as it is
    pub record RestoresNothing : Type 0 where
      pub leaves : (cs : Log (Call R.Event)) (b : Bytes) → after R (all_calls R I) port (cs ▹ restore b) ≡ after R (all_calls R I) port cs
