-- Demands 1 and 2 and the histories, for whole lists of any set of calls, from what is known of one call. Assumes nothing else.
use mathlib.Core.Path.{◌≡◌, refl, sym, ap, ◌∙◌, subst}
use mathlib.Core.List.{List, [], ◌∷◌}
use mathlib.Core.Logic.{⊎_elim, inl, inr}
use Prim.Native.Nat.{ℕ, zero, suc}
use Rattle.demands.specs.Calls.{Log, empty, ◌▹◌, Among, here, there, Bytes, Call, event, save, restore, lent_by, answer, done, refusal, passed, gets, Rules, owed, Calls, Port, Reference}
use Rattle.demands.specs.Demands.{History, Save, state_of, model_of, Passes, Refused, Story, begins, adds, keeps, stays, returns, said, from, seen_from, after, sees, ported, Wrote, Proper, Demand1, heard, Demand2, Lists, SameState, Answering}
use Rattle.demands.specs.Laws.{Agrees, Stores}
use Rattle.demands.proofs.Steps.{Steps, event-save, event-restore, save-restore, not-zero}

-- ---- places in a list

-- what holds of the first and of all others holds of all
pub among_cons : {A : Type 0} (Q : A → Type 0) {y : A} {ys : List A} → Q y → ((x : A) → Among x ys → Q x) → (x : A) → Among x (y ∷ ys) → Q x
among_cons Q q f x here = q
among_cons Q q f x (there m) = f x m

abbrev IsNil : {A : Type 0} → List A → Type 0
IsNil [] = Unit {0}
IsNil (x ∷ xs) = ⊥

in_none : {A : Type 0} {x : A} {l : List A} → Among x l → IsNil l → ⊥
in_none here u = u
in_none (there m) u = u

not_in : {A : Type 0} {x : A} {Q : Type 0} → Among x [] → Q
not_in m = absurd (in_none m tt)

module _ (R : Rules) (S : Calls R) (port : Port R S) (L : Steps R S port) where
  open R use {State, Event, Answer, fresh, refuses, next, answers}
  open S use {Sent, call, ruling}
  open L use {Valid, Image}

  -- ---- one call

  -- a call that passes leaves a valid state, and gets what it is owed
  passes : (s : State) (c : Sent) → Valid s → ruling s c ≡ 0 → Valid (port s c).state × ((port s c).seen.reply ≡ passed (owed R s (call c)))
  passes s c v z = go (call c) refl
    where
      go : (k : Call Event) → call c ≡ k → Valid (port s c).state × ((port s c).seen.reply ≡ passed (owed R s k))
      go (event e) k = rw (L.passes s c e v k z) (L.next_valid s e v (L.rules s c e k z), refl)
      go (save l) k = rw (L.saved s c l v k z).2 (v, refl)
      go (restore b) k = let w = L.accepted s c b v k z in rw w.2 (w.1, refl)

  step-valid : (s : State) (c : Sent) → Valid s → Valid (port s c).state
  step-valid s c v = go (ruling s c) refl
    where
      go : (n : ℕ) → ruling s c ≡ n → Valid (port s c).state
      go zero e = (passes s c v e).0
      go (suc n) e = rw (L.refused s c v (not-zero e)) v

  -- ---- any list of calls

  pub from-valid : (s : State) (cs : Log Sent) → Valid s → Valid (from R S port s cs)
  unfolding from
  from-valid s empty v = v
  from-valid s (cs ▹ c) v = step-valid (from R S port s cs) c (from-valid s cs v)

  -- the chain is valid after every list of calls
  pub after-valid : (cs : Log Sent) → Valid (after R S port cs)
  after-valid cs = from-valid fresh cs L.fresh_valid

  pub demand1 : Demand1 R S port
  demand1 = record {
    answered = λ cs c z. (passes (after R S port cs) c (after-valid cs) z).1;
    refused = λ cs c n. L.refused (after R S port cs) c (after-valid cs) n;
    numbered = λ cs c n. L.number (after R S port cs) c (after-valid cs) n;
    finite = λ cs. L.finite (after R S port cs) (after-valid cs);
  }

  -- ---- lists that restore only their own saves: the chain has the state of its history, and each save wrote its image

  abbrev pub Kept : Save R → Type 0
  Kept x = Valid (state_of R x.past) × Image (state_of R x.past) x.wrote

  pub record Good (cs : Log Sent) (h : History R) (xs : List (Save R)) : Type 0 where
    pub state : after R S port cs ≡ state_of R h
    pub valid : Valid (state_of R h)
    pub kept : (x : Save R) → Among x xs → Kept x

  pub good : {cs : Log Sent} {h : History R} {xs : List (Save R)} → Story R S (ported R S port) cs h xs → Good cs h xs
  unfolding state_of from
  good begins = record { state = refl; valid = L.fresh_valid; kept = λ x m. not_in m }
  good (adds {cs} {h} {xs} {c} {e} st k z) =
      let g = good st in
      let p : port (after R S port cs) c ≡ gets (passed (answer (answers (state_of R h) e))) [] (next (state_of R h) e) = rw g.state (L.passes (state_of R h) c e g.valid k z) in
      record { state = ap (λ p. p.state) p; valid = L.next_valid (state_of R h) e g.valid (L.rules (state_of R h) c e k z); kept = g.kept }
  good (keeps {cs} {h} {xs} {c} {l} st k z) =
      let g = good st in
      let w = L.saved (state_of R h) c l g.valid k z in
      let p : port (after R S port cs) c ≡ gets (passed done) w.0 (state_of R h) = rw g.state w.2 in
      record {
        state = ap (λ p. p.state) p;
        valid = g.valid;
        kept = among_cons Kept (g.valid, subst (Image (state_of R h)) (sym (ap (λ p. p.seen.lent) p)) w.1) g.kept;
      }
  good (stays {cs} {h} {xs} {c} st n) =
      let g = good st in
      let p : port (after R S port cs) c ≡ gets (refusal (ruling (state_of R h) c)) (lent_by (call c)) (state_of R h) = rw g.state (L.refused (state_of R h) c g.valid n) in
      record { state = ap (λ p. p.state) p; valid = g.valid; kept = g.kept }
  good (returns {cs} {h} {xs} {c} {x} st k m) =
      let g = good st in
      let w = g.kept x m in
      let p : port (after R S port cs) c ≡ gets (passed done) x.wrote (state_of R x.past) =
      rw g.state (L.restored (state_of R h) (state_of R x.past) c x.wrote g.valid w.0 k w.1) in
      record { state = ap (λ p. p.state) p; valid = w.0; kept = g.kept }

  -- what the next call does, in the rules' terms
  module _ {cs : Log Sent} {h : History R} {xs : List (Save R)} (st : Story R S (ported R S port) cs h xs) where
    at : (c : Sent) → (sees R S port cs c).reply ≡ (port (state_of R h) c).seen.reply
    at c = ap (λ (t : State). (port t c).seen.reply) (good st).state

    pub then-passed : (c : Sent) → Passes R S (state_of R h) c → (sees R S port cs c).reply ≡ passed (owed R (state_of R h) (call c))
    then-passed c z = at c ∙ (passes (state_of R h) c (good st).valid z).1

    then-refused : (c : Sent) → Refused R S (state_of R h) c → (sees R S port cs c).reply ≡ refusal (ruling (state_of R h) c)
    then-refused c n = at c ∙ ap (λ p. p.seen.reply) (L.refused (state_of R h) c (good st).valid n)

    pub kept-passes : (x : Save R) → Among x xs → (c : Sent) → call c ≡ restore x.wrote → Passes R S (state_of R h) c
    kept-passes x m c k = let w = (good st).kept x m in L.image_passes (state_of R h) (state_of R x.past) c x.wrote w.0 k w.1

    -- a call passes by the chain's state as by its history
    by_state : (c : Sent) → Passes R S (state_of R h) c → Passes R S (after R S port cs) c
    by_state c z = subst (λ (t : State). ruling t c ≡ 0) (sym (good st).state) z

    by-history : (c : Sent) → Passes R S (after R S port cs) c → Passes R S (state_of R h) c
    by-history c z = subst (λ (t : State). ruling t c ≡ 0) (good st).state z

  -- ---- a list has a story exactly when it is proper

  -- an event or a restore writes nothing, and a refused save neither
  abbrev Writer : Log Sent → Sent → Bytes → Type 0
  Writer cs c b = (l : Bytes) × (call c ≡ save l) × Passes R S (after R S port cs) c × ((sees R S port cs c).lent ≡ b)

  wrote_among : {cs : Log Sent} {h : History R} {xs : List (Save R)} → Story R S (ported R S port) cs h xs → (b : Bytes) → Wrote R S port cs b
      → (x : Save R) × Among x xs × (x.wrote ≡ b)
  wrote_among begins b w = absurd w
  wrote_among (adds {e = e} st k z) b w = ⊎_elim (λ u. wrote_among st b u) (λ u. absurd (event-save e u.0 k u.1)) w
  wrote_among (keeps st k z) b w = ⊎_elim (λ u. let v = wrote_among st b u in (v.0, there v.1, v.2)) (λ u. (_, here, u.3)) w
  wrote_among (stays {c = c} st n) b w = ⊎_elim (λ u. wrote_among st b u) (λ u. absurd (n (by-history st c u.2))) w
  wrote_among (returns {x = x} st k m) b w = ⊎_elim (λ u. wrote_among st b u) (λ u. absurd (save-restore u.0 x.wrote u.1 k)) w

  among_wrote : {cs : Log Sent} {h : History R} {xs : List (Save R)} → Story R S (ported R S port) cs h xs → (x : Save R) → Among x xs → Wrote R S port cs x.wrote
  among_wrote begins x m = not_in m
  among_wrote (adds st k z) x m = inl (among_wrote st x m)
  among_wrote (keeps {cs} {c = c} {l = l} st k z) x m =
      among_cons (λ x. Wrote R S port (cs ▹ c) x.wrote) (inr (l, k, by_state st c z, refl)) (λ x m. inl (among_wrote st x m)) x m
  among_wrote (stays st n) x m = inl (among_wrote st x m)
  among_wrote (returns st k m) x i = inl (among_wrote st x i)

  restore_inj : {c : Call Event} (a b : Bytes) → c ≡ restore a → c ≡ restore b → a ≡ b
  restore_inj a b p q = cc

  proper : {cs : Log Sent} {h : History R} {xs : List (Save R)} → Story R S (ported R S port) cs h xs → Proper R S port cs
  proper begins = tt
  proper (adds {e = e} st k z) = (proper st, λ b j y. absurd (event-restore e b k j))
  proper (keeps {l = l} st k z) = (proper st, λ b j y. absurd (save-restore l b k j))
  proper (stays {c = c} st n) = (proper st, λ b j y. absurd (n (by-history st c y)))
  proper (returns {cs} {x = x} st k m) = (proper st, λ b j y. subst (Wrote R S port cs) (restore_inj x.wrote b k j) (among_wrote st x m))

  abbrev Some : Log Sent → Type 0
  Some cs = (h : History R) × (xs : List (Save R)) × Story R S (ported R S port) cs h xs

  some_more : (cs : Log Sent) (c : Sent) → ((b : Bytes) → call c ≡ restore b → Passes R S (after R S port cs) c → Wrote R S port cs b) → Some cs → Some (cs ▹ c)
  some_more cs c w r = go (ruling (state_of R r.0) c) refl (call c) refl
    where
      go : (n : ℕ) → ruling (state_of R r.0) c ≡ n → (k : Call Event) → call c ≡ k → Some (cs ▹ c)
      go zero z (event e) k = (r.0 ▹ e, r.1, adds r.2 k z)
      go zero z (save l) k = (r.0, _, keeps r.2 k z)
      go zero z (restore b) k =
          let x = wrote_among r.2 b (w b k (by_state r.2 c z)) in
          (x.0.past, r.1, returns r.2 (k ∙ ap restore (sym x.2)) x.1)
      go (suc n) z i k = (r.0, r.1, stays r.2 (not-zero z))

  some : (cs : Log Sent) → Proper R S port cs → Some cs
  some empty p = (empty, [], begins)
  some (cs ▹ c) p = some_more cs c p.1 (some cs p.0)

  pub lists : Lists R S port
  lists = record {
    told = λ cs p. let r = some cs p in (record { calls = cs; history = r.0; saves = r.1; story = r.2 }, refl);
    proper = λ t. proper t.story;
    holds = λ t. (good t.story).state;
    any_name = λ t t' e. sym (good t.story).state ∙ ap (after R S port) e ∙ (good t'.story).state;
  }

  -- ---- demand 2

  module _ (M : Reference R) (A : Agrees R Valid M) where
    abbrev Alike : History R → Type 0
    Alike h = A.Like (state_of R h) (model_of R M h)

    likes : {cs : Log Sent} {h : History R} {xs : List (Save R)} → Story R S (ported R S port) cs h xs → Alike h × ((x : Save R) → Among x xs → Alike x.past)
    unfolding state_of model_of
    likes begins = (A.like_new, λ x m. not_in m)
    likes (adds {h = h} {c = c} {e = e} st k z) =
        (A.like_next (state_of R h) (model_of R M h) e (good st).valid (likes st).0 (L.rules (state_of R h) c e k z), (likes st).1)
    likes (keeps st k z) = ((likes st).0, among_cons (λ x. Alike x.past) (likes st).0 (likes st).1)
    likes (stays st n) = likes st
    likes (returns {x = x} st k m) = ((likes st).1 x m, (likes st).1)

    hears : {cs : Log Sent} {h : History R} {xs : List (Save R)} (st : Story R S (ported R S port) cs h xs) → heard R M (seen_from R S port fresh cs) ≡ said R S M st
    unfolding heard said seen_from
    hears begins = refl
    hears (adds {h = h} {c = c} {e = e} st k z) =
        rw (then-passed st c z, k, hears st)
        (ap (λ y. said R S M st ▹ y) (A.like_says (state_of R h) (model_of R M h) e (good st).valid (likes st).0 (L.rules (state_of R h) c e k z)))
    hears (keeps {c = c} st k z) = rw (then-passed st c z, k) (hears st)
    hears (stays {c = c} st n) = rw (then-refused st c n) (hears st)
    hears (returns {c = c} {x = x} st k m) = rw (then-passed st c (kept-passes st x m c k), k) (hears st)

    pub demand2 : Demand2 R S port M
    demand2 = record { equal = λ t. hears t.story }

  -- ---- the state is the reference's

  module _ (M : Reference R) (A : Agrees R Valid M) (stored : M.Model → State) (same : Stores R Valid M A stored) where
    pub saved-state : {cs : Log Sent} {h : History R} {xs : List (Save R)} → Story R S (ported R S port) cs h xs
        → (x : Save R) → Among x xs → state_of R x.past ≡ stored (model_of R M x.past)
    saved-state st x m = same (state_of R x.past) (model_of R M x.past) ((good st).kept x m).0 ((likes M A st).1 x m)

    history-state : {cs : Log Sent} {h : History R} {xs : List (Save R)} → Story R S (ported R S port) cs h xs → state_of R h ≡ stored (model_of R M h)
    history-state {h = h} st = same (state_of R h) (model_of R M h) (good st).valid (likes M A st).0

    pub same-state : SameState R S port M stored
    same-state = record {
      rules = λ t. history-state t.story;
      chain = λ t. (good t.story).state ∙ history-state t.story;
      saves = λ t. saved-state t.story;
    }

  pub answering : (rust loudness : Reference R) (A : Agrees R Valid rust) → Agrees R Valid loudness → (stored : rust.Model → State) → Stores R Valid rust A stored
      → Answering R S port rust loudness stored
  answering rust loudness A B stored same = record {
    one = demand1;
    two_rust = demand2 rust A;
    two_loudness = demand2 loudness B;
    lists = lists;
    state = same-state rust A stored same;
  }
