-- Demand 3, and all the demands together, from the laws of events, saves and restores.
use mathlib.Core.Path.{◌≡◌, sym, ap, ◌∙◌, subst}
use mathlib.Core.List.{List, ◌∷◌}
use Rattle.demands.specs.Calls.{Log, ◌▹◌, Among, Bytes, Call, save, done, passed, gets, Rules, Images, owed, Calls, event_calls, all_calls, Port, Reference}
use Rattle.demands.specs.Demands.{History, Save, state_of, Passes, Story, begins, adds, keeps, stays, returns, from, seen_from, after, sees, ported, Told, EventDemands, Demand3a, Demand3b, Demand3c, Onwards, ruled, NoPort, Demands}
use Rattle.demands.specs.Laws.{EventLaws, Laws, Agrees, Stores}
use Rattle.demands.proofs.Steps.{Steps, event-steps, all-steps, image_inj, accepted}
use Rattle.demands.proofs.Lists as lists
use Rattle.demands.proofs.Events.{events-proper}

-- ---- events alone

pub event-demands : (R : Rules) (port : Port R (event_calls R)) (L : EventLaws R port) (rust loudness : Reference R)
    (A : Agrees R L.Valid rust) → Agrees R L.Valid loudness
    → (stored : rust.Model → R.State) → Stores R L.Valid rust A stored → EventDemands R port rust loudness stored
event-demands R port L rust loudness A B stored same =
    let a = lists.answering R (event_calls R) port (event-steps R port L) rust loudness A B stored same in
    record { answering = a; every = λ es. a.lists.told es (events-proper R port es) }

-- ---- events, saves and restores

module _ (R : Rules) (I : Images R) (port : Port R (all_calls R I)) (L : Laws R I port) where
  open R use {State, Event, Answer, next, answers}
  open I use {image, bits}

  abbrev S : Calls R
  S = all_calls R I

  abbrev steps : Steps R S port
  steps = all-steps R I port L

  -- from a valid chain on, the chain is valid after every list of calls
  pub from-valid : (s : State) (cs : Log (Call Event)) → L.events.Valid s → L.events.Valid (from R S port s cs)
  from-valid s cs v = lists.from-valid R S port steps s cs v

  pub valid : (cs : Log (Call Event)) → L.events.Valid (after R S port cs)
  valid cs = lists.after-valid R S port steps cs

  -- a save of a list: its state is valid, and it wrote the image of that state
  kept : (t : Told R S port) (x : Save R) → Among x t.saves → L.events.Valid (state_of R x.past) × (image (state_of R x.past) ≡ x.wrote)
  kept t x m = (lists.good R S port steps t.story).kept x m

  pub demand3a : (M : Reference R) (A : Agrees R L.events.Valid M) (stored : M.Model → State) → Stores R L.events.Valid M A stored → Demand3a R S port I M stored
  demand3a M A stored same = record {
    writes = λ t x m. sym (kept t x m).1;
    writes_stored = λ t x m. sym (kept t x m).1 ∙ ap image (lists.saved-state R S port steps M A stored same t.story x m);
    accepted = λ t x m c k.
        let z = lists.kept-passes R S port steps t.story x m c k in
        (z, lists.then-passed R S port steps t.story c z ∙ ap (λ (c : Call Event). passed (owed R (state_of R t.history) c)) k);
  }

  same-state : (t t' : Told R S port) (x x' : Save R) → Among x t.saves → Among x' t'.saves → x.wrote ≡ x'.wrote → state_of R x.past ≡ state_of R x'.past
  same-state t t' x x' m m' e =
      let k = kept t x m in
      let k' = kept t' x' m' in
      image_inj R I port L (state_of R x.past) (state_of R x'.past) k.0 k'.0 (k.1 ∙ e ∙ sym k'.1)

  same_bytes : (t t' : Told R S port) (x x' : Save R) → Among x t.saves → Among x' t'.saves → state_of R x.past ≡ state_of R x'.past → x.wrote ≡ x'.wrote
  same_bytes t t' x x' m m' e = sym (kept t x m).1 ∙ ap image e ∙ (kept t' x' m').1

  pub demand3b : Demand3b R S port I
  demand3b = record {
    equal = λ t t' x x' m m'. (same-state t t' x x' m m', same_bytes t t' x x' m m');
    alike = λ t t' x x' m m'. (
      (λ e. ap bits (same-state t t' x x' m m' e)),
      λ e. same_bytes t t' x x' m m' (L.images.bits_inj (state_of R x.past) (state_of R x'.past) (kept t x m).0 (kept t' x' m').0 e),
    );
  }

  pub demand3c : Demand3c R S port I
  unfolding from
  demand3c = record {
    same = λ cs ds c d l k z j.
        let s = after R S port cs in
        let w = steps.saved s c l (valid cs) k z in
        let i : image s ≡ (sees R S port cs c).lent = w.1 ∙ sym (ap (λ p. p.seen.lent) w.2) in
        let q : port (after R S port ds) d ≡ gets (passed done) (sees R S port cs c).lent s =
        steps.restored (after R S port ds) s d (sees R S port cs c).lent (valid ds) (valid cs) j i in
        (ap (λ p. p.seen.reply) q, λ fs. ap (λ (t : State). seen_from R S port t fs) (ap (λ p. p.state) q ∙ sym (ap (λ p. p.state) w.2)));
  }

  pub onwards : Onwards R S port I
  onwards = record {
    goes = λ cs c e k z. steps.passes (after R S port cs) c e (valid cs) k z;
    saves = λ cs c l k z. rw k (L.saved (after R S port cs) l (valid cs) (subst (λ (c : Call Event). Passes R S (after R S port cs) c) k z));
    restores = λ cs c b k z. (accepted R I port L (after R S port cs) c b (valid cs) k z).1;
    present = λ cs c b k z n. L.images.present b (subst (λ (c : Call Event). Passes R S (after R S port cs) c) k z) n;
    written = λ cs. (L.images.image_size (after R S port cs) (valid cs), L.images.meaning_image (after R S port cs) (valid cs));
  }

  -- ---- histories without a port

  -- an accepted save writes the image of the state of its history
  wrote : {cs : Log (Call Event)} {h : History R} {xs : List (Save R)} → Story R S (ported R S port) cs h xs
      → (c : Call Event) (l : Bytes) → c ≡ save l → Passes R S (state_of R h) c → image (state_of R h) ≡ (sees R S port cs c).lent
  wrote {cs} {h} st c l k z =
      let g = lists.good R S port steps st in
      let w = steps.saved (state_of R h) c l g.valid k z in
      w.1 ∙ sym (ap (λ p. p.seen.lent) w.2) ∙ ap (λ (t : State). (port t c).seen.lent) (sym g.state)

  -- the last save of a list may be said to have written any bytes that equal what it wrote
  rewritten : (w : Log (Call Event) → Call Event → History R → Bytes) (cs : Log (Call Event)) (c : Call Event) (h : History R) (xs : List (Save R)) {a b : Bytes}
      → a ≡ b → Story R S w (cs ▹ c) h (record { past = h; wrote = a } ∷ xs) → Story R S w (cs ▹ c) h (record { past = h; wrote = b } ∷ xs)
  rewritten w cs c h xs e st = subst (λ (b : Bytes). Story R S w (cs ▹ c) h (record { past = h; wrote = b } ∷ xs)) e st

  to-ruled : {cs : Log (Call Event)} {h : History R} {xs : List (Save R)} → Story R S (ported R S port) cs h xs → Story R S (ruled R S I) cs h xs
  to-ruled begins = begins
  to-ruled (adds st k z) = adds (to-ruled st) k z
  to-ruled (keeps {cs} {h} {xs} {c} {l} st k z) = rewritten (ruled R S I) cs c h xs (wrote st c l k z) (keeps (to-ruled st) k z)
  to-ruled (stays st n) = stays (to-ruled st) n
  to-ruled (returns st k m) = returns (to-ruled st) k m

  to-ported : {cs : Log (Call Event)} {h : History R} {xs : List (Save R)} → Story R S (ruled R S I) cs h xs → Story R S (ported R S port) cs h xs
  to-ported begins = begins
  to-ported (adds st k z) = adds (to-ported st) k z
  to-ported (keeps {cs} {h} {xs} {c} {l} st k z) = let t = to-ported st in rewritten (ported R S port) cs c h xs (sym (wrote t c l k z)) (keeps t k z)
  to-ported (stays st n) = stays (to-ported st) n
  to-ported (returns st k m) = returns (to-ported st) k m

  pub no_port : NoPort R S port I
  no_port = record { same = λ cs h xs. (to-ruled, to-ported) }

  -- ---- all of it
  pub demands : (rust loudness : Reference R) (A : Agrees R L.events.Valid rust) → Agrees R L.events.Valid loudness
      → (stored : rust.Model → State) → Stores R L.events.Valid rust A stored → Demands R I port rust loudness stored
  demands rust loudness A B stored same = record {
    answering = lists.answering R S port steps rust loudness A B stored same;
    three_a = demand3a rust A stored same;
    three_b = demand3b;
    three_c = demand3c;
    onwards = onwards;
    no_port = no_port;
  }
