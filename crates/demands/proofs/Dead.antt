-- No dead unit meets the demands. What a product adds is a witness, which speaks of the rules and the reference alone.
use mathlib.Core.Path.{◌≡◌, refl, sym, ap, ◌∙◌}
use mathlib.Core.Bool.{Bool, true, false, cond, true≢false}
use mathlib.Core.List.{[]}
use Prim.Native.Nat.{ℕ, suc}
use native.Mathlib.Omega.{arith}
use borrow.Author.Tests.{eq-eqb}
use lib.ListN.{length, replicate, length-replicate}
use Rattle.demands.specs.Calls.{Log, empty, ◌▹◌, here, Bytes, Call, save, restore, answer, done, Reply, refusal, passed, Seen, Step, gets, Rules, Images, Calls, event_calls, all_calls, Port, Reference}
use Rattle.demands.specs.Demands.{History, state_of, model_of, Passes, Story, begins, adds, keeps, said, from, seen_from, after, sees, ported, Told, Demand1, hear, heard, Demand2, Demand3b, Demand3c}
use Rattle.demands.proofs.Events.{on_events, calls, story-calls}
use Rattle.demands.specs.Dead.{Lived, First, now, earlier, Passing, TwoStates, TwoAnswers, Moves, Fixed, Repeats, Invents, RefusesAll, always, OneImage, RestoresNothing}

-- ---- lists and replies

pub same_answer : {A : Type 0} {a b : A} → ◌≡◌ {A = Reply A} (passed (answer a)) (passed (answer b)) → a ≡ b
same_answer e = cc

last_inj : {A : Type 0} {l m : Log A} {x y : A} → l ▹ x ≡ m ▹ y → x ≡ y
last_inj e = cc

abbrev count : {A : Type 0} → Log A → ℕ
count empty = 0
count (l ▹ x) = suc (count l)

-- a list is not that list and one more
one_more : {A : Type 0} (l : Log A) (x : A) → l ≡ l ▹ x → ⊥
one_more l x e = let z : count l ≡ suc (count l) = ap count e in omega arith

-- ---- units that answer wrongly

module _ (R : Rules) (port : Port R (event_calls R)) where
  abbrev E : Calls R
  E = event_calls R

  -- a history that lived is a list that has itself for its history
  lived-story : (h : History R) → Lived R h → Story R E (ported R E port) h h []
  lived-story empty v = begins
  lived-story (h ▹ e) v = adds (lived-story h v.0) refl v.1

  -- the first event of a sort passed in its turn
  first-lived : (sort : R.Event → Bool) {h past : History R} {f : R.Event} → First R sort h past f → Lived R h → Lived R (past ▹ f)
  first-lived sort (now n s) v = v
  first-lived sort (earlier p) v = first-lived sort p v.0

  module _ (M : Reference R) (d : Demand2 R E port M) where
    -- the event e after the history h is answered as the reference says
    abbrev Right : History R → R.Event → Type 0
    Right h e = (a : R.Answer) × ((sees R E port h e).reply ≡ passed (answer a)) × (M.part a ≡ M.says (model_of R M h) e)

    -- by what was heard before e and what the reference said before it
    right_by : (h : History R) (e : R.Event) (l m : Log M.Said) (r : Reply R.Answer) → (sees R E port h e).reply ≡ r
        → l ≡ m → hear R M l r ≡ m ▹ M.says (model_of R M h) e → Right h e
    right_by h e l m (refusal n) q p o = absurd (one_more m _ (sym p ∙ o))
    right_by h e l m (passed (answer a)) q p o = (a, q, last_inj o)
    right_by h e l m (passed done) q p o = absurd (one_more m _ (sym p ∙ o))

    pub right : (h : History R) (e : R.Event) → Lived R (h ▹ e) → Right h e
    unfolding heard said seen_from
    right h e v =
        let st = lived-story h v.0 in
        right_by h e (heard R M (seen_from R E port R.fresh h)) (said R E M st) (sees R E port h e).reply refl
        (d.equal (record { calls = h; history = h; saves = []; story = st }))
        (d.equal (record { calls = h ▹ e; history = h ▹ e; saves = []; story = adds st refl v.1 }))

    module _ (sort : R.Event → Bool) {View : Type 0} (look : M.Said → View) where
      -- a unit whose answers of a sort all look alike fails demand 2 where the reference is seen to say two things
      pub not_fixed : TwoAnswers R sort M look → Fixed R sort M look port → ⊥
      not_fixed w f =
          let a = right w.h w.e w.lived in
          let a' = right w.h' w.e' w.lived' in
          w.apart (
          sym (ap look a.2) ∙ f.fixed w.h w.e a.0 w.lived w.of_sort a.1 ∙ sym (f.fixed w.h' w.e' a'.0 w.lived' w.of_sort' a'.1) ∙ ap look a'.2
          )

      -- one that repeats its first answer fails it where the reference is seen to say something else later
      pub not_repeats : Moves R sort M look → Repeats R sort M look port → ⊥
      not_repeats w f =
          let a = right w.h w.e w.lived in
          let a₁ = right w.past w.first (first-lived sort w.is_first w.lived) in
          w.apart (sym (ap look a.2) ∙ f.repeats w.h w.past w.e w.first a.0 a₁.0 w.lived w.is_first w.of_sort a₁.1 a.1 ∙ ap look a₁.2)

    -- one that counts more than the reference, wherever it is
    pub not_inventing : (count : M.Said → ℕ) → Invents R M count port → ⊥
    not_inventing count w =
        let b = right w.h w.e w.lived in
        let p : ◌≡◌ {A = Reply R.Answer} (passed (answer w.a)) (passed (answer b.0)) = sym w.answers ∙ b.1 in
        let q : w.a ≡ b.0 = cc in
        let z : count (M.part w.a) ≡ count (M.says (model_of R M w.h) w.e) = ap (λ x. count (M.part x)) q ∙ ap count b.2 in
        omega (arith, z, w.more)

  -- one that refuses every event of some sort fails demand 1 where one of them passes
  pub not-refuses-all : (sort : R.Event → Bool) → Demand1 R E port → Passing R sort → RefusesAll R sort port → ⊥
  unfolding from
  not-refuses-all sort d w f =
      let p = d.answered empty w.event w.passes in
      let q = f.refuses empty w.event w.of_sort in
      let r : ◌≡◌ {A = Reply R.Answer} (refusal q.0) (passed (answer (R.answers R.fresh w.event))) = sym q.1 ∙ p in
      let z : ◌≡◌ {A = ℕ} 0 1 = cc in omega arith

-- ---- a unit that gives one answer to every event of a sort is fixed, whatever it does with the others

module _ (R : Rules) (sort : R.Event → Bool) (M : Reference R) {View : Type 0} (look : M.Said → View) where
  -- by the test of the sort
  answered-by : (of : Bool) (a b : R.Answer) (s : R.State) (t : Step R.State R.Answer) → of ≡ true
      → (cond of (gets (passed (answer a)) [] s) t).seen.reply ≡ passed (answer b) → b ≡ a
  answered-by true a b s t h q = sym (same_answer q)
  answered-by false a b s t h q = absurd (true≢false (sym h))

  pub always-fixed : (a : R.Answer) (unit : Port R (event_calls R)) → Fixed R sort M look (always R sort a unit)
  always-fixed a unit = record {
    v = look (M.part a);
    fixed = λ h e b v of q. ap (λ x. look (M.part x)) (answered-by (sort e) a b _ _ of q);
  }

-- ---- units that save or restore wrongly

module _ (R : Rules) (I : Images R) (port : Port R (all_calls R I)) where
  abbrev S : Calls R
  S = all_calls R I

  abbrev sent : History R → Log (Call R.Event)
  sent h = calls R I port h

  lived-calls : (h : History R) → Lived R h → Story R S (ported R S port) (sent h) h []
  lived-calls h v = story-calls R I port (lived-story R (on_events R I port) h v)

  -- a buffer of the right length
  buffer : Bytes
  buffer = replicate I.size 0

  buffer-passes : (s : R.State) → Passes R S s (save buffer)
  unfolding buffer
  buffer-passes s = rw (eq-eqb (length buffer) I.size (length-replicate I.size 0))

  -- a history, then a save; and a second save
  abbrev saving : (h : History R) → Lived R h → Told R S port
  saving h v = record { calls = sent h ▹ save buffer; history = h; saves = _; story = keeps (lived-calls h v) refl (buffer-passes (state_of R h)) }

  abbrev again : (h : History R) → Lived R h → Told R S port
  again h v = record {
    calls = sent h ▹ save buffer ▹ save buffer;
    history = h;
    saves = _;
    story = keeps (keeps (lived-calls h v) refl (buffer-passes (state_of R h))) refl (buffer-passes (state_of R h));
  }

  -- one image for every state fails demand 3b where two histories have two states
  pub not_one_image : Demand3b R S port I → TwoStates R → OneImage R I port → ⊥
  not_one_image d w f =
      w.apart (
      (d.equal (saving w.h w.lived) (saving w.h' w.lived') _ _ here here).0
      (f.writes (sent w.h) buffer (buffer-passes R.fresh) ∙ sym (f.writes (sent w.h') buffer (buffer-passes R.fresh)))
      )

  -- under demand 3c a chain whose restore leaves it as it is looks, after any list ds, as any chain after its save
  pub restores-nothing-alike : Demand3c R S port I → RestoresNothing R I port → (cs ds : Log (Call R.Event)) (l : Bytes) → Passes R S (after R S port cs) (save l)
      → (fs : Log (Call R.Event)) → seen_from R S port (after R S port ds) fs ≡ seen_from R S port (after R S port (cs ▹ save l)) fs
  restores-nothing-alike d f cs ds l z fs =
      let b = (sees R S port cs (save l)).lent in
      ap (λ (s : R.State). seen_from R S port s fs) (sym (f.leaves ds b)) ∙ (d.same cs ds (save l) (restore b) l refl z refl).1 fs

  last-seen : {l m : Log (Seen R.Answer)} {x y : Seen R.Answer} → l ▹ x ≡ m ▹ y → x.lent ≡ y.lent
  last-seen e = ap (λ x. x.lent) (last_inj e)

  -- so it fails demand 3 where two histories have two states: the next save shows it
  pub not_restores_nothing : Demand3b R S port I → Demand3c R S port I → TwoStates R → RestoresNothing R I port → ⊥
  unfolding seen_from from
  not_restores_nothing d d' w f =
      w.apart (
      (d.equal (again w.h w.lived) (saving w.h' w.lived') _ _ here here).0
      (sym (last-seen (restores-nothing-alike d' f (sent w.h) (sent w.h') buffer (buffer-passes R.fresh) (empty ▹ save buffer))))
      )
