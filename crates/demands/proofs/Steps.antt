-- What the proofs over lists need of one call, for any set of calls; it follows from the laws of events, and from those with images.
use mathlib.Core.Path.{◌≡◌, refl, sym, ap, ◌∙◌, subst}
use mathlib.Core.List.{[]}
use mathlib.Core.Bool.{Bool, true, false, cond}
use Prim.Native.Nat.{ℕ, suc}
use native.Mathlib.Omega.{arith}
use lib.ListN.{length}
use lib.Dec.{eqb}
use Rattle.refusal.specs.declared.Refusal.TheVariants.{WrongLength}
use Rattle.refusal.specs.Table.{InTable}
use Rattle.demands.specs.Calls.{Bytes, Call, event, save, restore, lent_by, answer, done, refusal, passed, gets, Rules, Images, Calls, event_calls, all_calls, Port}
use Rattle.demands.specs.Demands.{Passes, Refused}
use Rattle.demands.specs.Laws.{EventLaws, Laws}

pub record Steps (R : Rules) (S : Calls R) (port : Port R S) : Type 1 where
  pub Valid : R.State → Type 0
  -- these bytes are the image of that state
  pub Image : R.State → Bytes → Type 0
  pub finite : (s : R.State) → Valid s → R.Finite s
  pub fresh_valid : Valid R.fresh
  pub number : (s : R.State) (c : S.Sent) → Valid s → Refused R S s c → InTable (S.ruling s c)
  pub refused : (s : R.State) (c : S.Sent) → Valid s → Refused R S s c → port s c ≡ gets (refusal (S.ruling s c)) (lent_by (S.call c)) s
  -- an event passes by the rules of events
  pub rules : (s : R.State) (c : S.Sent) (e : R.Event) → S.call c ≡ event e → Passes R S s c → R.refuses s e ≡ 0
  pub next_valid : (s : R.State) (e : R.Event) → Valid s → R.refuses s e ≡ 0 → Valid (R.next s e)
  pub passes : (s : R.State) (c : S.Sent) (e : R.Event) → Valid s → S.call c ≡ event e → Passes R S s c
      → port s c ≡ gets (passed (answer (R.answers s e))) [] (R.next s e)
  pub saved : (s : R.State) (c : S.Sent) (l : Bytes) → Valid s → S.call c ≡ save l → Passes R S s c
      → (b : Bytes) × Image s b × (port s c ≡ gets (passed done) b s)
  -- a valid state's image is accepted, and gives that state
  pub image_passes : (s t : R.State) (c : S.Sent) (b : Bytes) → Valid t → S.call c ≡ restore b → Image t b → Passes R S s c
  pub restored : (s t : R.State) (c : S.Sent) (b : Bytes) → Valid s → Valid t → S.call c ≡ restore b → Image t b
      → port s c ≡ gets (passed done) b t
  -- any accepted bytes give a valid state
  pub accepted : (s : R.State) (c : S.Sent) (b : Bytes) → Valid s → S.call c ≡ restore b → Passes R S s c
      → (t : R.State) × Valid t × (port s c ≡ gets (passed done) b t)

-- ---- calls of one kind are not of another

pub event-save : {E : Type 0} {c : Call E} (e : E) (b : Bytes) → c ≡ event e → c ≡ save b → ⊥
event-save e b p q = let z : ◌≡◌ {A = ℕ} 0 1 = cc in omega arith

pub event-restore : {E : Type 0} {c : Call E} (e : E) (b : Bytes) → c ≡ event e → c ≡ restore b → ⊥
event-restore e b p q = let z : ◌≡◌ {A = ℕ} 0 1 = cc in omega arith

pub save-restore : {E : Type 0} {c : Call E} (l b : Bytes) → c ≡ save l → c ≡ restore b → ⊥
save-restore l b p q = let z : ◌≡◌ {A = ℕ} 0 1 = cc in omega arith

pub not-zero : {n m : ℕ} → n ≡ suc m → n ≡ 0 → ⊥
not-zero e z = omega arith

-- ---- events alone

module _ (R : Rules) (port : Port R (event_calls R)) (L : EventLaws R port) where
  pub event_inj : (c e : R.Event) → ◌≡◌ {A = Call R.Event} (event c) (event e) → c ≡ e
  event_inj c e p = cc

  abbrev pub event-steps : Steps R (event_calls R) port
  event-steps = record {
    Valid = L.Valid;
    Image = λ s b. ⊥;
    finite = L.finite;
    fresh_valid = L.fresh_valid;
    number = L.number;
    refused = L.refused;
    rules = λ s c e k z. subst (λ (e : R.Event). R.refuses s e ≡ 0) (event_inj c e k) z;
    next_valid = L.next_valid;
    passes = λ s c e v k z. subst (λ (e : R.Event). port s c ≡ gets (passed (answer (R.answers s e))) [] (R.next s e)) (event_inj c e k) (L.passes s c v z);
    saved = λ s c l v k z. absurd (event-save c l refl k);
    image_passes = λ s t c b v k i. absurd i;
    restored = λ s t c b v w k i. absurd i;
    accepted = λ s c b v k z. absurd (event-restore c b refl k);
  }

-- ---- with saves and restores

module _ (R : Rules) (I : Images R) (port : Port R (all_calls R I)) (L : Laws R I port) where
  open R use {State, Event}
  open L use {events, images}

  -- the number of a save
  save-number : (s : State) (l : Bytes) → Refused R (all_calls R I) s (save l) → InTable ((all_calls R I).ruling s (save l))
  save-number s l n = go (eqb (length l) I.size) n
    where
      go : (t : Bool) → (◌≡◌ {A = ℕ} (cond t 0 6) 0 → ⊥) → InTable (cond t 0 6)
      go true n = absurd (n refl)
      go false n = (WrongLength, refl)

  pub number : (s : State) (c : Call Event) → events.Valid s → Refused R (all_calls R I) s c → InTable ((all_calls R I).ruling s c)
  number s (event e) v n = events.number s e v n
  number s (save l) v n = save-number s l n
  number s (restore b) v n = L.image_number b n

  pub refused : (s : State) (c : Call Event) → events.Valid s → Refused R (all_calls R I) s c → port s c ≡ gets (refusal ((all_calls R I).ruling s c)) (lent_by c) s
  refused s (event e) v n = events.refused s e v n
  refused s (save l) v n = L.save_refused s l v n
  refused s (restore b) v n = L.restore_refused s b v n

  -- two valid states have two images
  pub image_inj : (s t : State) → events.Valid s → events.Valid t → I.image s ≡ I.image t → s ≡ t
  image_inj s t v w e = sym (images.meaning_image s v) ∙ ap I.meaning e ∙ images.meaning_image t w

  -- a valid state's image is accepted, and gives that state
  pub image_passes : (t : State) (b : Bytes) → events.Valid t → I.image t ≡ b → I.refuses_image b ≡ 0
  image_passes t b w i = sym (ap I.refuses_image i) ∙ images.image_passes t w

  pub restored : (s t : State) (b : Bytes) → events.Valid s → events.Valid t → I.image t ≡ b → port s (restore b) ≡ gets (passed done) b t
  restored s t b v w i =
      L.restored s b v (image_passes t b w i) ∙ ap (λ (t : State). gets (passed done) b t) (sym (ap I.meaning i) ∙ images.meaning_image t w)

  -- any accepted bytes give what they mean
  pub accepted : (s : State) (c : Call Event) (b : Bytes) → events.Valid s → c ≡ restore b → Passes R (all_calls R I) s c
      → events.Valid (I.meaning b) × (port s c ≡ gets (passed done) b (I.meaning b))
  accepted s c b v k z =
      let p = subst (λ (c : Call Event). Passes R (all_calls R I) s c) k z in
      (images.meaning_valid b p, rw k (L.restored s b v p))

  abbrev pub all-steps : Steps R (all_calls R I) port
  all-steps = record {
    Valid = events.Valid;
    Image = λ s b. I.image s ≡ b;
    finite = events.finite;
    fresh_valid = events.fresh_valid;
    number = number;
    refused = refused;
    rules = λ s c e k z. subst (λ (c : Call Event). Passes R (all_calls R I) s c) k z;
    next_valid = events.next_valid;
    passes = λ s c e v k z. rw k (events.passes s e v (subst (λ (c : Call Event). Passes R (all_calls R I) s c) k z));
    saved = λ s c l v k z. (I.image s, refl, rw k (L.saved s l v (subst (λ (c : Call Event). Passes R (all_calls R I) s c) k z)));
    image_passes = λ s t c b w k i. subst (λ (c : Call Event). Passes R (all_calls R I) s c) (sym k) (image_passes t b w i);
    restored = λ s t c b v w k i. rw k (restored s t b v w i);
    accepted = λ s c b v k z. let w = accepted s c b v k z in (I.meaning b, w.0, w.1);
  }
