-- Calls on a lent image do what the port does, over every list: a restore of a chain's image gives the chain back.
use Rattle.chain.specs.declared.Answer.{Answer}
use Rattle.refusal.specs.declared.Refusal.{Refusal}
use Rattle.std.specs.Prelude.{Result, Ok, Err}
use mathlib.Core.Path.{◌≡◌, refl, sym, ap, ◌∙◌}
use mathlib.Core.Bool.{Bool, true, false, cond}
use mathlib.Core.List.{List, []}
use lib.Dec.{eqb}
use Prim.Native.Nat.{ℕ, zero, suc}
use native.Mathlib.Omega.{arith}
use borrow.Author.Tests.{eq-eqb, eqb-true}
use lib.Ieee.{Float}
use lib.ListN.{length}
use Rattle.refusal.specs.Table.{number_of, code_of}
use Rattle.refusal.specs.declared.Refusal.TheVariants.{WrongLength}
use Rattle.demands.specs.Calls.{Log, empty, ◌▹◌, Call, event, save, restore, Reply, refusal, passed, answer, Step, gets}
use Rattle.demands.specs.Demands.{from}
use Rattle.demands.proofs.Demands.{from-valid}
use Rattle.chain.specs.declared.Chain.{Chain}
use Rattle.chain.specs.Chain.{Framed, Changed, fresh_of, frame_of, changed, unchanged, set_of, reset_of, layout_of}
use Rattle.rules.specs.Rules.{Event, frame, settings, reset, layout, Answered, rules, refuses, reply_of, noted_of}
use Rattle.rules.specs.Rules as events
use Rattle.chain.specs.Valid.{Valid}
use Rattle.rules.proofs.Laws.{refused, passes}
use Rattle.image.specs.Layout.{image_bytes}
use Rattle.image.specs.Image.{image, meaning, refuses_image, save_verdict, saved_in, restore_of}
use Rattle.image.specs.Port.{images, port}
use Rattle.image.specs.Port as images
use Rattle.image.proofs.Laws.{image-length, image-accepted, meaning_valid, present, restore-accepted, restore-unchanged, restore-image}
use Rattle.image.proofs.Plug.{all_laws}
use Rattle.freightpetal_c.specs.Lent.{open_of, code_in, Answered as Told, heard_in, framed_in, opened_frame, frame_in, saved_as, changed_in, opened_by, change_in, restore_in}
use Rattle.freightpetal_c.specs.Laws.{left_by, Done, done_by, lent_from, number_in, done_in, words_after, frame_done, chain_from, LentLaws}

-- a save into bytes of the right length writes the image
save-right : (c : Chain) (b : List ℕ) → length b ≡ image_bytes → saved_in c b ≡ image c
unfolding saved_in
save-right c b e = rw (eq-eqb (length b) image_bytes e)

passed-right : (b : List ℕ) → length b ≡ image_bytes → save_verdict b ≡ Ok tt
unfolding save_verdict
passed-right b e = rw (eq-eqb (length b) image_bytes e)

over-image : (c d : Chain) → Valid d → saved_in c (image d) ≡ image c
over-image c d v = save-right c (image d) (image-length d v)

-- a chain's image is opened as the chain
open-image : (c : Chain) → Valid c → open_of (image c) ≡ changed c
unfolding open_of
open-image c v = rw (eq-eqb (length (image c)) image_bytes (image-length c v)) (restore-image fresh_of c v)

-- ---- a refused call leaves the chain

not-suc : {n m : ℕ} → m ≡ suc n → m ≡ 0 → ⊥
not-suc e z = omega arith

stays : (c : Chain) (e : Event) (n : ℕ) → (events.port c e).seen.reply ≡ refusal n → (events.port c e).state ≡ c
stays c e n p = go (refuses c e) refl
  where
    go : (m : ℕ) → refuses c e ≡ m → (events.port c e).state ≡ c
    go zero z =
        let q : ◌≡◌ {A = Reply Answered} (refusal n) (passed (answer _)) = sym p ∙ ap (λ (s : Step Chain Answered). s.seen.reply) (passes c e z) in
        let y : ◌≡◌ {A = ℕ} 0 1 = cc in absurd (omega arith)
    go (suc m) z = ap (λ (s : Step Chain Answered). s.state) (refused c e (not-suc z))

-- ---- a call on a chain's image

module _ (c : Chain) (v : Valid c) where
  frame_on : (a : List ℕ) (key bed : List Float) → frame_in (image c) a key bed ≡ framed_in (image c) a (frame_of c key bed)
  unfolding frame_in
  frame_on a key bed = ap (λ (r : Changed). opened_frame (image c) a key bed r.chain r.outcome) (open-image c v)

  -- what a frame leaves, by its outcome
  frame-left : (a : List ℕ) (f : Framed) → ((n : ℕ) → reply_of f.outcome ≡ refusal n → f.chain ≡ c)
      → ((framed_in (image c) a f).code ≡ number_in (reply_of f.outcome)) × ((framed_in (image c) a f).bytes ≡ image f.chain)
  frame-left a f k = go f.outcome refl
    where
      go : (o : Result Answer Refusal) → f.outcome ≡ o → ((heard_in (image c) a f.chain o).code ≡ number_in (reply_of o)) × ((heard_in (image c) a f.chain o).bytes ≡ image f.chain)
      go (Ok x) e = (refl, over-image f.chain c v)
      go (Err r) e = (refl, ap image (sym (k (number_of r) (ap reply_of e))))

  change_left : (r : Changed) → ((n : ℕ) → noted_of r.outcome ≡ refusal n → r.chain ≡ c)
      → ((changed_in (image c) r).code ≡ number_in (noted_of r.outcome)) × ((changed_in (image c) r).bytes ≡ image r.chain)
  change_left r k = go r.outcome refl
    where
      go : (o : Result Unit Refusal) → r.outcome ≡ o → ((saved_as (image c) r.chain o).code ≡ number_in (noted_of o)) × ((saved_as (image c) r.chain o).bytes ≡ image r.chain)
      go (Ok _) e = (refl, over-image r.chain c v)
      go (Err n) e = (refl, ap image (sym (k (number_of n) (ap noted_of e))))

  change_on : (f : Chain → Changed) → change_in (image c) f ≡ changed_in (image c) (f c)
  unfolding change_in
  change_on f = ap (λ (r : Changed). opened_by (image c) f r.chain r.outcome) (open-image c v)

  left : (e : Event) → ((left_by (image c) e).code ≡ number_in (events.port c e).seen.reply) × ((left_by (image c) e).bytes ≡ image (events.port c e).state)
  left (frame key bed) = rw (frame_on [] key bed) (frame-left [] (frame_of c key bed) (stays c (frame key bed)))
  left (settings a) = rw (change_on (λ c. set_of c a.values)) (change_left (set_of c a.values) (stays c (settings a)))
  left (reset n) = rw (change_on (λ c. reset_of c n)) (change_left (reset_of c n) (stays c (reset n)))
  left (layout l) = rw (change_on (λ c. layout_of c l)) (change_left (layout_of c l) (stays c (layout l)))

  frame-words : (a : List ℕ) (f : Framed) → (framed_in (image c) a f).words ≡ words_after a (reply_of f.outcome)
  frame-words a f = go f.outcome
    where
      go : (o : Result Answer Refusal) → (heard_in (image c) a f.chain o).words ≡ words_after a (reply_of o)
      go (Ok x) = refl
      go (Err r) = refl

  frame-done : (a : List ℕ) (key bed : List Float) → frame_in (image c) a key bed ≡ frame_done a (events.port c (frame key bed))
  frame-done a key bed =
      let f = frame_of c key bed in
      let l = frame-left a f (stays c (frame key bed)) in
      frame_on a key bed ∙ (λ i. record { code = l.0 i; bytes = l.1 i; words = frame-words a f i })

-- ---- lent bytes that are an image, and lent bytes that are none

-- where the number is 0, the bytes are as long as an image, and an image
open-length : (b : List ℕ) → code_in b ≡ 0 → length b ≡ image_bytes
unfolding open_of
open-length b z = go (eqb (length b) image_bytes) refl z
  where
    go : (t : Bool) → eqb (length b) image_bytes ≡ t → code_of (cond t (restore_of fresh_of b) (unchanged fresh_of WrongLength)).outcome ≡ 0 → length b ≡ image_bytes
    go true e z = eqb-true (length b) image_bytes e
    go false e z = absurd (omega arith)

open_code : (b : List ℕ) → length b ≡ image_bytes → code_in b ≡ refuses_image b
unfolding open_of
open_code b l = rw (eq-eqb (length b) image_bytes l) (go (refuses_image b) refl)
  where
    go : (n : ℕ) → refuses_image b ≡ n → code_of (restore_of fresh_of b).outcome ≡ refuses_image b
    go zero z = ap (λ (r : Changed). code_of r.outcome) (restore-accepted b fresh_of z) ∙ sym z
    go (suc n) z =
        let r = restore-unchanged b fresh_of (not-suc z) in
        ap (λ (r : Changed). code_of r.outcome) r.2 ∙ sym r.1

image_code : (c : Chain) → Valid c → code_in (image c) ≡ 0
image_code c v = open_code (image c) (image-length c v) ∙ image-accepted c v

module _ (b : List ℕ) (n : code_in b ≡ 0 → ⊥) where
  closed-frame : (a : List ℕ) (key bed : List Float) → frame_in b a key bed ≡ record { code = code_in b; bytes = b; words = a }
  unfolding frame_in
  closed-frame a key bed = go (open_of b).outcome n
    where
      go : (v : Result Unit Refusal) → (code_of v ≡ 0 → ⊥) → opened_frame b a key bed (open_of b).chain v ≡ record { code = code_of v; bytes = b; words = a }
      go (Ok _) k = absurd (k refl)
      go (Err r) k = refl

  closed_change : (f : Chain → Changed) → change_in b f ≡ record { code = code_in b; bytes = b }
  unfolding change_in
  closed_change f = go (open_of b).outcome n
    where
      go : (v : Result Unit Refusal) → (code_of v ≡ 0 → ⊥) → opened_by b f (open_of b).chain v ≡ record { code = code_of v; bytes = b }
      go (Ok _) k = absurd (k refl)
      go (Err r) k = refl

  closed : (e : Event) → left_by b e ≡ record { code = code_in b; bytes = b }
  closed (frame key bed) = ap (λ (t : Told). record { code = t.code; bytes = t.bytes }) (closed-frame [] key bed)
  closed (settings a) = closed_change (λ c. set_of c a.values)
  closed (reset m) = closed_change (λ c. reset_of c m)
  closed (layout l) = closed_change (λ c. layout_of c l)

-- ---- any call on a chain's image

module _ (c : Chain) (v : Valid c) where
  save-done : (l : List ℕ) → done_by (image c) (save l) ≡ done_in (port c (save l))
  unfolding save_verdict saved_in
  save-done l = rw (image-length c v) (go (eqb (length l) image_bytes))
    where
      go : (t : Bool) → record { code = cond t 0 6; beside = cond t (image c) l; bytes = image c }
          ≡ done_in (gets (images.reply_of (cond t (Ok tt) (Err WrongLength))) (cond t (image c) l) c)
      go true = refl
      go false = refl

  restore-done : (b : List ℕ) → done_by (image c) (restore b) ≡ done_in (port c (restore b))
  unfolding restore_in
  restore-done b = rw (eq-eqb (length (image c)) image_bytes (image-length c v)) (go (refuses_image b) refl)
    where
      go : (n : ℕ) → refuses_image b ≡ n
          → record { code = (changed_in (image c) (restore_of fresh_of b)).code; beside = b; bytes = (changed_in (image c) (restore_of fresh_of b)).bytes } ≡ done_in (port c (restore b))
      go zero z =
          rw (restore-accepted b fresh_of z, restore-accepted b c z)
          (λ i. record { code = 0; beside = b; bytes = over-image (meaning b) c v i })
      go (suc n) z =
          let r = restore-unchanged b fresh_of (not-suc z) in
          let q = restore-unchanged b c (not-suc z) in
          rw (r.2, q.2)
          (λ i. record { code = (sym r.1 ∙ q.1) i; beside = b; bytes = image c })

  done : (d : Call Event) → done_by (image c) d ≡ done_in (port c d)
  done (event (frame key bed)) = λ i. record { code = (left c v (frame key bed)).0 i; beside = []; bytes = (left c v (frame key bed)).1 i }
  done (event (settings a)) = λ i. record { code = (left c v (settings a)).0 i; beside = []; bytes = (left c v (settings a)).1 i }
  done (event (reset n)) = λ i. record { code = (left c v (reset n)).0 i; beside = []; bytes = (left c v (reset n)).1 i }
  done (event (layout l)) = λ i. record { code = (left c v (layout l)).0 i; beside = []; bytes = (left c v (layout l)).1 i }
  done (save l) = save-done l
  done (restore b) = restore-done b

-- ---- over lists

module _ (c : Chain) (v : Valid c) where
  valid : (cs : Log (Call Event)) → Valid (chain_from c cs)
  valid cs = from-valid rules images port all_laws c cs v

  held : (cs : Log (Call Event)) → lent_from (image c) cs ≡ image (chain_from c cs)
  unfolding lent_from from
  held empty = refl
  held (cs ▹ d) = ap (λ (b : List ℕ). (done_by b d).bytes) (held cs) ∙ ap (λ (t : Done). t.bytes) (done (chain_from c cs) (valid cs) d)

  next-done : (cs : Log (Call Event)) (d : Call Event) → done_by (lent_from (image c) cs) d ≡ done_in (port (chain_from c cs) d)
  next-done cs d = ap (λ (b : List ℕ). done_by b d) (held cs) ∙ done (chain_from c cs) (valid cs) d

  next-frame : (cs : Log (Call Event)) (key bed : List Float) (a : List ℕ)
      → frame_in (lent_from (image c) cs) a key bed ≡ frame_done a (port (chain_from c cs) (event (frame key bed)))
  next-frame cs key bed a =
      ap (λ (b : List ℕ). frame_in b a key bed) (held cs) ∙ frame-done (chain_from c cs) (valid cs) a key bed

pub lent-laws : LentLaws
lent-laws = record {
  fresh = λ b n. λ i. record { code = ap code_of (passed-right b n) i; bytes = save-right fresh_of b n i };
  refused = λ b e n. closed b n e;
  refused_frame = λ b a key bed n. closed-frame b n a key bed;
  means = λ b z. let l = open-length b z in (meaning b, meaning_valid b, present b (sym (open_code b l) ∙ z) l);
  bytes = held;
  accepted = λ c v cs. ap code_in (held c v cs) ∙ image_code (chain_from c cs) (valid c v cs);
  calls = next-done;
  frames = next-frame;
}
