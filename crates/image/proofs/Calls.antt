-- What a save and a restore leave, from what their steps do.
use Rattle.refusal.specs.declared.Refusal.{Refusal}
use Rattle.std.specs.Prelude.{Some, None, Result, Ok, Err}
use mathlib.Core.Path.{◌≡◌, refl, sym, ap, ◌∙◌}
use mathlib.Core.Bool.{Bool, true, false, cond}
use mathlib.Core.List.{List}
use Prim.Native.Nat.{ℕ, ◌*◌, ◌≤◌}
use native.Mathlib.Omega.{arith}
use borrow.Author.Tests.{eq-eqb, ne_eqb, eqb-true}
use lib.Dec.{eqb}
use lib.ListN.{length}
use Rattle.std.specs.Prelude.{bytes_eq}
use Rattle.std.proofs.lemmas.Slice.Eq.{bytes_eq-Decides}
use Rattle.blocks.specs.Lists.{Bytes, laid}
use Rattle.blocks.specs.Words.{block_bytes, blocks_in, first_bad}
use Rattle.blocks.specs.Image.{image_of, payload_of}
use Rattle.blocks.proofs.Lists.{laid-all}
use Rattle.blocks.proofs.Images.{image-laid}
use Rattle.refusal.specs.declared.Refusal.TheVariants.{WrongLength, BadCheck, ForeignImage}
use Rattle.chain.specs.declared.Chain.{Chain}
use Rattle.chain.specs.Chain.{Changed, changed, unchanged}
use Rattle.chain.specs.Base.{widened, base_of}
use Rattle.codec.specs.Run.{Run}
use Rattle.image.specs.Layout.{block_count, image_bytes, payload_words}
use Rattle.image.specs.Edition.{Edition, image_in, ours_in}
use Rattle.image.specs.Edition1.{base, first_edition}
use Rattle.image.specs.Edition1 as first
use Rattle.image.specs.Chain.{chain, second_edition}
use Rattle.image.specs.declared.EditionNumber.{EditionNumber}
use Rattle.image.specs.declared.EditionNumber.TheVariants.{One, Two}
use Rattle.image.specs.Image.{edition_of, words_by, read_by, meaning, restored_in, save_verdict, saved_in, restore_of}
use Rattle.image.proofs.Edition as edition
use Rattle.image.proofs.Laws.{first-laws, second-laws, not_old, meaning_old, meaning-new, restore_old, restore-new}

-- ---- a save

pub save-wrong : (c : Chain) (b : List ℕ) → (length b ≡ image_bytes → ⊥) → (◌≡◌ {A = Result Unit Refusal} (Err WrongLength) (save_verdict b)) × (b ≡ saved_in c b)
unfolding save_verdict saved_in
save-wrong c b h = (rw (ne_eqb (length b) image_bytes h), rw (ne_eqb (length b) image_bytes h))

pub save-right : (c : Chain) (b b' w w' : List ℕ) → length b ≡ image_bytes → length w ≡ payload_words → Run w 0 payload_words (chain.enc c) w'
    → b' ≡ laid b 0 (image_of (blocks_in b) w') → (◌≡◌ {A = Result Unit Refusal} (Ok tt) (save_verdict b)) × (b' ≡ saved_in c b)
unfolding save_verdict saved_in image_in
save-right c b b' w w' e l r h =
    let all : w' ≡ chain.enc c = r.over.is ∙ laid-all w (chain.enc c) (l ∙ sym r.size) in (
      rw (eq-eqb (length b) image_bytes e),
      rw (eq-eqb (length b) image_bytes e) (h ∙ image-laid block_count w' b e ∙ ap (image_of block_count) all),
    )

-- ---- the edition by the length

abbrev bytes_of : EditionNumber → ℕ
bytes_of One = first.image_bytes
bytes_of Two = image_bytes

module _ (n : ℕ) where
  length_of : (e : EditionNumber) → Some e ≡ edition_of n → n ≡ bytes_of e
  length_of e h = go (eqb n image_bytes) refl (eqb n first.image_bytes) refl h
    where
      go : (x : Bool) → eqb n image_bytes ≡ x → (y : Bool) → eqb n first.image_bytes ≡ y → Some e ≡ cond x (Some Two) (cond y (Some One) None) → n ≡ bytes_of e
      go true p y q k = let g : Two ≡ e = cc in eqb-true n image_bytes p ∙ ap bytes_of g
      go false p true q k = let g : One ≡ e = cc in eqb-true n first.image_bytes q ∙ ap bytes_of g
      go false p false q k = absurd (cc)

  no-edition : None ≡ edition_of n → (eqb n image_bytes ≡ false) × (eqb n first.image_bytes ≡ false)
  no-edition h = go (eqb n image_bytes) refl (eqb n first.image_bytes) refl h
    where
      go : (x : Bool) → eqb n image_bytes ≡ x → (y : Bool) → eqb n first.image_bytes ≡ y → None ≡ cond x (Some Two) (cond y (Some One) None)
          → (eqb n image_bytes ≡ false) × (eqb n first.image_bytes ≡ false)
      go true p y q k = absurd (cc)
      go false p true q k = absurd (cc)
      go false p false q k = (p, q)

-- ---- a restore

module _ (old : Chain) (b : List ℕ) where
  -- by one edition's rules, for bytes of its length
  module _ {A : Type 0} (e : Edition A) (l : length b ≡ block_bytes * e.blocks) (new : Chain) where
    bad_in : (first_bad b ≡ e.blocks → ⊥) → restored_in e b old new ≡ unchanged old BadCheck
    bad_in h = rw (eq-eqb (length b) (block_bytes * e.blocks) l, ne_eqb (first_bad b) e.blocks h)

    module _ (f : first_bad b ≡ e.blocks) where
      good_in : ours_in e b ≡ true → restored_in e b old new ≡ changed new
      good_in h = rw (eq-eqb (length b) (block_bytes * e.blocks) l, eq-eqb (first_bad b) e.blocks f, h)

      foreign_in : ours_in e b ≡ false → restored_in e b old new ≡ unchanged old ForeignImage
      foreign_in h = rw (eq-eqb (length b) (block_bytes * e.blocks) l, eq-eqb (first_bad b) e.blocks f, h)

  by_old : length b ≡ first.image_bytes → restored_in first_edition b old (meaning b) ≡ restore_of old b
  by_old l = sym (restore_old b old (eq-eqb (length b) first.image_bytes l))

  by-new : length b ≡ image_bytes → restored_in second_edition b old (meaning b) ≡ restore_of old b
  by-new l = sym (restore-new b old (not_old b l))

  pub wrong_length : None ≡ edition_of (length b) → ◌≡◌ {A = Changed} (unchanged old WrongLength) (restore_of old b)
  wrong_length h =
      let t = no-edition (length b) h in
      sym (restore-new b old t.1 ∙ rw t.0)

  pub bad_check : (e : EditionNumber) → Some e ≡ edition_of (length b) → (first_bad b ≡ blocks_in b → ⊥)
      → ◌≡◌ {A = Changed} (unchanged old BadCheck) (restore_of old b)
  bad_check One i h =
      let l : length b ≡ first.image_bytes = length_of (length b) One i in
      let k : blocks_in b ≡ first.block_count = omega arith in
      sym (bad_in first_edition l (meaning b) (λ p. h (p ∙ sym k))) ∙ by_old l
  bad_check Two i h =
      let l : length b ≡ image_bytes = length_of (length b) Two i in
      let k : blocks_in b ≡ block_count = omega arith in
      sym (bad_in second_edition l (meaning b) (λ p. h (p ∙ sym k))) ∙ by-new l

  -- the payload w, in the places z; the chain that it is read as; its words, in the places z too; and whether they are w
  module _ (z w again : List ℕ) (new : Chain) (t : Bool) (s : Bytes b) (f : first_bad b ≡ blocks_in b)
      (lz : length z ≡ payload_words) (p : w ≡ laid z 0 (payload_of b)) (u : t ≡ bytes_eq again w) where
    -- ---- edition 1
    module _ (l : length b ≡ first.image_bytes) (r : new ≡ read_by One w) (a : again ≡ laid z 0 (words_by One new)) where
      checks_old : first_bad b ≡ first.block_count
      checks_old = let k : blocks_in b ≡ first.block_count = omega arith in f ∙ k

      again_old : again ≡ laid z 0 (base.enc (base.dec w 0))
      again_old = a ∙ ap (λ (x : Chain). laid z 0 (base.enc (base_of x))) r

      room_old : 63 * first_edition.blocks ≤ length z
      room_old = omega arith

      test_old : ours_in first_edition b ≡ t
      test_old = edition.test first-laws b s l checks_old z w again (base.dec w 0) room_old p refl again_old ∙ sym u

      read_old : t ≡ true → meaning b ≡ new
      read_old h =
          meaning_old b (eq-eqb (length b) first.image_bytes l)
          ∙ ap {B = Chain} widened (sym (edition.is_read first-laws b s l checks_old z w again (base.dec w 0) room_old p refl again_old ((bytes_eq-Decides again w).0 (sym u ∙ h))))
          ∙ sym r

      good_old : t ≡ true → ◌≡◌ {A = Changed} (changed new) (restore_of old b)
      good_old h = ap {B = Changed} changed (sym (read_old h)) ∙ sym (good_in first_edition l (meaning b) checks_old (test_old ∙ h)) ∙ by_old l

      foreign_old : t ≡ false → ◌≡◌ {A = Changed} (unchanged old ForeignImage) (restore_of old b)
      foreign_old h = sym (foreign_in first_edition l (meaning b) checks_old (test_old ∙ h)) ∙ by_old l

    -- ---- edition 2
    module _ (l : length b ≡ image_bytes) (r : new ≡ read_by Two w) (a : again ≡ laid z 0 (words_by Two new)) where
      checks_new : first_bad b ≡ block_count
      checks_new = let k : blocks_in b ≡ block_count = omega arith in f ∙ k

      room-new : 63 * second_edition.blocks ≤ length z
      room-new = omega arith

      test-new : ours_in second_edition b ≡ t
      test-new = edition.test second-laws b s l checks_new z w again new room-new p r a ∙ sym u

      read-new : t ≡ true → meaning b ≡ new
      read-new h = meaning-new b (not_old b l) ∙ sym (edition.is_read second-laws b s l checks_new z w again new room-new p r a ((bytes_eq-Decides again w).0 (sym u ∙ h)))

      good-new : t ≡ true → ◌≡◌ {A = Changed} (changed new) (restore_of old b)
      good-new h = ap {B = Changed} changed (sym (read-new h)) ∙ sym (good_in second_edition l (meaning b) checks_new (test-new ∙ h)) ∙ by-new l

      foreign-new : t ≡ false → ◌≡◌ {A = Changed} (unchanged old ForeignImage) (restore_of old b)
      foreign-new h = sym (foreign_in second_edition l (meaning b) checks_new (test-new ∙ h)) ∙ by-new l

    -- ---- either
    pub good : (e : EditionNumber) → Some e ≡ edition_of (length b) → new ≡ read_by e w → again ≡ laid z 0 (words_by e new)
        → t ≡ true → ◌≡◌ {A = Changed} (changed new) (restore_of old b)
    good One i r a h = good_old (length_of (length b) One i) r a h
    good Two i r a h = good-new (length_of (length b) Two i) r a h

    pub foreign : (e : EditionNumber) → Some e ≡ edition_of (length b) → new ≡ read_by e w → again ≡ laid z 0 (words_by e new)
        → t ≡ false → ◌≡◌ {A = Changed} (unchanged old ForeignImage) (restore_of old b)
    foreign One i r a h = foreign_old (length_of (length b) One i) r a h
    foreign Two i r a h = foreign-new (length_of (length b) Two i) r a h
