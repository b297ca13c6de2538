-- The laws of images of both editions: what is saved comes back, accepted bytes restore as what they mean, and a refusal changes nothing.
use mathlib.Core.Path.{◌≡◌, refl, sym, ap, ◌∙◌, subst}
use mathlib.Core.Bool.{Bool, true, false, cond}
use mathlib.Core.Logic.{◌⊎◌, inl, inr}
use mathlib.Core.List.{List}
use Prim.Native.Nat.{ℕ}
use native.Mathlib.Omega.{arith}
use borrow.Author.Tests.{eq-eqb, ne_eqb}
use lib.Dec.{eqb}
use lib.ListN.{length}
use Rattle.blocks.specs.Words.{blocks_in, first_bad}
use Rattle.blocks.specs.Image.{OneWord}
use Rattle.codec.proofs.Accepted.{enc_inj}
use Rattle.refusal.specs.declared.Refusal.{Refusal}
use Rattle.refusal.specs.declared.Refusal.TheVariants.{WrongLength, BadCheck}
use Rattle.refusal.specs.Table.{number_of, InTable}
use Rattle.demands.specs.Calls.{refusal, passed, done, Step, gets}
use Rattle.chain.specs.declared.Chain.{Chain}
use Rattle.chain.specs.Chain.{Changed, changed, unchanged}
use Rattle.chain.specs.Base.{Base, widened}
use Rattle.chain.specs.Valid.{Valid}
use Rattle.image.specs.Layout.{block_count, image_bytes}
use Rattle.image.specs.Edition.{image_in, read_in, refuses_in}
use Rattle.image.specs.Edition1.{first_edition}
use Rattle.image.specs.Edition1 as first
use Rattle.image.specs.Chain.{second_edition}
use Rattle.image.specs.Image.{words_of, image, old_length, meaning, refuses_image, save_verdict, saved_in, restored_in, restore_of}
use Rattle.image.specs.Port.{reply_of, on_save, on_restore, refuses_save}
use Rattle.image.proofs.Codecs.{size-base, size-chain, base-laws, chain_laws}
use Rattle.image.proofs.Valid.{base-valid, valid-base, chain-valid, valid-chain}
use Rattle.image.proofs.Edition.{EditionLaws}
use Rattle.image.proofs.Edition as edition

pub first-laws : EditionLaws first_edition
first-laws = record { words = base-laws; size = size-base }

pub second-laws : EditionLaws second_edition
second-laws = record { words = chain_laws; size = size-chain }

-- the words of a valid chain tell it from any other
pub bits_inj : (s t : Chain) → Valid s → Valid t → words_of s ≡ words_of t → s ≡ t
unfolding words_of
bits_inj s t v u e = enc_inj chain_laws s t (valid-chain s v) (valid-chain t u) e

-- ---- some bytes, by their length

-- not as long as an image of edition 1
pub not_old : (b : List ℕ) → length b ≡ image_bytes → old_length b ≡ false
not_old b l = ne_eqb (length b) first.image_bytes (λ h. omega arith)

module _ (b : List ℕ) where
  module _ (past : old_length b ≡ true) where
    pub number_old : refuses_image b ≡ refuses_in first_edition b
    unfolding refuses_image
    number_old = rw past

    pub meaning_old : meaning b ≡ widened (read_in first_edition b)
    unfolding meaning
    meaning_old = rw past

  module _ (new : old_length b ≡ false) where
    pub number-new : refuses_image b ≡ refuses_in second_edition b
    unfolding refuses_image
    number-new = rw new

    pub meaning-new : meaning b ≡ read_in second_edition b
    unfolding meaning
    meaning-new = rw new

  -- whatever the bytes, they are read as a valid chain
  pub meaning_valid : Valid (meaning b)
  meaning_valid = go (old_length b) refl
    where
      go : (t : Bool) → old_length b ≡ t → Valid (meaning b)
      go true e = subst Valid (sym (meaning_old e)) (base-valid (read_in first_edition b) (edition.read_ok first-laws b))
      go false e = subst Valid (sym (meaning-new e)) (chain-valid (read_in second_edition b) (edition.read_ok second-laws b))

  -- accepted bytes as long as an image that is saved are the image of what they mean
  pub present : refuses_image b ≡ 0 → length b ≡ image_bytes → image (meaning b) ≡ b
  present h l =
      let n = not_old b l in
      ap image (meaning-new n) ∙ edition.accepted-image second-laws b (sym (number-new n) ∙ h)

  pub accepted-image : refuses_image b ≡ 0 → length b ≡ image_bytes → (s : Chain) × Valid s × (image s ≡ b)
  accepted-image h l = (meaning b, meaning_valid, present h l)

  -- those of edition 1 are the edition 1 image of a chain without channels, and mean it with one at 0, 0
  pub accepted_old : length b ≡ first.image_bytes → refuses_image b ≡ 0
      → (s : Base) × Valid (widened s) × (image_in first_edition s ≡ b) × (meaning b ≡ widened s)
  accepted_old l h =
      let p = eq-eqb (length b) first.image_bytes l in (
        read_in first_edition b,
        base-valid (read_in first_edition b) (edition.read_ok first-laws b),
        edition.accepted-image first-laws b (sym (number_old p) ∙ h),
        meaning_old p,
      )

  module _ (old : Chain) where
    -- a restore goes by the edition of that length
    abbrev by : Bool → Changed
    by t = cond t (restored_in first_edition b old (meaning b)) (restored_in second_edition b old (meaning b))

    pub restore_old : old_length b ≡ true → restore_of old b ≡ restored_in first_edition b old (meaning b)
    unfolding restore_of
    restore_old e = ap {B = Changed} by e

    pub restore-new : old_length b ≡ false → restore_of old b ≡ restored_in second_edition b old (meaning b)
    unfolding restore_of
    restore-new e = ap {B = Changed} by e

    pub restore-accepted : refuses_image b ≡ 0 → restore_of old b ≡ changed (meaning b)
    restore-accepted h = go (old_length b) refl
      where
        go : (t : Bool) → old_length b ≡ t → restore_of old b ≡ changed (meaning b)
        go true e = restore_old e ∙ edition.restored-accepted first-laws b old (meaning b) (sym (number_old e) ∙ h)
        go false e = restore-new e ∙ edition.restored-accepted second-laws b old (meaning b) (sym (number-new e) ∙ h)

    -- a refusal changes nothing
    pub restore-unchanged : (refuses_image b ≡ 0 → ⊥) → (r : Refusal) × (refuses_image b ≡ number_of r) × (restore_of old b ≡ unchanged old r)
    restore-unchanged h = go (old_length b) refl
      where
        go : (t : Bool) → old_length b ≡ t → (r : Refusal) × (refuses_image b ≡ number_of r) × (restore_of old b ≡ unchanged old r)
        go true e =
            let u = edition.restored-refused first-laws b old (meaning b) (λ k. h (number_old e ∙ k)) in
            (u.0, number_old e ∙ u.1, restore_old e ∙ u.2)
        go false e =
            let u = edition.restored-refused second-laws b old (meaning b) (λ k. h (number-new e ∙ k)) in
            (u.0, number-new e ∙ u.1, restore-new e ∙ u.2)

  pub image_number : (refuses_image b ≡ 0 → ⊥) → InTable (refuses_image b)
  image_number h = let u = restore-unchanged (meaning b) h in (u.0, u.1)

  -- ---- 6 and 7

  pub wrong_length : (length b ≡ first.image_bytes → ⊥) → (length b ≡ image_bytes → ⊥) → refuses_image b ≡ number_of WrongLength
  wrong_length g h = number-new (ne_eqb (length b) first.image_bytes g) ∙ edition.wrong_length second-laws b h

  pub bad_check : (length b ≡ first.image_bytes) ⊎ (length b ≡ image_bytes) → (first_bad b ≡ blocks_in b → ⊥) → refuses_image b ≡ number_of BadCheck
  bad_check (inl l) h =
      let k : blocks_in b ≡ first.block_count = omega arith in
      number_old (eq-eqb (length b) first.image_bytes l) ∙ edition.bad_check first-laws b l (λ p. h (p ∙ sym k))
  bad_check (inr l) h =
      let k : blocks_in b ≡ block_count = omega arith in
      number-new (not_old b l) ∙ edition.bad_check second-laws b l (λ p. h (p ∙ sym k))

-- ---- a valid chain

module _ (c : Chain) (v : Valid c) where
  pub image-length : length (image c) ≡ image_bytes
  image-length = edition.image-length second-laws c (valid-chain c v)

  image-new : old_length (image c) ≡ false
  image-new = not_old (image c) image-length

  -- its image is accepted, and means it
  pub image-accepted : refuses_image (image c) ≡ 0
  image-accepted = number-new (image c) image-new ∙ edition.image-accepted second-laws c (valid-chain c v)

  pub meaning_image : meaning (image c) ≡ c
  meaning_image = meaning-new (image c) image-new ∙ edition.read-image second-laws c (valid-chain c v)

-- two valid chains have one image exactly where they are equal
pub same-image : (s t : Chain) → Valid s → Valid t → (image s ≡ image t → s ≡ t) × (s ≡ t → image s ≡ image t)
same-image s t v u = ((λ e. sym (meaning_image s v) ∙ ap meaning e ∙ meaning_image t u), λ e. ap image e)

-- a saved chain comes back, whatever chain was there
pub restore-image : (old c : Chain) → Valid c → restore_of old (image c) ≡ changed c
restore-image old c v = restore-accepted (image c) old (image-accepted c v) ∙ ap {B = Changed} changed (meaning_image c v)

-- what edition 1 wrote of a chain is accepted, and means it with one channel at 0, 0
pub image_old : (s : Base) → Valid (widened s) → (refuses_image (image_in first_edition s) ≡ 0) × (meaning (image_in first_edition s) ≡ widened s)
image_old s v =
    let b = image_in first_edition s in
    let p = eq-eqb (length b) first.image_bytes (edition.image-length first-laws s (valid-base s v)) in (
      number_old b p ∙ edition.image-accepted first-laws s (valid-base s v),
      meaning_old b p ∙ ap {B = Chain} widened (edition.read-image first-laws s (valid-base s v)),
    )

-- ---- a change within a single word of bytes of either edition whose checks hold is always caught, with 7

module _ (k : ℕ) (b b' : List ℕ) (one : OneWord k b b') where
  pub one-word-refused : (length b ≡ first.image_bytes) ⊎ (length b ≡ image_bytes) → first_bad b ≡ blocks_in b → refuses_image b' ≡ number_of BadCheck
  one-word-refused (inl l) f =
      let n : blocks_in b ≡ first.block_count = omega arith in
      number_old b' (eq-eqb (length b') first.image_bytes (one.size ∙ l)) ∙ edition.one-word-refused first-laws k b b' one l (f ∙ n)
  one-word-refused (inr l) f =
      let n : blocks_in b ≡ block_count = omega arith in
      number-new b' (not_old b' (one.size ∙ l)) ∙ edition.one-word-refused second-laws k b b' one l (f ∙ n)

  -- accepted bytes are such bytes
  pub accepted-word-refused : refuses_image b ≡ 0 → refuses_image b' ≡ number_of BadCheck
  accepted-word-refused h = go (old_length b) refl
    where
      go : (t : Bool) → old_length b ≡ t → refuses_image b' ≡ number_of BadCheck
      go true e =
          let a = sym (number_old b e) ∙ h in
          let l = edition.accepted-length first-laws b a in
          let n : blocks_in b ≡ first.block_count = omega arith in
          one-word-refused (inl l) (edition.accepted_checks first-laws b a ∙ sym n)
      go false e =
          let a = sym (number-new b e) ∙ h in
          let l = edition.accepted-length second-laws b a in
          let n : blocks_in b ≡ block_count = omega arith in
          one-word-refused (inr l) (edition.accepted_checks second-laws b a ∙ sym n)

-- ---- the two calls as steps of a port

module _ {Answer : Type 0} (s : Chain) where
  pub saved : (l : List ℕ) → refuses_save l ≡ 0 → ◌≡◌ {A = Step Chain Answer} (on_save s l) (gets (passed done) (image s) s)
  unfolding save_verdict saved_in
  saved l = go (eqb (length l) image_bytes) refl
    where
      go : (x : Bool) → eqb (length l) image_bytes ≡ x → cond x 0 (number_of WrongLength) ≡ 0 → ◌≡◌ {A = Step Chain Answer} (on_save s l) (gets (passed done) (image s) s)
      go true q e = rw q
      go false q e = absurd (omega arith)

  pub save_refused : (l : List ℕ) → (refuses_save l ≡ 0 → ⊥) → ◌≡◌ {A = Step Chain Answer} (on_save s l) (gets (refusal (refuses_save l)) l s)
  unfolding save_verdict saved_in
  save_refused l = go (eqb (length l) image_bytes) refl
    where
      go : (x : Bool) → eqb (length l) image_bytes ≡ x → (cond x 0 (number_of WrongLength) ≡ 0 → ⊥) → ◌≡◌ {A = Step Chain Answer} (on_save s l) (gets (refusal (refuses_save l)) l s)
      go true q h = absurd (h refl)
      go false q h = rw q

  pub restored : (b : List ℕ) → refuses_image b ≡ 0 → ◌≡◌ {A = Step Chain Answer} (on_restore s b) (gets (passed done) b (meaning b))
  restored b e = ap (λ (r : Changed). gets (reply_of r.outcome) b r.chain) (restore-accepted b s e)

  pub restore_refused : (b : List ℕ) → (refuses_image b ≡ 0 → ⊥) → ◌≡◌ {A = Step Chain Answer} (on_restore s b) (gets (refusal (refuses_image b)) b s)
  restore_refused b h =
      let u = restore-unchanged b s h in
      ap (λ (r : Changed). gets (reply_of r.outcome) b r.chain) u.2 ∙ ap (λ (n : ℕ). gets (refusal n) b s) (sym u.1)
