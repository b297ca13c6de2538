-- The laws of any edition: what is written comes back, accepted bytes are the image of what is read, a change within one word is caught, and refusal 8
-- says that the words are not those of a good state. The code compares words; that comes to the same as comparing bytes.
use mathlib.Core.Path.{◌≡◌, refl, sym, ap, ◌∙◌, subst}
use mathlib.Core.Bool.{Bool, true, false, not, cond}
use mathlib.Core.List.{List, [], ◌∷◌}
use Prim.Native.Nat.{ℕ, ◌*◌, ◌/◌, ◌≤◌, ◌<◌}
use native.Mathlib.Nat.{zero-add}
use native.Mathlib.Omega.{arith}
use borrow.Author.Tests.{eq-eqb, ne_eqb}
use lib.ListN.{length, take, get_or}
use lib.Seq.{get_or-take}
use Rattle.std.specs.Prelude.{bytes_eq}
use Rattle.std.proofs.lemmas.Slice.Eq.{bytes_eq-Decides}
use Rattle.blocks.specs.Lists.{Bytes, laid}
use Rattle.blocks.specs.Words.{block_bytes, block_words, checked_words, blocks_in, first_bad}
use Rattle.blocks.specs.Image.{payload_of, OneWord}
use Rattle.blocks.proofs.Lists.{laid-start, same-both}
use Rattle.blocks.proofs.Images as images
use Rattle.blocks.proofs.Single.{inside, one-word_caught}
use Rattle.codec.specs.Codec.{CodecLaws, Here}
use Rattle.codec.proofs.Accepted.{dec-enc, accepted}
use Rattle.codec.proofs.Again.{Iff, Reads, reads_all}
use Rattle.refusal.specs.declared.Refusal.{Refusal}
use Rattle.refusal.specs.declared.Refusal.TheVariants.{WrongLength, BadCheck, ForeignImage}
use Rattle.refusal.specs.Table.{number_of, ◌means◌, first_number}
use Rattle.chain.specs.declared.Chain.{Chain}
use Rattle.chain.specs.Chain.{Changed, changed, unchanged}
use Rattle.image.specs.Edition.{Edition, image_in, read_in, length_in, checks_in, ours_in, refuses_in}
use Rattle.image.specs.Image.{restored_in}

pub record EditionLaws {A : Type 0} (e : Edition A) : Type 0 where
  pub words : CodecLaws e.words
  pub size : e.words.size ≡ checked_words * e.blocks

-- the specification's number by the three tests: length, checks, words
abbrev ruling : Bool → Bool → Bool → ℕ
ruling x y z = first_number (not x means WrongLength ∷ not y means BadCheck ∷ not z means ForeignImage ∷ [])

abbrev judged : Chain → Chain → Bool → Bool → Bool → Changed
judged old new x y z = cond x (cond y (cond z (changed new) (unchanged old ForeignImage)) (unchanged old BadCheck)) (unchanged old WrongLength)

module _ {A : Type 0} {e : Edition A} (q : EditionLaws e) where
  -- ---- a good state

  module _ (s : A) (ok : e.words.Ok s) where
    enc-length : length (e.words.enc s) ≡ checked_words * e.blocks
    enc-length = q.words.size_is s ok ∙ q.size

    pub image-length : length (image_in e s) ≡ block_bytes * e.blocks
    unfolding image_in
    image-length = images.image-length (e.words.enc s) e.blocks

    pub image_checks : first_bad (image_in e s) ≡ e.blocks
    unfolding image_in
    image_checks = images.image-first (e.words.enc s) (q.words.small s ok) e.blocks

    image-payload : payload_of (image_in e s) ≡ e.words.enc s
    unfolding image_in
    image-payload = images.image-payload (e.words.enc s) (q.words.small s ok) e.blocks enc-length

    -- it is read from its image
    pub read-image : read_in e (image_in e s) ≡ s
    unfolding read_in
    read-image = ap (λ (l : List ℕ). e.words.dec l 0) image-payload ∙ dec-enc q.words s ok

    image_ours : ours_in e (image_in e s) ≡ true
    unfolding ours_in
    image_ours = rw read-image ((bytes_eq-Decides (image_in e s) (image_in e s)).1 refl)

    -- its image is accepted
    pub image-accepted : refuses_in e (image_in e s) ≡ 0
    unfolding refuses_in
    image-accepted =
        rw (eq-eqb (length (image_in e s)) (block_bytes * e.blocks) image-length, eq-eqb (first_bad (image_in e s)) e.blocks image_checks, image_ours)

  -- ---- some bytes

  module _ (b : List ℕ) where
    -- whatever the bytes, a good state is read
    pub read_ok : e.words.Ok (read_in e b)
    unfolding read_in
    read_ok = q.words.sound (payload_of b) 0

    accepted_ours : refuses_in e b ≡ 0 → ours_in e b ≡ true
    unfolding refuses_in
    accepted_ours = go (length_in e b) (checks_in e b) (ours_in e b) refl
      where
        go : (x y z : Bool) → ours_in e b ≡ z → ruling x y z ≡ 0 → ours_in e b ≡ true
        go true true true p h = p
        go true true false p h = absurd (omega arith)
        go true false z p h = absurd (omega arith)
        go false y z p h = absurd (omega arith)

    -- accepted bytes are the image of the state that is read
    pub accepted-image : refuses_in e b ≡ 0 → image_in e (read_in e b) ≡ b
    accepted-image h = (bytes_eq-Decides (image_in e (read_in e b)) b).0 (unfold ours_in in accepted_ours h)

    -- so their length is an image's, and their checks hold
    pub accepted-length : refuses_in e b ≡ 0 → length b ≡ block_bytes * e.blocks
    accepted-length h = sym (ap length (accepted-image h)) ∙ image-length (read_in e b) read_ok

    pub accepted_checks : refuses_in e b ≡ 0 → first_bad b ≡ e.blocks
    accepted_checks h = sym (ap first_bad (accepted-image h)) ∙ image_checks (read_in e b) read_ok

    module _ (old new : Chain) where
      pub restored-accepted : refuses_in e b ≡ 0 → restored_in e b old new ≡ changed new
      restored-accepted h =
          rw (eq-eqb (length b) (block_bytes * e.blocks) (accepted-length h), eq-eqb (first_bad b) e.blocks (accepted_checks h), accepted_ours h)

      -- a refusal changes nothing
      pub restored-refused : (refuses_in e b ≡ 0 → ⊥) → (r : Refusal) × (refuses_in e b ≡ number_of r) × (restored_in e b old new ≡ unchanged old r)
      unfolding refuses_in
      restored-refused = go (length_in e b) (checks_in e b) (ours_in e b)
        where
          go : (x y z : Bool) → (ruling x y z ≡ 0 → ⊥) → (r : Refusal) × (ruling x y z ≡ number_of r) × (judged old new x y z ≡ unchanged old r)
          go true true true h = absurd (h refl)
          go true true false h = (ForeignImage, refl, refl)
          go true false z h = (BadCheck, refl, refl)
          go false y z h = (WrongLength, refl, refl)

    pub wrong_length : (length b ≡ block_bytes * e.blocks → ⊥) → refuses_in e b ≡ number_of WrongLength
    unfolding refuses_in
    wrong_length h = rw (ne_eqb (length b) (block_bytes * e.blocks) h)

    pub bad_check : length b ≡ block_bytes * e.blocks → (first_bad b ≡ e.blocks → ⊥) → refuses_in e b ≡ number_of BadCheck
    unfolding refuses_in
    bad_check l h = rw (eq-eqb (length b) (block_bytes * e.blocks) l, ne_eqb (first_bad b) e.blocks h)

  -- ---- a change within a single word of bytes whose checks hold is always caught, with 7

  pub one-word-refused : (k : ℕ) (b b' : List ℕ) → OneWord k b b' → length b ≡ block_bytes * e.blocks → first_bad b ≡ e.blocks
      → refuses_in e b' ≡ number_of BadCheck
  one-word-refused k b b' w l f =
      let g : first_bad b' ≡ k / block_words = one-word_caught k b b' w e.blocks l f in
      bad_check b' (w.size ∙ l) (λ h. omega (arith, inside k b b' w e.blocks l))

  -- ---- bytes of the right length whose checks hold: 8, said by their words

  module _ (b : List ℕ) (s : Bytes b) (l : length b ≡ block_bytes * e.blocks) (f : first_bad b ≡ e.blocks) where
    payload-length : length (payload_of b) ≡ checked_words * e.blocks
    payload-length =
        let k : blocks_in b ≡ e.blocks = omega arith in
        images.payload-length b ∙ ap (λ (n : ℕ). checked_words * n) k

    -- bytes are compared with an image as words with a payload
    ours_words : ours_in e b ≡ bytes_eq (e.words.enc (read_in e b)) (payload_of b)
    unfolding ours_in image_in
    ours_words =
        let ok = read_ok b in
        sym (images.same-image e.blocks (e.words.enc (read_in e b)) b (enc-length (read_in e b) ok) l (q.words.small (read_in e b) ok) s f)

    by-words : refuses_in e b ≡ ruling true true (ours_in e b)
    unfolding refuses_in
    by-words = rw (eq-eqb (length b) (block_bytes * e.blocks) l, eq-eqb (first_bad b) e.blocks f)

    accepted-reads : Iff (refuses_in e b ≡ 0) (Reads e.words (payload_of b) 0)
    unfolding read_in
    accepted-reads =
        let a = reads_all q.words (payload_of b) (payload-length ∙ sym q.size) in (
          (λ h. a.1 ((bytes_eq-Decides _ _).0 (sym ours_words ∙ accepted_ours b h))),
          λ r. by-words ∙ ap (ruling true true) (ours_words ∙ ap (λ (x : List ℕ). bytes_eq x (payload_of b)) (a.0 r) ∙ (bytes_eq-Decides (payload_of b) (payload_of b)).1 refl),
        )

    -- they are accepted or foreign
    foreign-not : Iff (refuses_in e b ≡ number_of ForeignImage) (refuses_in e b ≡ 0 → ⊥)
    foreign-not = ((λ h g. omega arith), λ h. go h (ours_in e b) by-words)
      where
        go : (refuses_in e b ≡ 0 → ⊥) → (t : Bool) → refuses_in e b ≡ ruling true true t → refuses_in e b ≡ number_of ForeignImage
        go h true p = absurd (h p)
        go h false p = p

    -- 8: writing what is read gives other words,
    pub foreign-reads : Iff (refuses_in e b ≡ number_of ForeignImage) (Reads e.words (payload_of b) 0 → ⊥)
    foreign-reads = ((λ h r. foreign-not.0 h (accepted-reads.1 r)), λ n. foreign-not.1 (λ a. n (accepted-reads.0 a)))

    -- that is, no good state has these words
    pub foreign_unknown : Iff (refuses_in e b ≡ number_of ForeignImage) ((a : A) × e.words.Ok a × (e.words.enc a ≡ payload_of b) → ⊥)
    foreign_unknown =
        let a = accepted q.words (payload_of b) in
        let r = reads_all q.words (payload_of b) (payload-length ∙ sym q.size) in (
          (λ h k. foreign-reads.0 h (r.1 (a.0 k))),
          λ n. foreign-reads.1 (λ h. n (a.1 (r.0 h))),
        )

    -- ---- the code's test: the payload is laid over the places z, a state read from there, and its words laid over the same places

    module _ (z w again : List ℕ) (new : A) (room : checked_words * e.blocks ≤ length z) (p : w ≡ laid z 0 (payload_of b))
        (r : new ≡ e.words.dec w 0) (a : again ≡ laid z 0 (e.words.enc new)) where
      new_ok : e.words.Ok new
      new_ok = subst e.words.Ok (sym r) (q.words.sound w 0)

      front : (xs : List ℕ) → length xs ≡ checked_words * e.blocks → take (checked_words * e.blocks) (laid z 0 xs) ≡ xs
      front xs h = laid-start z xs (checked_words * e.blocks) h room

      -- where the words are those that were read, the state is what the bytes are read as
      words-again : again ≡ w → e.words.enc new ≡ payload_of b
      words-again h =
          sym (front (e.words.enc new) (enc-length new new_ok))
          ∙ ap (take (checked_words * e.blocks)) (sym a ∙ h ∙ p)
          ∙ front (payload_of b) payload-length

      pub is_read : again ≡ w → new ≡ read_in e b
      unfolding read_in
      is_read h = sym (dec-enc q.words new new_ok) ∙ ap (λ (x : List ℕ). e.words.dec x 0) (words-again h)

      -- where the payload is a state's, it is read from the places too
      here : (xs : List ℕ) → xs ≡ payload_of b → Here w 0 xs
      here xs h = record {
        at = λ k m.
            let n : length xs ≡ checked_words * e.blocks = ap length h ∙ payload-length in
            let g : w ≡ laid z 0 xs = p ∙ ap (laid z 0) (sym h) in
            let o : k < checked_words * e.blocks = omega arith in
            ap (λ (i : ℕ). get_or w i 0) (zero-add k)
            ∙ ap (λ (x : List ℕ). get_or x k 0) g
            ∙ sym (get_or-take (checked_words * e.blocks) (laid z 0 xs) k 0 o)
            ∙ ap (λ (x : List ℕ). get_or x k 0) (front xs n);
      }

      again-words : e.words.enc (read_in e b) ≡ payload_of b → again ≡ w
      again-words h =
          let n : e.words.dec w 0 ≡ read_in e b = q.words.back (read_in e b) w 0 (read_ok b) (here (e.words.enc (read_in e b)) h) in
          a ∙ ap (laid z 0) (ap e.words.enc (r ∙ n) ∙ h) ∙ sym p

      pub test : ours_in e b ≡ bytes_eq again w
      test = ours_words ∙ same-both again-words (λ h. sym (ap e.words.enc (is_read h)) ∙ words-again h)
