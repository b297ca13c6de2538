-- Refusal 8 of bytes of either edition whose checks hold, said twice: no valid chain has these words, and a word breaks one of the specification's
-- rules.
use mathlib.Core.Path.{◌≡◌, sym, ◌∙◌}
use mathlib.Core.List.{List}
use Prim.Native.Nat.{ℕ}
use native.Mathlib.Omega.{arith}
use borrow.Author.Tests.{eq-eqb}
use lib.ListN.{length, get_or}
use Rattle.blocks.specs.Lists.{Bytes}
use Rattle.blocks.specs.Words.{blocks_in, first_bad}
use Rattle.blocks.specs.Image.{payload_of}
use Rattle.blocks.proofs.Images.{payload-words}
use Rattle.refusal.specs.declared.Refusal.TheVariants.{ForeignImage}
use Rattle.refusal.specs.Table.{number_of}
use Rattle.chain.specs.declared.Chain.{Chain}
use Rattle.chain.specs.Base.{Base, widened}
use Rattle.chain.specs.Valid.{Valid}
use Rattle.codec.proofs.Again.{Iff}
use Rattle.image.specs.Layout as second
use Rattle.image.specs.Edition.{refuses_in}
use Rattle.image.specs.Edition1.{first_edition}
use Rattle.image.specs.Edition1 as first
use Rattle.image.specs.Chain.{second_edition}
use Rattle.image.specs.Image.{words_of, refuses_image}
use Rattle.image.specs.Words.{PayloadWordsOne, PayloadWords}
use Rattle.image.proofs.Valid.{base-valid, valid-base, chain-valid, valid-chain}
use Rattle.image.proofs.Edition as edition
use Rattle.image.proofs.Laws.{first-laws, second-laws, not_old, number_old, number-new}
use Rattle.image.proofs.Payload.{base-words, chain-words}

-- an edition's number by other words: m is that number, and P means Q
as_said : {P Q : Type 0} {m n k : ℕ} → m ≡ n → Iff (n ≡ k) (P → ⊥) → Iff P Q → Iff (m ≡ k) (Q → ⊥)
as_said e u w = ((λ h q. u.0 (sym e ∙ h) (w.1 q)), λ f. e ∙ u.1 (λ p. f (w.0 p)))

module _ (b : List ℕ) (s : Bytes b) where
  -- ---- edition 1

  module _ (l : length b ≡ first.image_bytes) (f : first_bad b ≡ first.block_count) where
    number-one : refuses_image b ≡ refuses_in first_edition b
    number-one = number_old b (eq-eqb (length b) first.image_bytes l)

    pub foreign_unknown_one : Iff (refuses_image b ≡ number_of ForeignImage) ((c : Base) × Valid (widened c) × ((first.base).enc c ≡ payload_of b) → ⊥)
    foreign_unknown_one =
        as_said number-one (edition.foreign_unknown first-laws b s l f)
        ((λ k. (k.0, base-valid k.0 k.1, k.2)), λ k. (k.0, valid-base k.0 k.1, k.2))

    pub foreign_words_one : Iff (refuses_image b ≡ number_of ForeignImage) (PayloadWordsOne (payload_of b) → ⊥)
    foreign_words_one = as_said number-one (edition.foreign-reads first-laws b s l f) (base-words (payload_of b) (payload-words b s))

  -- ---- edition 2

  module _ (l : length b ≡ second.image_bytes) (f : first_bad b ≡ second.block_count) where
    number-two : refuses_image b ≡ refuses_in second_edition b
    number-two = number-new b (not_old b l)

    pub foreign_unknown : Iff (refuses_image b ≡ number_of ForeignImage) ((c : Chain) × Valid c × (words_of c ≡ payload_of b) → ⊥)
    unfolding words_of
    foreign_unknown =
        as_said number-two (edition.foreign_unknown second-laws b s l f)
        ((λ k. (k.0, chain-valid k.0 k.1, k.2)), λ k. (k.0, valid-chain k.0 k.1, k.2))

    pub foreign_words : Iff (refuses_image b ≡ number_of ForeignImage) (PayloadWords (payload_of b) → ⊥)
    foreign_words = as_said number-two (edition.foreign-reads second-laws b s l f) (chain-words (payload_of b) (payload-words b s))

  -- ---- an edition that does not fit the length

  pub unfit_one : length b ≡ first.image_bytes → first_bad b ≡ blocks_in b → (get_or (payload_of b) 0 0 ≡ first.edition → ⊥) → refuses_image b ≡ number_of ForeignImage
  unfit_one l f h = let k : blocks_in b ≡ first.block_count = omega arith in (foreign_words_one l (f ∙ k)).1 (λ w. h w.edition)

  pub unfit_two : length b ≡ second.image_bytes → first_bad b ≡ blocks_in b → (get_or (payload_of b) 0 0 ≡ second.edition → ⊥) → refuses_image b ≡ number_of ForeignImage
  unfit_two l f h = let k : blocks_in b ≡ second.block_count = omega arith in (foreign_words l (f ∙ k)).1 (λ w. h w.edition)
