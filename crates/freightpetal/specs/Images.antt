-- What is promised of images of both editions beside the demands.
use Rattle.std.specs.Prelude.{◌≡◌, List, ◌↔◌, ◌⊎◌, ℕ, length, get_or}
use Rattle.blocks.specs.Lists.{Bytes}
use Rattle.blocks.specs.Words.{blocks_in, first_bad}
use Rattle.blocks.specs.Image.{payload_of, OneWord}
use Rattle.refusal.specs.declared.Refusal.TheVariants.{WrongLength, BadCheck, ForeignImage}
use Rattle.refusal.specs.Table.{number_of}
use Rattle.demands.specs.Calls.{Log, Call, all_calls}
use Rattle.demands.specs.Demands.{after}
use Rattle.chain.specs.declared.Chain.{Chain}
use Rattle.chain.specs.Chain.{changed}
use Rattle.chain.specs.Base.{Base, widened}
use Rattle.chain.specs.Valid.{Valid}
use Rattle.rules.specs.Rules.{Event, rules}
use Rattle.image.specs.Layout.{edition, block_count, image_bytes}
use Rattle.image.specs.Edition.{image_in, refuses_in}
use Rattle.image.specs.Edition1.{base, first_edition}
use Rattle.image.specs.Edition1 as first
use Rattle.image.specs.Image.{words_of, image, meaning, refuses_image, restore_of}
use Rattle.image.specs.Words.{PayloadWordsOne, PayloadWords}
use Rattle.image.specs.Port.{images, port}

-- as long as an image of one edition or of the other
abbrev pub ImageLength : List ℕ → Type 0
ImageLength b = (length b ≡ first.image_bytes) ⊎ (length b ≡ image_bytes)

pub record ImageLaws : Type 0 where
  -- after every list of calls, whatever bytes its restores bring, the chain is one that an image can hold
  pub valid : (cs : Log (Call Event)) → Valid (after rules (all_calls rules images) port cs)
  -- a saved chain comes back, whatever chain was there
  pub comes_back : (old c : Chain) → Valid c → restore_of old (image c) ≡ changed c
  -- a chain's image means that chain
  pub means_image : (c : Chain) → Valid c → meaning (image c) ≡ c
  -- accepted bytes of either edition restore as what they mean, whatever chain was there: a valid chain
  pub accepted : (old : Chain) (b : List ℕ) → refuses_image b ≡ 0 → (restore_of old b ≡ changed (meaning b)) × Valid (meaning b)
  -- those of edition 2 are the image of what they mean
  pub edition_two : (b : List ℕ) → refuses_image b ≡ 0 → length b ≡ image_bytes → image (meaning b) ≡ b
  -- bytes of edition 1's length are refused by edition 1's rules; accepted, they are edition 1's image of a chain, and mean that chain with one
  -- channel at 0, 0
  pub edition_one : (b : List ℕ) → length b ≡ first.image_bytes
      → (refuses_image b ≡ refuses_in first_edition b)
      × (refuses_image b ≡ 0 → (s : Base) × Valid (widened s) × (image_in first_edition s ≡ b) × (meaning b ≡ widened s))
  -- every image that edition 1 wrote is accepted, and means its chain with one channel at 0, 0
  pub written_by_one : (s : Base) → Valid (widened s) → (refuses_image (image_in first_edition s) ≡ 0) × (meaning (image_in first_edition s) ≡ widened s)
  -- any other length is 6
  pub wrong_length : (b : List ℕ) → (ImageLength b → ⊥) → refuses_image b ≡ number_of WrongLength
  -- a wrong check is 7, whichever edition
  pub bad_check : (b : List ℕ) → ImageLength b → (first_bad b ≡ blocks_in b → ⊥) → refuses_image b ≡ number_of BadCheck
  -- with right checks, an edition that does not fit the length is 8
  pub unfit_one : (b : List ℕ) → Bytes b → length b ≡ first.image_bytes → first_bad b ≡ blocks_in b → (get_or (payload_of b) 0 0 ≡ first.edition → ⊥)
      → refuses_image b ≡ number_of ForeignImage
  pub unfit_two : (b : List ℕ) → Bytes b → length b ≡ image_bytes → first_bad b ≡ blocks_in b → (get_or (payload_of b) 0 0 ≡ edition → ⊥)
      → refuses_image b ≡ number_of ForeignImage
  -- two valid chains have one image exactly where they are equal
  pub one_image : (s t : Chain) → Valid s → Valid t → (image s ≡ image t) ↔ (s ≡ t)
  -- a change within a single word is always caught, with 7: of any bytes of either length whose checks hold, also of a foreign image,
  pub one_word : (k : ℕ) (b b' : List ℕ) → OneWord k b b' → ImageLength b → first_bad b ≡ blocks_in b → refuses_image b' ≡ number_of BadCheck
  -- and so of an accepted one
  pub accepted_one_word : (k : ℕ) (b b' : List ℕ) → OneWord k b b' → refuses_image b ≡ 0 → refuses_image b' ≡ number_of BadCheck
  -- bytes of edition 2's length whose checks hold are refused with 8 exactly where no valid chain has these words,
  pub foreign_unknown : (b : List ℕ) → Bytes b → length b ≡ image_bytes → first_bad b ≡ block_count
      → (refuses_image b ≡ number_of ForeignImage) ↔ ((c : Chain) × Valid c × (words_of c ≡ payload_of b) → ⊥)
  -- that is, where a word breaks one of the specification's rules;
  pub foreign_words : (b : List ℕ) → Bytes b → length b ≡ image_bytes → first_bad b ≡ block_count
      → (refuses_image b ≡ number_of ForeignImage) ↔ (PayloadWords (payload_of b) → ⊥)
  -- and so those of edition 1's length, by edition 1's words and rules
  pub foreign_unknown_one : (b : List ℕ) → Bytes b → length b ≡ first.image_bytes → first_bad b ≡ first.block_count
      → (refuses_image b ≡ number_of ForeignImage) ↔ ((s : Base) × Valid (widened s) × (base.enc s ≡ payload_of b) → ⊥)
  pub foreign_words_one : (b : List ℕ) → Bytes b → length b ≡ first.image_bytes → first_bad b ≡ first.block_count
      → (refuses_image b ≡ number_of ForeignImage) ↔ (PayloadWordsOne (payload_of b) → ⊥)
