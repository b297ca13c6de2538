-- An edition of the image: how a state is written in the words of so many blocks. The image of a state, what some bytes are read as, and which
-- bytes are turned away. Definitions only.
use Rattle.std.specs.Prelude.{Bool, not, List, [], ◌∷◌, ℕ, ◌*◌, eqb, length, bytes_eq}
use Rattle.blocks.specs.Words.{block_bytes, first_bad}
use Rattle.blocks.specs.Image.{image_of, payload_of}
use Rattle.codec.specs.Codec.{Codec}
use Rattle.refusal.specs.declared.Refusal.TheVariants.{WrongLength, BadCheck, ForeignImage}
use Rattle.refusal.specs.Table.{◌means◌, first_number}

pub record Edition (A : Type 0) : Type 1 where
  pub blocks : ℕ
  pub words : Codec A

-- the image of a state
unfoldable pub image_in : {A : Type 0} → Edition A → A → List ℕ
image_in e s = image_of e.blocks (e.words.enc s)

-- the state that some bytes are read as; a word that breaks a rule is read as some good value
unfoldable pub read_in : {A : Type 0} → Edition A → List ℕ → A
read_in e b = e.words.dec (payload_of b) 0

-- bytes are a state's image: writing what is read gives them again
unfoldable pub ours_in : {A : Type 0} → Edition A → List ℕ → Bool
ours_in e b = bytes_eq (image_in e (read_in e b)) b

-- as long as an image
abbrev pub length_in : {A : Type 0} → Edition A → List ℕ → Bool
length_in e b = eqb (length b) (block_bytes * e.blocks)

-- the check of every block is right
abbrev pub checks_in : {A : Type 0} → Edition A → List ℕ → Bool
checks_in e b = eqb (first_bad b) e.blocks

-- the number of some bytes in the specification's table, tested in the order 6, 7, 8; 0: they pass
unfoldable pub refuses_in : {A : Type 0} → Edition A → List ℕ → ℕ
refuses_in e b =
    first_number
    (not (length_in e b) means WrongLength ∷ not (checks_in e b) means BadCheck ∷ not (ours_in e b) means ForeignImage ∷ [])
