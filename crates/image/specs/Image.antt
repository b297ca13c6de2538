-- Saving and restoring a chain: its image, what bytes of either edition mean, which are turned away and why, and what the two calls do.
-- Definitions only.
use Rattle.refusal.specs.declared.Refusal.{Refusal}
use Rattle.std.specs.Prelude.{Bool, cond, List, ℕ, eqb, Option, Some, None, Result, Ok, Err}
use Rattle.refusal.specs.declared.Refusal.TheVariants.{WrongLength, BadCheck, ForeignImage}
use Rattle.chain.specs.declared.Chain.{Chain}
use Rattle.chain.specs.Chain.{Changed, changed, unchanged}
use Rattle.chain.specs.Base.{widened, base_of}
use Rattle.image.specs.Edition.{Edition, image_in, read_in, length_in, checks_in, ours_in, refuses_in}
use Rattle.image.specs.Edition1.{first_edition}
use Rattle.image.specs.Edition1 as first
use Rattle.image.specs.Layout.{image_bytes}
use Rattle.image.specs.declared.EditionNumber.{EditionNumber}
use Rattle.image.specs.declared.EditionNumber.TheVariants.{One, Two}
use Rattle.image.specs.Chain.{chain, second_edition}

-- the words of a chain: every number of it, by its bits
unfoldable pub words_of : Chain → List ℕ
words_of c = chain.enc c

-- the image of a chain, which a save writes
abbrev pub image : Chain → List ℕ
image c = image_in second_edition c

-- ---- bytes of either edition: their length says which

-- as long as an image of edition 1
abbrev pub old_length : List ℕ → Bool
old_length b = length_in first_edition b

-- as long as an image that is saved
abbrev pub right_length : List ℕ → Bool
right_length b = length_in second_edition b

-- the edition of an image so many bytes long
abbrev pub edition_of : ℕ → Option EditionNumber
edition_of n = cond (eqb n image_bytes) (Some Two) (cond (eqb n first.image_bytes) (Some One) None)

-- a chain's words by an edition: the first leaves the bed's channels out
abbrev pub words_by : EditionNumber → Chain → List ℕ
words_by One c = (first.base).enc (base_of c)
words_by Two c = chain.enc c

-- the chain that a payload is read as
abbrev pub read_by : EditionNumber → List ℕ → Chain
read_by One w = widened ((first.base).dec w 0)
read_by Two w = chain.dec w 0

-- the chain that accepted bytes stand for; a bed of edition 1 is one channel at 0, 0
unfoldable pub meaning : List ℕ → Chain
meaning b = cond (old_length b) (widened (read_in first_edition b)) (read_in second_edition b)

-- their number in the specification's table; 0: they pass
unfoldable pub refuses_image : List ℕ → ℕ
refuses_image b = cond (old_length b) (refuses_in first_edition b) (refuses_in second_edition b)

-- ---- the two calls

-- what a save answers, and the lent bytes after it
unfoldable pub save_verdict : List ℕ → Result Unit Refusal
save_verdict b = cond (right_length b) (Ok tt) (Err WrongLength)

unfoldable pub saved_in : Chain → List ℕ → List ℕ
saved_in c b = cond (right_length b) (image c) b

-- the new chain where bytes pass an edition's tests, or the old one and why not
abbrev pub restored_in : {A : Type 0} → Edition A → List ℕ → Chain → Chain → Changed
restored_in e b old new =
    cond (length_in e b)
    (cond (checks_in e b) (cond (ours_in e b) (changed new) (unchanged old ForeignImage)) (unchanged old BadCheck))
    (unchanged old WrongLength)

unfoldable pub restore_of : Chain → List ℕ → Changed
restore_of old b = cond (old_length b) (restored_in first_edition b old (meaning b)) (restored_in second_edition b old (meaning b))
