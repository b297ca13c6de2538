-- Words and bytes, and the check of a block. Definitions only.
use Rattle.std.specs.Prelude.{ℕ, zero, suc, ◌+◌, ◌*◌, ◌/◌, ◌%◌, ◌^◌, Bool, cond, List, [], ◌∷◌, ◌++◌, length, ◌==◌, eqb, slice_index, Option, Some, None}
use Rattle.blocks.specs.Lists.{table}

-- a block: its bytes, its words, and its words before the check
abbrev pub block_bytes : ℕ
block_bytes = 512

abbrev pub block_words : ℕ
block_words = 64

abbrev pub checked_words : ℕ
checked_words = 63

-- ---- bytes, the lowest first

abbrev pub word2 : List ℕ → ℕ → ℕ
word2 b i = slice_index b i + slice_index b (i + 1) * 256

abbrev pub word4 : List ℕ → ℕ → ℕ
word4 b i = word2 b i + word2 b (i + 2) * 65536

-- the word that the eight bytes from place i on stand for
unfoldable pub word8 : List ℕ → ℕ → ℕ
word8 b i = word4 b i + word4 b (i + 4) * 4294967296

-- word k of some bytes
abbrev pub word_at : List ℕ → ℕ → ℕ
word_at b k = word8 b (8 * k)

abbrev pub bytes2 : ℕ → List ℕ
bytes2 w = w % 256 ∷ w / 256 ∷ []

unfoldable pub bytes4 : ℕ → List ℕ
bytes4 w = bytes2 (w % 65536) ++ bytes2 (w / 65536)

-- the eight bytes of a word
unfoldable pub bytes8 : ℕ → List ℕ
bytes8 w = bytes4 (w % 4294967296) ++ bytes4 (w / 4294967296)

unfoldable pub bytes_of : List ℕ → List ℕ
bytes_of [] = []
bytes_of (w ∷ ws) = bytes8 w ++ bytes_of ws

-- ---- checks

-- x rotated left by one bit, at 64 bits
unfoldable pub rotated : ℕ → ℕ
rotated x = x * 2 % 2 ^ 64 + x / 2 ^ 63

-- one word more in a check: it is rotated and the word added, wrapping
unfoldable pub mixed : ℕ → ℕ → ℕ
mixed c w = (rotated c + w) % 2 ^ 64

unfoldable pub check_from : ℕ → List ℕ → ℕ
check_from c [] = c
check_from c (w ∷ ws) = check_from (mixed c w) ws

-- the check of block k with the words f 0, f 1, ..: it starts at the block's number
unfoldable pub check_of : ℕ → (ℕ → ℕ) → ℕ
check_of k f = check_from k (table f checked_words)

-- block k of some bytes holds: its last word is the check of those before it
unfoldable pub holds : List ℕ → ℕ → Bool
holds b k = check_of k (λ m. word_at b (block_words * k + m)) == word_at b (block_words * k + checked_words)

-- the first of the n numbers from k on at which p is false, and k + n where there is none
unfoldable pub first_from : (ℕ → Bool) → ℕ → ℕ → ℕ
first_from p k zero = k
first_from p k (suc n) = let r = first_from p (suc k) n in cond (p k) r k

-- how many whole blocks some bytes are
abbrev pub blocks_in : List ℕ → ℕ
blocks_in b = length b / block_bytes

-- the first bad block of some bytes, and their number of blocks where there is none
unfoldable pub first_bad : List ℕ → ℕ
first_bad b = first_from (holds b) 0 (blocks_in b)

-- the first bad block of some bytes, or none
unfoldable pub bad_of : List ℕ → Option ℕ
bad_of b = cond (eqb (first_bad b) (blocks_in b)) None (Some (first_bad b))
