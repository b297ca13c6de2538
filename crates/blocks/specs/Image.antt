-- An image of n blocks: a payload's words in runs of 63, each with its check, as bytes. Definitions only.
use Rattle.std.specs.Prelude.{◌≡◌, ℕ, ◌+◌, ◌*◌, ◌/◌, ◌%◌, cond, List, length, ◌≢◌, nat_lt, slice_index}
use Rattle.blocks.specs.Lists.{table, Bytes}
use Rattle.blocks.specs.Words.{block_words, checked_words, check_of, bytes_of, word_at, blocks_in}

-- word m of block k of a payload; a word that is missing counts as 0
abbrev pub payload_word : List ℕ → ℕ → ℕ → ℕ
payload_word p k m = slice_index p (checked_words * k + m)

-- word i of a payload's image: one of the payload's or, as the last of its block, the check of those before it
unfoldable pub image_word : List ℕ → ℕ → ℕ
image_word p i =
    let k = i / block_words in
    cond (nat_lt (i % block_words) checked_words) (payload_word p k (i % block_words)) (check_of k (payload_word p k))

unfoldable pub image_of : ℕ → List ℕ → List ℕ
image_of n p = bytes_of (table (image_word p) (block_words * n))

-- the payload of some bytes: every word of their whole blocks but each 64th
unfoldable pub payload_of : List ℕ → List ℕ
payload_of b = table (λ k. word_at b (block_words * (k / checked_words) + k % checked_words)) (checked_words * blocks_in b)

-- b' is b, but for some of the eight bytes of word k
pub record OneWord (k : ℕ) (b b' : List ℕ) : Type 0 where
  pub size : length b' ≡ length b
  pub bytes : Bytes b
  pub bytes' : Bytes b'
  pub elsewhere : (i : ℕ) → (i / 8 ≢ k) → slice_index b' i ≡ slice_index b i
  pub differ : b' ≡ b → ⊥
