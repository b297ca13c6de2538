-- Edition 1 of the image, which is read and no longer written: 21 blocks, and no words for the bed's channels. Definitions only.
use Rattle.std.specs.Prelude.{[], ◌∷◌, ℕ, ◌-◌, ◌*◌, replicate}
use Rattle.blocks.specs.Words.{block_bytes, checked_words}
use Rattle.codec.specs.Codec.{Codec}
use Rattle.codec.specs.Forms.{fixed, pair, as_a}
use Rattle.chain.specs.Base.{Base}
use Rattle.image.specs.Layout.{after_body}
use Rattle.image.specs.Chain.{body}
use Rattle.image.specs.Edition.{Edition}

abbrev pub edition : ℕ
edition = 1

abbrev pub block_count : ℕ
block_count = 21

-- 10,752 bytes
abbrev pub image_bytes : ℕ
image_bytes = block_bytes * block_count

-- 1,323 words
abbrev pub payload_words : ℕ
payload_words = checked_words * block_count

-- from word 1,273 to the payload's end 50 zeros
abbrev pub unused_words : ℕ
unused_words = payload_words - after_body

-- the edition, the body, and the unused words
unfoldable pub base : Codec Base
base = as_a (λ b. (tt, (b, tt))) (λ p. p.1.0) (pair (fixed (edition ∷ [])) (pair body (fixed (replicate unused_words 0))))

abbrev pub first_edition : Edition Base
first_edition = record { blocks = block_count; words = base }
