-- The layout of an image: its edition, its blocks, and where its words stand. Definitions only.
use Rattle.std.specs.Prelude.{ℕ, ◌+◌, ◌-◌, ◌*◌}
use Rattle.blocks.specs.Words.{block_bytes, checked_words}

-- ---- in either edition

-- words from 1 on: settings, key strand, bed strand, loops
abbrev pub body_words : ℕ
body_words = 1272

-- the first word after them
abbrev pub after_body : ℕ
after_body = 1 + body_words

-- ---- in edition 2

abbrev pub edition : ℕ
edition = 2

abbrev pub block_count : ℕ
block_count = 22

-- 11,264 bytes
abbrev pub image_bytes : ℕ
image_bytes = block_bytes * block_count

-- 1,386 words
abbrev pub payload_words : ℕ
payload_words = checked_words * block_count

-- words from 1,273 on: the bed's channels
abbrev pub surround_words : ℕ
surround_words = 88

-- the first unused word; from it to the payload's end 25 zeros
abbrev pub first_unused : ℕ
first_unused = after_body + surround_words

abbrev pub unused_words : ℕ
unused_words = payload_words - first_unused
