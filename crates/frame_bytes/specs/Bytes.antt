-- The samples that the bytes of frames mean, and what is left behind some frames. Definitions only.
use Rattle.std.specs.Prelude.{ℕ, ◌+◌, ◌*◌, ◌-◌, List, Float, take, drop}
use Rattle.std.specs.Float.{binary32}
use Rattle.std.specs.Float.Ieee.{of_bits}
use Rattle.level.specs.Bs1770.{frame_length}
use Rattle.layout.specs.Layout.{channel_count}
use Rattle.blocks.specs.Lists.{laid, table}
use Rattle.blocks.specs.Words.{word4}

-- bytes of a strand, which is 480 samples, and of the buffer: 16 frames of one channel, 3 of eight
abbrev pub strand_bytes : ℕ
strand_bytes = 1920

abbrev pub buffer_bytes : ℕ
buffer_bytes = 61440

-- the samples of the bed in a frame
unfoldable pub bed_samples : ℕ → ℕ
bed_samples n = channel_count n * frame_length

-- bytes of a frame: the key, then the bed, one channel after the other
unfoldable pub frame_bytes : ℕ → ℕ
frame_bytes n = (1 + channel_count n) * strand_bytes

-- the sample that four bytes from place i on stand for: binary32, the lowest byte first
abbrev pub sample_at : List ℕ → ℕ → Float
sample_at b i = of_bits binary32 (word4 b i)

-- m samples from place i on
unfoldable pub samples_at : List ℕ → ℕ → ℕ → List Float
samples_at b i m = table (λ k. sample_at b (i + 4 * k)) m

-- a strand of them
abbrev pub strand_at : List ℕ → ℕ → List Float
strand_at b i = samples_at b i frame_length

-- the key and the bed of frame k, counted from 0, where the bed has n channels
abbrev pub key_at : ℕ → List ℕ → ℕ → List Float
key_at n b k = strand_at b (k * frame_bytes n)

abbrev pub bed_at : ℕ → List ℕ → ℕ → List Float
bed_at n b k = samples_at b (k * frame_bytes n + strand_bytes) (bed_samples n)

-- ---- what is left

-- bytes of a buffer, and how many of them are held
pub record Held : Type 0 where
  pub bytes : List ℕ
  pub held : ℕ

-- h bytes are held: those behind the first k frames go to the start
unfoldable pub kept_of : ℕ → List ℕ → ℕ → ℕ → Held
kept_of n b k h = let first = k * frame_bytes n in record { bytes = laid b 0 (take (h - first) (drop first b)); held = h - first }
