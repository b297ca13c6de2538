-- The signals as functions of their kind, seed and sample number. Definitions only.
use Rattle.std.specs.Prelude.{ℕ, ◌+◌, ◌-◌, ◌*◌, ◌/◌, ◌%◌, cond, List, [], ◌∷◌, pos, ◌==◌, from_bits, nat_le, nat_lt, slice_index, Float}
use Rattle.std.specs.Float.{binary32}
use Rattle.std.specs.Float.Ieee.{of_int, sub, mul}
use Rattle.recorded.specs.declared.kind.Kind.{Kind}
use Rattle.recorded.specs.declared.kind.Kind.TheVariants.{Silence, Constant, Tone, Square, Sawtooth, Noise, Speech, NoisySpeech, Impulses, Bursts}

-- the kind of a number
abbrev pub kind_of : ℕ → Kind
kind_of x =
    cond (x == 1) Constant
    (cond (x == 2) Tone
    (cond (x == 3) Square
    (cond (x == 4) Sawtooth
    (cond (x == 5) Noise
    (cond (x == 6) Speech
    (cond (x == 7) NoisySpeech
    (cond (x == 8) Impulses
    (cond (x == 9) Bursts Silence))))))))

unfoldable pub scrambled : ℕ → ℕ
scrambled x = let y = (x % 2147483648 * 1103515245 + 12345) % 2147483648 in y * y / 32768 % 2147483648

unfoldable pub noise_of : ℕ → ℕ → ℕ
noise_of seed n = scrambled (scrambled n + seed * 7919) / 32768

unfoldable pub syllable_of : ℕ → ℕ
syllable_of n = cond (nat_le 96000 (n % 144000)) 0 (cond (nat_lt (n % 12000) 6000) (n % 12000) (12000 - n % 12000))

unfoldable pub voice_of : ℕ → ℕ → ℕ
voice_of seed n = 32768 + n % seed * syllable_of n * 5 / seed - syllable_of n * 5 / 2

-- a seed counts modulo 2 ^ 16, and 0 as 1
abbrev pub seed_of : ℕ → ℕ
seed_of s = cond (s % 65536 == 0) 1 (s % 65536)

-- 32768 + 32767 sin(2 pi k / 48), rounded
unfoldable pub sines : List ℕ
sines = 32768 ∷ 37045 ∷ 41249 ∷ 45307 ∷ 49151 ∷ 52715 ∷ 55938 ∷ 58764 ∷ 61145 ∷ 63041 ∷ 64418 ∷ 65255 ∷ 65535 ∷ 65255 ∷ 64418 ∷ 63041 ∷ 61145 ∷ 58764 ∷ 55938 ∷ 52715 ∷ 49151 ∷ 45307 ∷ 41249 ∷ 37045 ∷ 32768 ∷ 28491 ∷ 24287 ∷ 20229 ∷ 16385 ∷ 12821 ∷ 9598 ∷ 6772 ∷ 4391 ∷ 2495 ∷ 1118 ∷ 281 ∷ 1 ∷ 281 ∷ 1118 ∷ 2495 ∷ 4391 ∷ 6772 ∷ 9598 ∷ 12821 ∷ 16385 ∷ 20229 ∷ 24287 ∷ 28491 ∷ []

unfoldable pub sine_of : ℕ → ℕ → ℕ
sine_of seed n = slice_index sines (n % 48 * seed % 48)

unfoldable pub square_of : ℕ → ℕ → ℕ
square_of seed n = cond (nat_lt (n % seed) (seed / 2)) 65536 0

unfoldable pub sawtooth_of : ℕ → ℕ → ℕ
sawtooth_of seed n = n % seed * 65535 / seed

unfoldable pub impulse_of : ℕ → ℕ → ℕ
impulse_of seed n = cond (n % seed == 0) 65536 32768

unfoldable pub burst_of : ℕ → ℕ → ℕ
burst_of seed n = cond (nat_lt (n % 12000) 4800) (noise_of seed n) 32768

-- of a recorded signal's first two words x and s it is value_of (kind_of x) (seed_of s) n
abbrev pub value_of : Kind → ℕ → ℕ → ℕ
value_of Silence seed n = 32768
value_of Constant seed n = 32769
value_of Tone seed n = sine_of seed n
value_of Square seed n = square_of seed n
value_of Sawtooth seed n = sawtooth_of seed n
value_of Noise seed n = noise_of seed n
value_of Speech seed n = voice_of seed n
value_of NoisySpeech seed n = voice_of seed n + noise_of seed n / 256 - 128
value_of Impulses seed n = impulse_of seed n
value_of Bursts seed n = burst_of seed n

-- of its words x, s and w: sample_of (kind_of x) (seed_of s) (from_bits binary32 (w % 2 ^ 32)) n
unfoldable pub sample_of : Kind → ℕ → Float → ℕ → Float
sample_of kind seed scale n = mul binary32 (sub binary32 (of_int binary32 (pos (value_of kind seed n))) (from_bits binary32 0x47000000)) scale
