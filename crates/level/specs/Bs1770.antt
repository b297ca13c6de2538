-- Loudness by Recommendation ITU-R BS.1770-4, of one channel with weight 1: what a level is to read after the samples xs.
-- It has no state: each reading is a function of all samples since the strand was fresh and its filters at rest (f64, 48 kHz, oldest first).
-- Each operation is rounded to f64, in the order written. Inside, lists run newest first, so that the sample k back is at place k.
use Rattle.std.specs.Prelude.{ℕ, zero, suc, ◌/◌, min, cond, List, [], ◌∷◌, reverse, length, take, drop, from_bits, slice_index_or, Float}
use mathlib.Core.List.{foldl}
use Rattle.std.specs.Float.{binary64}
use Rattle.std.specs.Float.Ieee.{lt}
use Rattle.biquad.specs.declared.Coefficients.{Coefficients}
use Rattle.biquad.specs.Sections.{k_shelf, k_high_pass}
use Rattle.float.specs.Arithmetic.{◌⊕◌, ◌⊖◌, ◌⊗◌, ◌⊘◌, zero64, one64, ten64, whole}
use Rattle.float.specs.Choice.{max_of}
use Rattle.float.specs.Silence.{silence_lufs}
use Rattle.logarithm.specs.Logarithm.{log10_of}

-- samples in a frame of 10 ms; frames in 400 ms and in 3 s
abbrev pub frame_length : ℕ
frame_length = 480

abbrev pub momentary_frames : ℕ
momentary_frames = 40

abbrev pub short_term_frames : ℕ
short_term_frames = 300

-- ---- K-weighting (Annex 1, tables 1 and 2): the pre-filter, then the RLB filter, from rest

-- the value k samples back
abbrev pub back : List Float → ℕ → Float
back xs k = slice_index_or xs k zero64

-- y[n] = b0 x[n] + ((b1 x[n-1] - a1 y[n-1]) + (b2 x[n-2] - a2 y[n-2])), of x[n] = x and all x and y before it
abbrev pub response : Coefficients → Float → List Float → List Float → Float
response c x xs ys =
    c.b0 ⊗ x ⊕ ((c.b1 ⊗ back xs 0 ⊖ c.a1 ⊗ back ys 0) ⊕ (c.b2 ⊗ back xs 1 ⊖ c.a2 ⊗ back ys 1))

unfoldable pub filtered : Coefficients → List Float → List Float
filtered c [] = []
filtered c (x ∷ xs) = response c x xs (filtered c xs) ∷ filtered c xs

abbrev pub weighted : List Float → List Float
weighted xs = filtered k_high_pass (filtered k_shelf xs)

-- ---- the mean square, frame by frame

-- the sum of the squares, oldest first
unfoldable pub energy : List Float → Float
energy [] = zero64
energy (y ∷ ys) = energy ys ⊕ y ⊗ y

-- of the latest frame
abbrev pub power : List Float → Float
power ys = energy (take frame_length ys) ⊘ whole frame_length

-- of the latest n frames, newest first
unfoldable pub powers : ℕ → List Float → List Float
powers zero ys = []
powers (suc n) ys = power ys ∷ powers n (drop frame_length ys)

-- the frames that there are
abbrev pub frames_in : List Float → ℕ
frames_in ys = length ys / frame_length

-- the mean of frames with these powers, added in this order: the divisor is the number of frames
unfoldable pub mean : List Float → Float
mean ps = foldl ◌⊕◌ zero64 ps ⊘ whole (length ps)

-- that of the latest n frames, or of all where there are fewer
abbrev pub mean_power : ℕ → List Float → Float
mean_power n ys = mean (powers (min n (frames_in ys)) ys)

-- ---- loudness, LUFS: -0.691 + 10 log10 of the mean square; not below -100, which is also that of silence

-- -0.691
abbrev pub offset_lufs : Float
offset_lufs = from_bits binary64 0xbfe61cac083126e9

unfoldable pub loudness : Float → Float
loudness p = cond (lt zero64 p) (max_of (offset_lufs ⊕ ten64 ⊗ log10_of p) silence_lufs) silence_lufs

-- over the last 400 ms, and over the last 3 s, or since the first sample
unfoldable pub momentary : List Float → Float
momentary xs = loudness (mean_power momentary_frames (weighted (reverse xs)))

unfoldable pub short_term : List Float → Float
short_term xs = loudness (mean_power short_term_frames (weighted (reverse xs)))

-- ---- beside the Recommendation: the fast reading, of an exponential mean square with a time constant of 50 ms (2,400 samples)

-- exp(-1 / 2400), by the stand-in
abbrev pub fast_coeff : Float
fast_coeff = from_bits binary64 0x3feffc9640400000

unfoldable pub smoothed : List Float → Float
smoothed [] = zero64
smoothed (y ∷ ys) = smoothed ys ⊗ fast_coeff ⊕ y ⊗ y ⊗ (one64 ⊖ fast_coeff)

unfoldable pub fast : List Float → Float
fast xs = loudness (smoothed (weighted (reverse xs)))
