-- Loudness by Recommendation ITU-R BS.1770-4, of several channels with their weights: what the bed's level is to read.
-- It has no state: each reading is a function of all samples since the level was fresh and its filters at rest (f64, 48 kHz, oldest first).
-- Each operation is rounded to f64, in the order written; the sums over the channels begin at +0 and run in channel order.
-- K-weighting, energies, means, the exponential mean square and loudness are those of one channel: level/specs/Bs1770.antt.
use Rattle.std.specs.Prelude.{ℕ, zero, suc, min, take, drop, Float}
use mathlib.Core.List.{List, [], ◌∷◌, map, foldl, reverse}
use Rattle.float.specs.Arithmetic.{◌⊕◌, ◌⊗◌, ◌⊘◌, zero64, whole}
use Rattle.level.specs.declared.Reading.{Reading}
use Rattle.level.specs.Bs1770.{frame_length, momentary_frames, short_term_frames, weighted, energy, frames_in, mean, smoothed, loudness}

-- a channel's weight, and a list of its samples
pub record Source : Type 0 where
  pub weight : Float
  pub samples : List Float

-- ---- of K-weighted samples, newest first

-- the channel's part of the latest frame's power: its mean square, by its weight
abbrev pub share : Source → Float
share c = c.weight ⊗ energy (take frame_length c.samples) ⊘ whole frame_length

unfoldable pub joint_power : List Source → Float
joint_power cs = foldl (λ (s : Float) (c : Source). s ⊕ share c) zero64 cs

-- without the latest frame
abbrev pub before : Source → Source
before c = record { weight = c.weight; samples = drop frame_length c.samples }

-- of the latest n frames, newest first
unfoldable pub joint_powers : ℕ → List Source → List Float
joint_powers zero cs = []
joint_powers (suc n) cs = joint_power cs ∷ joint_powers n (map before cs)

-- the frames that there are: each channel has as many
abbrev pub frames_of : List Source → ℕ
frames_of [] = 0
frames_of (c ∷ cs) = frames_in c.samples

-- the mean of the latest n frames, or of all where there are fewer
abbrev pub mean_joint : ℕ → List Source → Float
mean_joint n cs = mean (joint_powers (min n (frames_of cs)) cs)

-- the exponential mean squares, by their weights
unfoldable pub joint_fast : List Source → Float
joint_fast cs = foldl (λ (s : Float) (c : Source). s ⊕ c.weight ⊗ smoothed c.samples) zero64 cs

-- ---- of samples as they are heard, oldest first

abbrev pub weighted_source : Source → Source
weighted_source c = record { weight = c.weight; samples = weighted (reverse c.samples) }

-- the latest frame's power
unfoldable pub power : List Source → Float
power cs = joint_power (map weighted_source cs)

-- LUFS over the last 400 ms, over the last 3 s, or since the first sample, and fast
unfoldable pub momentary : List Source → Float
momentary cs = loudness (mean_joint momentary_frames (map weighted_source cs))

unfoldable pub short_term : List Source → Float
short_term cs = loudness (mean_joint short_term_frames (map weighted_source cs))

unfoldable pub fast : List Source → Float
fast cs = loudness (joint_fast (map weighted_source cs))

-- what BS.1770 says of the channels
abbrev pub bs1770 : List Source → Reading
bs1770 cs = record {
  power = power cs;
  momentary = record { 0 = momentary cs };
  short_term = record { 0 = short_term cs };
  fast = record { 0 = fast cs };
}
