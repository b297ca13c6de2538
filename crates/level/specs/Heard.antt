-- What a level has heard after a list of frames, and what it is to read then. The frames and their samples run oldest first.
use Rattle.std.specs.Prelude.{◌≡◌, ◌<◌, T, List, [], ◌∷◌, ◌++◌, map, reverse, length, Float}
use mathlib.Core.List.{foldl}
use Rattle.level.specs.declared.Reading.{Reading}
use Rattle.level.specs.declared.Level.{Level}
use Rattle.level.specs.Bs1770.{frame_length, momentary_frames, weighted, power, momentary, short_term, fast}
use Rattle.float.specs.AllFinite.{all_finite}
use Rattle.level.specs.Weighing.{clean_of}
use Rattle.level.specs.Level.{lufs_of, fresh_of, frame_of}

-- each frame has its 480 samples
abbrev pub Whole : List (List Float) → Type 0
Whole [] = Unit {0}
Whole (f ∷ fs) = (length f ≡ frame_length) × Whole fs

-- the samples of all frames, 0 in place of one that isn't finite
unfoldable pub heard : List (List Float) → List Float
heard [] = []
heard (f ∷ fs) = map clean_of f ++ heard fs

-- the samples as they are, and that each of them is finite
unfoldable pub joined : List (List Float) → List Float
joined [] = []
joined (f ∷ fs) = f ++ joined fs

abbrev pub FiniteFrames : List (List Float) → Type 0
FiniteFrames [] = Unit {0}
FiniteFrames (f ∷ fs) = T (all_finite f) × FiniteFrames fs

-- the level after the frames
unfoldable pub level_after : List (List Float) → Level
level_after fs = foldl (λ l f. (frame_of l f).level) fresh_of fs

-- what BS.1770 says of the samples
abbrev pub bs1770 : List Float → Reading
bs1770 xs = record {
  power = power (weighted (reverse xs));
  momentary = record { 0 = momentary xs };
  short_term = record { 0 = short_term xs };
  fast = record { 0 = fast xs };
}

-- THE PROMISE: after any frames, one frame more reads what BS.1770 says of all samples heard
abbrev pub ReadsBs1770 : Type 0
ReadsBs1770 = (fs : List (List Float)) (f : List Float) → Whole fs → length f ≡ frame_length → (frame_of (level_after fs) f).reading ≡ bs1770 (heard fs ++ map clean_of f)

-- and where every sample is finite, what is heard are the samples themselves
abbrev pub HearsSamples : Type 0
HearsSamples = (fs : List (List Float)) → FiniteFrames fs → heard fs ≡ joined fs

-- momentary and short-term are the same while 3 s and 400 ms have the same frames, up to the 40th since the strand was fresh
abbrev pub EarlyFrames : Type 0
EarlyFrames =
    (fs : List (List Float)) (f : List Float) → Whole fs → length f ≡ frame_length → length fs < momentary_frames
    → (frame_of (level_after fs) f).reading.momentary ≡ (frame_of (level_after fs) f).reading.short_term

-- and the first one reads its own power
abbrev pub FirstFrame : Type 0
FirstFrame =
    (f : List Float) → length f ≡ frame_length
    → ((frame_of fresh_of f).reading.momentary ≡ lufs_of (frame_of fresh_of f).reading.power)
    × ((frame_of fresh_of f).reading.short_term ≡ lufs_of (frame_of fresh_of f).reading.power)
