-- What the bed's channels have heard after a list of frames, and what the level is to read then. Frames and samples run oldest first.
use Rattle.std.specs.Prelude.{ℕ, ◌*◌, ◌≤◌, ◌≡◌, T, length, replicate, Float}
use mathlib.Core.List.{List, [], ◌∷◌, ◌++◌, map, foldl}
use Rattle.float.specs.Arithmetic.{zero64, one64}
use Rattle.float.specs.AllFinite.{all_finite}
use Rattle.level.specs.declared.Level.{Level}
use Rattle.level.specs.Bs1770.{frame_length, short_term_frames}
use Rattle.level.specs.Weighing.{clean_of}
use Rattle.sequence.specs.Latest.{no_values}
use Rattle.level.specs.Level.{fresh_of, frame_of}
use Rattle.level.specs.Heard as level
use Rattle.layout.specs.declared.Layout.{Layout}
use Rattle.layout.specs.Layout.{mono_of}
use Rattle.layout.specs.Weights.{used_weights}
use Rattle.channels.specs.declared.Surround.{Surround}
use Rattle.channels.specs.Bs1770.{Source, bs1770}
use Rattle.channels.specs.Channels.{resting, parts, JointLevel, joint_frame_of}
use Rattle.channels.specs.Surround.{other_channels, resting_of, joint_of, bed_frame_of}
use Rattle.channels.specs.Deque.{meters_of, meters_next, meters_reading, bed_meters}

-- ---- what was heard

-- each frame has 480 samples for each of n channels
abbrev pub Whole : ℕ → List (List Float) → Type 0
Whole n [] = Unit {0}
Whole n (f ∷ fs) = (length f ≡ n * frame_length) × Whole n fs

-- two lists for each channel, one after the other
unfoldable pub each : List (List Float) → List (List Float) → List (List Float)
each [] ys = []
each (x ∷ xs) [] = []
each (x ∷ xs) (y ∷ ys) = (x ++ y) ∷ each xs ys

-- a frame as its n channels hear it: 0 in place of a sample that isn't finite
abbrev pub cleaned : ℕ → List Float → List (List Float)
cleaned n f = map (map clean_of) (parts n f)

-- all samples of each of n channels
unfoldable pub heard : ℕ → List (List Float) → List (List Float)
heard n [] = replicate n []
heard n (f ∷ fs) = each (cleaned n f) (heard n fs)

-- with their weights
unfoldable pub sources : List Float → List (List Float) → List Source
sources [] xs = []
sources (b ∷ bs) [] = []
sources (b ∷ bs) (x ∷ xs) = record { weight = b; samples = x } ∷ sources bs xs

-- ---- what is to be read

-- the level of n channels that has heard nothing, and that after the frames
abbrev pub fresh_joint : ℕ → JointLevel
fresh_joint n = record { channels = replicate n resting; powers = no_values short_term_frames zero64 }

unfoldable pub joint_after : List Float → List (List Float) → JointLevel
joint_after weights fs = foldl (λ (j : JointLevel) (f : List Float). (joint_frame_of j weights f).level) (fresh_joint (length weights)) fs

-- THE PROMISE: after any frames of any number of channels, with any weights, one frame more reads what BS.1770 says of all samples that the channels heard
abbrev pub ReadsBs1770 : Type 0
ReadsBs1770 =
    (ws : List Float) (fs : List (List Float)) (f : List Float) → Whole (length ws) fs → length f ≡ length ws * frame_length
    → (joint_frame_of (joint_after ws fs) ws f).reading ≡ bs1770 (sources ws (each (heard (length ws) fs) (cleaned (length ws) f)))

-- where every sample is finite, what is heard are the samples themselves
abbrev pub HearsSamples : Type 0
HearsSamples = (n : ℕ) (f : List Float) → T (all_finite f) → cleaned n f ≡ parts n f

-- and on any state it keeps and reads what the Rust does
abbrev pub KeepsDeque : Type 0
KeepsDeque =
    (ws : List Float) (j : JointLevel) (f : List Float) → length ws ≤ length j.channels → length j.powers.list ≡ short_term_frames → length f ≡ length ws * frame_length
    → (meters_of (length ws) (joint_frame_of j ws f).level ≡ meters_next ws (meters_of (length ws) j) (parts (length ws) f))
    × ((joint_frame_of j ws f).reading ≡ meters_reading ws (meters_of (length ws) j) (parts (length ws) f))

-- ---- the same of a chain's bed, on any layout

-- how many channels a layout has in use
abbrev pub channels_of : Layout → ℕ
channels_of l = length (used_weights l)

-- a frame's samples, channel by channel
abbrev pub channels_in : Layout → List Float → List (List Float)
channels_in l bed = parts (channels_of l) bed

-- a strand's level, and what a chain keeps beside it
pub record Bed : Type 0 where
  pub level : Level
  pub surround : Surround

abbrev pub bed_next : Bed → List Float → Bed
bed_next b f = record { level = (bed_frame_of b.level b.surround f).framed.level; surround = (bed_frame_of b.level b.surround f).surround }

-- after the frames since the level was fresh on this layout
unfoldable pub bed_after : Layout → List (List Float) → Bed
bed_after l fs = foldl bed_next (record { level = fresh_of; surround = resting_of l }) fs

-- what the channels of a layout hear, with their weights
abbrev pub bed_heard : Layout → List (List Float) → List Float → List Source
bed_heard l fs f = sources (used_weights l) (each (heard (channels_of l) fs) (cleaned (channels_of l) f))

-- THE PROMISE, on any layout
abbrev pub ReadsLayout : Type 0
ReadsLayout =
    (l : Layout) (fs : List (List Float)) (f : List Float) → Whole (channels_of l) fs → length f ≡ channels_of l * frame_length
    → (bed_frame_of (bed_after l fs).level (bed_after l fs).surround f).framed.reading ≡ bs1770 (bed_heard l fs f)

abbrev pub KeepsLayout : Type 0
KeepsLayout =
    (l : Level) (s : Surround) (f : List Float) → length s.others ≡ other_channels → length l.powers.list ≡ short_term_frames → length f ≡ channels_of s.layout * frame_length
    → (bed_meters (bed_frame_of l s f).framed.level (bed_frame_of l s f).surround ≡ meters_next (used_weights s.layout) (bed_meters l s) (parts (channels_of s.layout) f))
    × ((bed_frame_of l s f).framed.reading ≡ meters_reading (used_weights s.layout) (bed_meters l s) (parts (channels_of s.layout) f))

-- ---- one channel of weight 1 is the key's level

-- in what BS.1770 says of its samples
abbrev pub OneSource : Type 0
OneSource = (xs : List Float) → bs1770 (record { weight = one64; samples = xs } ∷ []) ≡ level.bs1770 xs

-- and in a frame: the other channels stay
abbrev pub OneIsLevel : Type 0
OneIsLevel =
    (l : Level) (s : Surround) (f : List Float) → length f ≡ frame_length
    → ((joint_frame_of (joint_of l s) (one64 ∷ []) f).level ≡ joint_of (frame_of l f).level s)
    × ((joint_frame_of (joint_of l s) (one64 ∷ []) f).reading ≡ (frame_of l f).reading)
    × ((joint_frame_of (joint_of l s) (one64 ∷ []) f).finite ≡ (frame_of l f).finite)

-- so a fresh chain's bed is the level that it was
abbrev pub MonoIsLevel : Type 0
MonoIsLevel =
    (l : Level) (s : Surround) (f : List Float) → s.layout ≡ mono_of → length f ≡ frame_length
    → bed_frame_of l s f ≡ record { framed = frame_of l f; surround = s }
