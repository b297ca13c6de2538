-- `Level::frame` of several channels, on lists: a channel for each weight.
use Rattle.std.specs.Prelude.{ℕ, zero, suc, ◌*◌, Bool, ◌&&◌, List, [], ◌∷◌, map, length, take, drop, Float}
use Rattle.float.specs.Arithmetic.{zero64}
use Rattle.float.specs.AllFinite.{all_finite}
use Rattle.sequence.specs.All.{all}
use Rattle.sequence.specs.History.{laid}
use Rattle.biquad.specs.Tick.{at_rest}
use Rattle.level.specs.declared.Weighing.{Weighing}
use Rattle.level.specs.declared.Joint.{Joint}
use Rattle.level.specs.Level.{Powers}
use Rattle.level.specs.declared.Reading.{Reading}
use Rattle.level.specs.declared.Read.{Read}
use Rattle.level.specs.Bs1770.{frame_length}
use Rattle.level.specs.Weighing.{run_of}
use Rattle.level.specs.Level.{no_channel, joined_of, read_of, stored_of}
use Rattle.channels.specs.declared.Channel.{Channel}

-- ---- a channel, before and after a frame's samples

-- that has heard nothing
abbrev pub resting : Channel
resting = record { shelf = at_rest; high_pass = at_rest; fast = zero64 }

abbrev pub begin_of : Channel → Weighing
begin_of c = record { shelf = c.shelf; high_pass = c.high_pass; fast = c.fast; energy = zero64 }

abbrev pub kept_of : Weighing → Channel
kept_of w = record { shelf = w.shelf; high_pass = w.high_pass; fast = w.fast }

-- ---- the channels' samples, one channel after the other

-- those of n channels, 480 each
unfoldable pub parts : ℕ → List Float → List (List Float)
parts zero xs = []
parts (suc n) xs = take frame_length xs ∷ parts n (drop frame_length xs)

-- those of the channel with this number, from 0 on
abbrev pub samples_of : ℕ → List Float → List Float
samples_of c xs = take frame_length (drop (c * frame_length) xs)

-- each channel's own filters over its samples
unfoldable pub weighings : List Channel → List (List Float) → List Weighing
weighings [] xss = []
weighings (c ∷ cs) [] = []
weighings (c ∷ cs) (xs ∷ xss) = run_of (begin_of c) xs ∷ weighings cs xss

-- those of the first n channels
abbrev pub weighings_of : List Channel → ℕ → List Float → List Weighing
weighings_of cs n xs = weighings cs (parts n xs)

-- ---- what follows the filters

-- each channel's power and fast mean square, by its weight, added in channel order
unfoldable pub join_all : Joint → List Float → List Weighing → Joint
join_all j [] ws = j
join_all j (b ∷ bs) [] = j
join_all j (b ∷ bs) (w ∷ ws) = join_all (joined_of j b w frame_length) bs ws

-- what the channels store, and whether all of it is finite
unfoldable pub stored_finite : Weighing → Bool
stored_finite w = all_finite (stored_of w)

unfoldable pub all_stored : List Weighing → Bool
all_stored ws = all stored_finite ws

-- the channels after a frame; those that were not run stay
unfoldable pub kept_in : List Channel → List Weighing → List Channel
kept_in cs ws = laid (map kept_of ws) cs

-- ---- a frame

-- the level of several channels: each with its own filters, and one list of powers
pub record JointLevel : Type 0 where
  pub channels : List Channel
  pub powers : Powers

-- the level after a frame, what it reads, and whether every number that is stored, answered or handed to the logarithm is finite
pub record JointFramed : Type 0 where
  pub level : JointLevel
  pub reading : Reading
  pub finite : Bool

abbrev pub joint_framed_of : List Channel → List Weighing → Read → JointFramed
joint_framed_of cs ws r = record {
  level = record { channels = kept_in cs ws; powers = r.powers };
  reading = r.reading;
  finite = all_stored ws && r.finite;
}

unfoldable pub finish_joint : JointLevel → List Float → List Weighing → JointFramed
finish_joint j weights ws = joint_framed_of j.channels ws (read_of (join_all no_channel weights ws) j.powers)

-- the first channels are in use, as many as there are weights
unfoldable pub joint_frame_of : JointLevel → List Float → List Float → JointFramed
joint_frame_of j weights xs = finish_joint j weights (weighings_of j.channels (length weights) xs)
