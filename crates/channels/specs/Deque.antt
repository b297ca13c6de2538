-- The Rust's `Level::frame` of several channels: the weights, the filters and the fast numbers are lists, and the deque of powers is a list, oldest first.
use Rattle.std.specs.Prelude.{ℕ, List, [], ◌∷◌, map, length, take, replicate, Float}
use Rattle.sequence.specs.History.{held}
use Rattle.level.specs.declared.Weighing.{Weighing}
use Rattle.level.specs.declared.Joint.{Joint}
use Rattle.level.specs.declared.Reading.{Reading}
use Rattle.level.specs.declared.Level.{Level}
use Rattle.level.specs.Level.{no_channel, joined_of}
use Rattle.level.specs.Deque.{answered, frames_with}
use Rattle.layout.specs.Weights.{used_weights}
use Rattle.channels.specs.declared.Channel.{Channel}
use Rattle.channels.specs.declared.Surround.{Surround}
use Rattle.channels.specs.Channels.{resting, kept_of, weighings, JointLevel}
use Rattle.channels.specs.Surround.{joint_of}

-- `filters` and `fast`, channel by channel, and `frames`
pub record Meters : Type 0 where
  pub channels : List Channel
  pub frames : List Float

-- `Level::new`, for n weights
abbrev pub new_meters : ℕ → Meters
new_meters n = record { channels = replicate n resting; frames = [] }

-- `power` and `fast` after all channels; each channel's energy is divided by the number of its own samples
unfoldable pub meter_join : Joint → List Float → List Weighing → List (List Float) → Joint
meter_join j [] ws chans = j
meter_join j (b ∷ bs) [] chans = j
meter_join j (b ∷ bs) (w ∷ ws) [] = j
meter_join j (b ∷ bs) (w ∷ ws) (x ∷ chans) = meter_join (joined_of j b w (length x)) bs ws chans

abbrev pub jointly : List Float → Meters → List (List Float) → Joint
jointly weights m chans = meter_join no_channel weights (weighings m.channels chans) chans

-- `frame`, with as many channels as weights
unfoldable pub meters_next : List Float → Meters → List (List Float) → Meters
meters_next weights m chans = record { channels = map kept_of (weighings m.channels chans); frames = frames_with m.frames (jointly weights m chans) }

unfoldable pub meters_reading : List Float → Meters → List (List Float) → Reading
meters_reading weights m chans = answered (jointly weights m chans) (frames_with m.frames (jointly weights m chans))

-- what a record of the port stands for, with n channels
abbrev pub meters_of : ℕ → JointLevel → Meters
meters_of n j = record { channels = take n j.channels; frames = held j.powers.count j.powers.list }

-- and what a chain's bed stands for
abbrev pub bed_meters : Level → Surround → Meters
bed_meters l s = meters_of (length (used_weights s.layout)) (joint_of l s)
