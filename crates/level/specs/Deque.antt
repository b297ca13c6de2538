-- The Rust's `Level::frame`, of one channel with weight 1: its deque of powers is a list, oldest first.
use Rattle.std.specs.Prelude.{ℕ, min, List, [], length, Float}
use mathlib.Core.List.{foldl}
use Rattle.biquad.specs.declared.State.{State}
use Rattle.biquad.specs.Tick.{at_rest}
use Rattle.sequence.specs.History.{newest, held, pushed}
use Rattle.level.specs.declared.Weighing.{Weighing}
use Rattle.level.specs.declared.Joint.{Joint}
use Rattle.level.specs.declared.Reading.{Reading}
use Rattle.level.specs.declared.Level.{Level}
use Rattle.level.specs.Bs1770.{momentary_frames, short_term_frames}
use Rattle.float.specs.Arithmetic.{◌⊕◌, ◌⊘◌, zero64, one64, whole}
use Rattle.level.specs.Weighing.{run_of}
use Rattle.level.specs.Level.{no_channel, joined_of, lufs_of}

pub record Meter : Type 0 where
  pub shelf : State
  pub high_pass : State
  pub fast : Float
  pub frames : List Float

-- `Level::new`
abbrev pub new_meter : Meter
new_meter = record { shelf = at_rest; high_pass = at_rest; fast = zero64; frames = [] }

-- the loop over the channel's samples
abbrev pub meter_run : Meter → List Float → Weighing
meter_run m xs = run_of (record { shelf = m.shelf; high_pass = m.high_pass; fast = m.fast; energy = zero64 }) xs

-- `frames.iter().rev().take(n).sum() / frames.len().min(n)`
unfoldable pub deque_mean : ℕ → List Float → Float
deque_mean n frames = foldl ◌⊕◌ zero64 (newest n frames) ⊘ whole (min (length frames) n)

-- what is kept
abbrev pub kept : Weighing → List Float → Meter
kept w frames = record { shelf = w.shelf; high_pass = w.high_pass; fast = w.fast; frames = frames }

-- what is answered, with the frame's power among the frames
abbrev pub answered : Joint → List Float → Reading
answered j frames = record {
  power = j.power;
  momentary = lufs_of (deque_mean momentary_frames frames);
  short_term = lufs_of (deque_mean short_term_frames frames);
  fast = lufs_of j.fast;
}

-- `power` and `fast` after the one channel, and the frames with this power
abbrev pub joint : Weighing → ℕ → Joint
joint w n = joined_of no_channel one64 w n

abbrev pub frames_with : List Float → Joint → List Float
frames_with frames j = pushed short_term_frames frames j.power

unfoldable pub meter_next : Meter → List Float → Meter
meter_next m xs = kept (meter_run m xs) (frames_with m.frames (joint (meter_run m xs) (length xs)))

unfoldable pub meter_reading : Meter → List Float → Reading
meter_reading m xs = answered (joint (meter_run m xs) (length xs)) (frames_with m.frames (joint (meter_run m xs) (length xs)))

-- what a record of the port stands for
abbrev pub meter_of : Level → Meter
meter_of l = record { shelf = l.shelf; high_pass = l.high_pass; fast = l.fast; frames = held l.powers.count l.powers.list }
