-- The channels' filters in any order: which channels have been run, and that these are right. No meaning rests on it.
use Rattle.std.specs.Prelude.{ℕ, ◌<◌, ◌≡◌, Option, Some, None, List, length, get_or, set, Float}
use Rattle.std.specs.Float.{nan}
use Rattle.biquad.specs.declared.State.{State}
use Rattle.level.specs.declared.Weighing.{Weighing}
use Rattle.level.specs.Weighing.{run_of}
use Rattle.layout.specs.Layout.{most}
use Rattle.pairs.specs.declared.Pair.{Pair}
use Rattle.pairs.specs.declared.WeighedPairs.{WeighedPairs}
use Rattle.pairs.specs.declared.Place.TheVariants.{First, Second}
use Rattle.pairs.specs.Pairs.{weighing_at}
use Rattle.channels.specs.declared.Channel.{Channel}
use Rattle.channels.specs.declared.run.Four.{Four}
use Rattle.channels.specs.Channels.{begin_of, samples_of}

-- ---- what an array answers past its end

abbrev pub past_state : State
past_state = record { z1 = nan; z2 = nan }

abbrev pub past_channel : Channel
past_channel = record { shelf = past_state; high_pass = past_state; fast = nan }

abbrev pub past_weighing : Weighing
past_weighing = record { shelf = past_state; high_pass = past_state; fast = nan; energy = nan }

-- ---- a channel by its number

-- the filters of channel c after a frame
unfoldable pub weighing_of : List Channel → List Float → ℕ → Weighing
weighing_of cs xs c = run_of (begin_of (get_or cs c past_channel)) (samples_of c xs)

-- each of four channels is one of the first m
pub record Below (m : ℕ) (f : Four) : Type 0 where
  pub a : f.a < m
  pub b : f.b < m
  pub c : f.c < m
  pub d : f.d < m

-- ---- the channels that have been run

unfoldable pub put_four : List (Option Weighing) → Four → Pair WeighedPairs → List (Option Weighing)
put_four r f q =
    set (set (set (set r f.a (Some (weighing_at q.first First))) f.b (Some (weighing_at q.first Second))) f.c (Some (weighing_at q.second First))) f.d (Some (weighing_at q.second Second))

-- each channel that has been run is right
pub record Right (cs : List Channel) (xs : List Float) (r : List (Option Weighing)) : Type 0 where
  pub places : length r ≡ most
  pub right : (c : ℕ) (w : Weighing) → get_or r c None ≡ Some w → w ≡ weighing_of cs xs c

-- the first m channels have been run
pub record Complete (cs : List Channel) (xs : List Float) (m : ℕ) (ws : List Weighing) : Type 0 where
  pub places : length ws ≡ most
  pub each : (c : ℕ) → c < m → get_or ws c past_weighing ≡ weighing_of cs xs c
