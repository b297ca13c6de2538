-- The bed's level as a chain keeps it: the strand's level, whose channel is the bed's first, and beside it the layout and channels 2 to 8.
use Rattle.std.specs.Prelude.{ℕ, List, ◌∷◌, length, drop, get_or, replicate, Float}
use Rattle.level.specs.declared.Weighing.{Weighing}
use Rattle.level.specs.Level.{Powers}
use Rattle.level.specs.declared.Level.{Level}
use Rattle.level.specs.Bs1770.{frame_length}
use Rattle.level.specs.Level.{no_channel, joined_of}
use Rattle.layout.specs.declared.Layout.{Layout}
use Rattle.layout.specs.Layout.{blank, mono_of}
use Rattle.layout.specs.Weights.{weight_of, used_weights}
use Rattle.channels.specs.declared.Channel.{Channel}
use Rattle.channels.specs.declared.Surround.{Surround}
use Rattle.channels.specs.declared.Filtered.{Filtered}
use Rattle.channels.specs.declared.BedFramed.{BedFramed}
use Rattle.channels.specs.Channels.{resting, kept_of, weighings_of, join_all, stored_finite, all_stored, kept_in, JointLevel, JointFramed, joint_frame_of}

-- channels 2 to 8
abbrev pub other_channels : ℕ
other_channels = 7

unfoldable pub resting_others : List Channel
resting_others = replicate other_channels resting

-- a layout's, with its channels at rest
abbrev pub resting_of : Layout → Surround
resting_of l = record { layout = l; others = resting_others }

-- a fresh chain's
abbrev pub mono_surround : Surround
mono_surround = resting_of mono_of

-- ---- the level of all channels, of the strand's level and the others

abbrev pub own_of : Level → Channel
own_of l = record { shelf = l.shelf; high_pass = l.high_pass; fast = l.fast }

abbrev pub joint_of : Level → Surround → JointLevel
joint_of l s = record { channels = own_of l ∷ s.others; powers = l.powers }

-- ---- and back

abbrev pub level_of : Channel → Powers → Level
level_of c p = record { shelf = c.shelf; high_pass = c.high_pass; fast = c.fast; powers = p }

abbrev pub bed_framed_of : Layout → JointFramed → BedFramed
bed_framed_of l f = record {
  framed = record { level = level_of (get_or f.level.channels 0 resting) f.level.powers; reading = f.reading; finite = f.finite };
  surround = record { layout = l; others = drop 1 f.level.channels };
}

-- a frame, with the weights of the layout's channels
unfoldable pub bed_frame_of : Level → Surround → List Float → BedFramed
bed_frame_of l s xs = bed_framed_of s.layout (joint_frame_of (joint_of l s) (used_weights s.layout) xs)

-- ---- in the code's steps: what the filters leave, then what the sums over the channels read

unfoldable pub filtered_by : List Channel → List Float → List Weighing → Filtered
filtered_by cs weights ws = record {
  joint = join_all no_channel weights ws;
  finite = all_stored ws;
  own = get_or (kept_in cs ws) 0 resting;
  others = drop 1 (kept_in cs ws);
}

-- of all channels, c being the level's own
unfoldable pub filtered_of : Surround → Channel → List Float → Filtered
filtered_of s c xs = filtered_by (c ∷ s.others) (used_weights s.layout) (weighings_of (c ∷ s.others) (length (used_weights s.layout)) xs)

-- to save time: the same where the layout has one channel, whose filters after the frame are w
unfoldable pub filtered_one : Surround → Weighing → Filtered
filtered_one s w = record {
  joint = joined_of no_channel (weight_of (get_or s.layout.places 0 blank)) w frame_length;
  finite = stored_finite w;
  own = kept_of w;
  others = s.others;
}
