-- Four channels' filters, pair beside pair, to save time. No meaning rests on it.
use Rattle.std.specs.Prelude.{◌≡◌, List, T, length, Float}
use Rattle.float.specs.AllFinite.{all_finite}
use Rattle.level.specs.declared.Weighing.{Weighing}
use Rattle.level.specs.Bs1770.{frame_length}
use Rattle.pairs.specs.declared.Pair.{Pair}
use Rattle.pairs.specs.declared.WeighedPairs.{WeighedPairs}
use Rattle.pairs.specs.Pairs.{weighed_pairs}

-- a channel's 480 samples, all finite
pub record Whole (xs : List Float) : Type 0 where
  pub samples : length xs ≡ frame_length
  pub finite : T (all_finite xs)

abbrev pub four_of : Weighing → Weighing → Weighing → Weighing → Pair WeighedPairs
four_of u v w x = record { first = weighed_pairs u v; second = weighed_pairs w x }
