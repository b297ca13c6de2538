-- Both strands' filters side by side, to save time: what the loops over both come to. No meaning rests on it.
use mathlib.Core.List.{List, foldl}
use Rattle.std.specs.Prelude.{Float}
use Rattle.level.specs.declared.Weighing.{Weighing}
use Rattle.level.specs.Weighing as weighing
use Rattle.level.specs.Rest.{held_run}
use Rattle.detector.specs.declared.filters.Bands.{Bands}
use Rattle.detector.specs.Filters as filters
use Rattle.pairs.specs.declared.Pair.{Pair}
use Rattle.pairs.specs.declared.Place.{Place}
use Rattle.pairs.specs.declared.WeighedPairs.{WeighedPairs}
use Rattle.pairs.specs.Pairs.{value_at, states_of, state_at, weighed_pairs}
use Rattle.paired_filters.specs.declared.BandedPairs.{BandedPairs}
use Rattle.paired_filters.specs.declared.Filtered.{Filtered}

-- ---- both strands' numbers side by side, the key's first, and those of one strand

abbrev pub banded_pairs : Bands → Bands → BandedPairs
banded_pairs k b = record {
  high_pass = states_of k.filters.high_pass b.filters.high_pass;
  low_pass = states_of k.filters.low_pass b.filters.low_pass;
  pitch1 = states_of k.filters.pitch1 b.filters.pitch1;
  pitch2 = states_of k.filters.pitch2 b.filters.pitch2;
  full = record { first = k.full; second = b.full };
  band = record { first = k.band; second = b.band };
  pitch = record { first = k.pitch; second = b.pitch };
}

abbrev pub banded_at : BandedPairs → Place → Bands
banded_at p place = record {
  filters = record {
    high_pass = state_at p.high_pass place;
    low_pass = state_at p.low_pass place;
    pitch1 = state_at p.pitch1 place;
    pitch2 = state_at p.pitch2 place;
  };
  full = value_at p.full place;
  band = value_at p.band place;
  pitch = value_at p.pitch place;
}

-- ---- over their samples

unfoldable pub weighed_of : Weighing → Weighing → List Float → List Float → WeighedPairs
weighed_of k b xs ys = weighed_pairs (foldl weighing.step_of k xs) (foldl weighing.step_of b ys)

-- the filters of a strand whose shelf's output is v for each sample of a frame, and those of the other strand over ys
unfoldable pub beside_of : Float → Weighing → Weighing → List Float → Pair Weighing
beside_of v h o ys = record { first = held_run v h ys; second = foldl weighing.step_of o ys }

unfoldable pub banded_of : Bands → Bands → List Float → List Float → BandedPairs
banded_of k b xs ys = banded_pairs (foldl filters.step_of k xs) (foldl filters.step_of b ys)

-- both strands' filters over their samples
unfoldable pub filtered_of : Pair Weighing → Pair Bands → List Float → List Float → Filtered
filtered_of w f xs ys = record { weighed = weighed_of w.first w.second xs ys; banded = banded_of f.first f.second xs ys }
