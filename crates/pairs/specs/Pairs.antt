-- Two channels' or strands' numbers side by side, and those of one of them, to save time. No meaning rests on it.
use Rattle.biquad.specs.declared.State.{State}
use Rattle.level.specs.declared.Weighing.{Weighing}
use Rattle.pairs.specs.declared.Pair.{Pair}
use Rattle.pairs.specs.declared.Place.{Place}
use Rattle.pairs.specs.declared.Place.TheVariants.{First, Second}
use Rattle.pairs.specs.declared.States.{States}
use Rattle.pairs.specs.declared.WeighedPairs.{WeighedPairs}

abbrev pub states_of : State → State → States
states_of s t = record { z1 = record { first = s.z1; second = t.z1 }; z2 = record { first = s.z2; second = t.z2 } }

abbrev pub weighed_pairs : Weighing → Weighing → WeighedPairs
weighed_pairs v w = record {
  shelf = states_of v.shelf w.shelf;
  high_pass = states_of v.high_pass w.high_pass;
  fast = record { first = v.fast; second = w.fast };
  energy = record { first = v.energy; second = w.energy };
}

-- ---- one of the two

abbrev pub value_at : {T : Type 0} → Pair T → Place → T
value_at p First = p.first
value_at p Second = p.second

abbrev pub state_at : States → Place → State
state_at s place = record { z1 = value_at s.z1 place; z2 = value_at s.z2 place }

abbrev pub weighing_at : WeighedPairs → Place → Weighing
weighing_at p place = record {
  shelf = state_at p.shelf place;
  high_pass = state_at p.high_pass place;
  fast = value_at p.fast place;
  energy = value_at p.energy place;
}
