-- The first i places are filled.
use mathlib.Core.Path.{◌≡◌}
use mathlib.Core.List.{map}
use lib.ListN.{length, take}
use Rattle.sequence.specs.History.{laid}
use Rattle.channels.specs.Channels.{kept_of}
use Rattle.channels.proofs.keep.Given as goal

abbrev pub invariant-loop-i : goal.invariant-loop-i
invariant-loop-i l = (length l.initial.v ≡ 8) × (length l.v ≡ 8) × (l.v ≡ laid (map kept_of (take l.i l.ws)) l.initial.v)
