-- `Layout::stored` meets its contract. The loop's invariant: the first i places are filled.
use mathlib.Core.Path.{◌≡◌}
use mathlib.Core.List.{map}
use lib.ListN.{take}
use Rattle.sequence.specs.History.{laid}
use Rattle.layout.specs.Layout.{placed_of, blanks}
use Rattle.layout.proofs.Layout.stored.Given as goal

abbrev pub invariant-loop-i : goal.invariant-loop-i
invariant-loop-i l = l.places ≡ laid (map placed_of (take l.i l.place-items)) blanks
