-- `Layout::weights` meets its contract. The loop's invariant: the first i places are filled.
use mathlib.Core.Path.{◌≡◌}
use mathlib.Core.List.{map}
use lib.ListN.{take}
use Rattle.sequence.specs.History.{laid}
use Rattle.layout.specs.Weights.{weight_of, no_weights}
use Rattle.layout.proofs.Layout.weights.Given as goal

abbrev pub invariant-loop-i : goal.invariant-loop-i
invariant-loop-i l = l.weights ≡ laid (map weight_of (take l.i l.place-items)) no_weights
