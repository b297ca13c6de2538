-- `Bands::run` meets its contract. The loop's invariant: the samples that are left, from the state that it has, come to the same, and so do the outputs stored with those that are left.
use Rattle.std.proofs.Common.{◌≡◌, ◌++◌, length, take, drop}
use mathlib.Core.List.{foldl}
use Rattle.detector.specs.Filters.{step_of, outputs_of}
use Rattle.detector.proofs.filters.Bands.run.Given as goal

abbrev pub invariant-loop-i : goal.invariant-loop-i
invariant-loop-i l =
    (foldl step_of l.self (drop l.i (take (length l.initial.out) l.xs)) ≡ foldl step_of l.initial.self (take (length l.initial.out) l.xs))
    × (take l.i l.out ++ outputs_of l.self (drop l.i (take (length l.initial.out) l.xs)) ≡ outputs_of l.initial.self (take (length l.initial.out) l.xs))
    × (drop l.i l.out ≡ drop l.i l.initial.out)
