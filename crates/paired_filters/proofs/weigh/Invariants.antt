-- For each strand the samples that are left, from the state that it has, come to the same.
use mathlib.Core.Path.{◌≡◌}
use mathlib.Core.List.{foldl}
use lib.ListN.{drop}
use Rattle.level.specs.Weighing.{step_of}
use Rattle.paired_filters.proofs.weigh.Given as goal

abbrev pub invariant-loop-i : goal.invariant-loop-i
invariant-loop-i l =
    (foldl step_of l.k (drop l.i l.xs) ≡ foldl step_of l.initial.k l.xs)
    × (foldl step_of l.b (drop l.i l.ys) ≡ foldl step_of l.initial.b l.ys)
