-- For each strand the samples that are left, from the state that it has, come to the same.
use mathlib.Core.Path.{◌≡◌}
use mathlib.Core.List.{foldl}
use lib.ListN.{drop}
use lib.Ieee.{Float}
use Rattle.level.specs.declared.Weighing.{Weighing}
use Rattle.level.specs.Weighing.{step_of}
use Rattle.level.specs.Rest.{held_step}
use Rattle.paired_filters.proofs.weigh_beside.Given as goal

abbrev pub held : Float → Weighing → Float → Weighing
held v w x = held_step v w

abbrev pub invariant-loop-y : goal.invariant-loop-y
invariant-loop-y l =
    (foldl (held l.v) l.first (drop l.y-index l.ys) ≡ foldl (held l.v) l.initial.first l.ys)
    × (foldl step_of l.second (drop l.y-index l.ys) ≡ foldl step_of l.initial.second l.ys)
