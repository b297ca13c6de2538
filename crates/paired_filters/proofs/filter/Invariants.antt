-- For each strand and both kinds of filters the samples that are left, from the state that they have, come to the same, and so do the outputs stored
-- with those that are left.
use mathlib.Core.Path.{◌≡◌}
use mathlib.Core.List.{◌++◌, foldl}
use lib.ListN.{length, take, drop}
use Rattle.level.specs.Weighing as weighing
use Rattle.detector.specs.Filters.{step_of, outputs_of}
use Rattle.paired_filters.proofs.filter.Given as goal

abbrev pub invariant-loop-i : goal.invariant-loop-i
invariant-loop-i l =
    (length l.key_pitch ≡ 480)
    × (length l.bed_pitch ≡ 480)
    × (foldl weighing.step_of l.v (drop l.i l.xs) ≡ foldl weighing.step_of l.initial.v l.xs)
    × (foldl weighing.step_of l.w (drop l.i l.ys) ≡ foldl weighing.step_of l.initial.w l.ys)
    × (foldl step_of l.p (drop l.i l.xs) ≡ foldl step_of l.initial.p l.xs)
    × (foldl step_of l.q (drop l.i l.ys) ≡ foldl step_of l.initial.q l.ys)
    × (take l.i l.key_pitch ++ outputs_of l.p (drop l.i l.xs) ≡ outputs_of l.initial.p l.xs)
    × (take l.i l.bed_pitch ++ outputs_of l.q (drop l.i l.ys) ≡ outputs_of l.initial.q l.ys)
