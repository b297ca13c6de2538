-- For each strand the samples that are left, from the state that it has, come to the same, and so do the outputs stored with those that are left.
use mathlib.Core.Path.{◌≡◌}
use mathlib.Core.List.{◌++◌, foldl}
use lib.ListN.{length, take, drop}
use Rattle.detector.specs.Filters.{step_of, outputs_of}
use Rattle.paired_filters.proofs.band.Given as goal

abbrev pub invariant-loop-i : goal.invariant-loop-i
invariant-loop-i l =
    (length l.key_pitch ≡ 480)
    × (length l.bed_pitch ≡ 480)
    × (foldl step_of l.k (drop l.i l.xs) ≡ foldl step_of l.initial.k l.xs)
    × (foldl step_of l.b (drop l.i l.ys) ≡ foldl step_of l.initial.b l.ys)
    × (take l.i l.key_pitch ++ outputs_of l.k (drop l.i l.xs) ≡ outputs_of l.initial.k l.xs)
    × (take l.i l.bed_pitch ++ outputs_of l.b (drop l.i l.ys) ≡ outputs_of l.initial.b l.ys)
