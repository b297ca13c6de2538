-- For each channel the samples that are left, from the state that it has, come to the same.
use mathlib.Core.Path.{◌≡◌}
use mathlib.Core.List.{foldl}
use lib.ListN.{drop}
use lib.Ieee.{Float}
use Rattle.level.specs.declared.Weighing.{Weighing}
use Rattle.level.specs.Weighing.{clean_of, step_of}
use Rattle.channels.specs.Fours.{Whole}
use Rattle.channels.proofs.fours.weigh_four.Given as goal

-- one sample, as it is heard
abbrev pub hear : Weighing → Float → Weighing
hear w v = step_of w (clean_of v)

abbrev pub invariant-loop-i : goal.invariant-loop-i
invariant-loop-i l =
    Whole l.xs0
    × Whole l.xs1
    × Whole l.xs2
    × Whole l.xs3
    × (foldl hear l.a (drop l.i l.xs0) ≡ foldl hear l.initial.a l.xs0)
    × (foldl hear l.b (drop l.i l.xs1) ≡ foldl hear l.initial.b l.xs1)
    × (foldl hear l.c (drop l.i l.xs2) ≡ foldl hear l.initial.c l.xs2)
    × (foldl hear l.d (drop l.i l.xs3) ≡ foldl hear l.initial.d l.xs3)
