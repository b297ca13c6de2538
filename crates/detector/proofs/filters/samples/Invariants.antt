-- `samples` meets its contract. The loop's invariant: the first i places have the samples, and the rest is as it was.
use Rattle.std.proofs.Common.{◌≡◌, length, take, drop}
use Rattle.detector.proofs.filters.samples.Given as goal

abbrev pub invariant-loop-i : goal.invariant-loop-i
invariant-loop-i l =
    (take l.i l.to ≡ take l.i (take (length l.initial.to) l.xs))
    × (drop l.i l.to ≡ drop l.i l.initial.to)
