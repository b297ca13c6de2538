-- `decimate` meets its contract. The loop's invariant: the first places have what is kept.
use Rattle.std.proofs.Common.{◌≡◌, length, take}
use Rattle.detector.specs.Filters.{kept_of}
use Rattle.detector.proofs.filters.decimate.Given as goal

abbrev pub invariant-loop-i : goal.invariant-loop-i
invariant-loop-i l = (length l.y-items ≡ 60) × (take l.i l.y-items ≡ take l.i (kept_of l.ys))
