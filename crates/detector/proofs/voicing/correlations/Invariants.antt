-- `correlations` meets its contract. The loop's invariant: the rows so far are right.
use Rattle.std.proofs.Common.{◌≡◌, length}
use Rattle.detector.proofs.Lagged.{Rows}
use Rattle.detector.proofs.voicing.correlations.Given as goal

abbrev pub invariant-loop-i : goal.invariant-loop-i
invariant-loop-i l = (length l.x ≡ 240) × (length l.sums-items ≡ 8) × Rows l.x l.sums-items l.i
