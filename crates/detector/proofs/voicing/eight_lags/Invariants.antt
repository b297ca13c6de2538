-- `eight_lags` meets its contract. The loop's invariant: for each lag the products that are left, from the sum so far, come to its correlation.
use Rattle.std.proofs.Common.{◌≡◌, ◌+◌, length}
use Rattle.detector.specs.EightLags.{Left}
use Rattle.detector.proofs.voicing.eight_lags.Given as goal

abbrev pub invariant-loop-i : goal.invariant-loop-i
invariant-loop-i l = (l.n + 7 + l.lag ≡ length l.x) × Left l.x l.lag l.i l.e
