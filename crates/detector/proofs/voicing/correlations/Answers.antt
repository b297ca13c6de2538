-- `correlations` meets its contract. The loop's invariant: the rows so far are right; a row more is by `row-turn`.
use Rattle.std.proofs.Common.{ℕ, ◌<◌, arith}
use Rattle.detector.proofs.Lagged.{rows-at}
use Rattle.detector.proofs.voicing.correlations.Goals as goal

pub returns : goal.returns
returns c =
    let l = c.loop-i in
    λ (k : ℕ) (h : k < 64). rows-at c.args.x.now l.sums-items l.i k (omega arith) l.invariant.2 (omega (arith, h))
