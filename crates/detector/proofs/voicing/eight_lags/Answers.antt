-- `eight_lags` meets its contract. The loop's invariant: for each lag the products that are left, from the sum so far, come to its correlation.
use Rattle.std.proofs.Common.{sym, subst, arith, ℕ}
use Rattle.detector.specs.EightLags.{Left}
use Rattle.detector.proofs.Lagged.{left-start}
use Rattle.detector.proofs.voicing.eight_lags.Goals as goal

pub loop-i-init : goal.loop-i-init
loop-i-init c =
    let a = c.args in
    (omega arith, subst (Left a.x.now a.lag 0) (sym c.new-e.ensures) (left-start a.x.now a.lag))

pub loop-i-preserved : goal.loop-i-preserved
loop-i-preserved c =
    let l = c.loop-i in
    (l.invariant.0, c.more-e.ensures l.invariant.1)

pub returns : goal.returns
returns c = c.rest.ensures (subst (λ (i : ℕ). Left c.args.x.now c.args.lag i c.loop-i.e) (omega arith) c.loop-i.invariant.1)
