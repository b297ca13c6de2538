-- `Ends::lags` meets its contract. The loop's invariant: the lags that are left, from the ends so far, come to the same.
use Rattle.std.proofs.Common.{◌≡◌, ℕ, ◌+◌, ◌-◌, ◌≤◌, List, get_or, ap, ◌∙◌, ap₂, arith}
use lib.Ieee.{Float, nan}
use Rattle.detector.proofs.Scanned.{lags-turn, lags-end}
use Rattle.detector.specs.Voicing.{correlation_of, turn_of, lag_of}
use Rattle.detector.proofs.voicing.Ends.lags.Goals as goal

back : (lag : ℕ) → 15 ≤ lag → lag - 15 + 15 ≡ lag
back lag h = omega arith

pub loop-lag-preserved : goal.loop-lag-preserved
unfolding lag_of
loop-lag-preserved c =
    let l = c.loop-lag in
    let x = c.args.x.now in
    let sums = c.as_flattened-sums in
    let right : get_or sums.result.now (l.lag - 15) nan ≡ correlation_of x l.lag =
    ap (λ (xs : List Float). get_or xs (l.lag - 15) nan) sums.ensures.value
    ∙ c.correlations-eights.ensures (l.lag - 15) (omega arith)
    ∙ ap (correlation_of x) (back l.lag (omega arith)) in
    lags-turn x l.self c.turn-self.result (76 - l.lag) _ l.lag (c.turn-self.ensures ∙ ap₂ turn_of c.at_lag-e.ensures right) (omega arith) ∙ l.invariant

pub returns : goal.returns
returns c =
    let l = c.loop-lag in
    lags-end c.args.x.now l.self (76 - l.lag) l.lag (omega arith) ∙ l.invariant
