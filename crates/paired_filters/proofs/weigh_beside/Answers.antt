-- `weigh_beside` meets its contract.
use native.Mathlib.Omega.{arith}
use mathlib.Core.Path.{◌∙◌}
use lib.Ieee.{nan}
use Rattle.sequence.proofs.Fold.{fold-turn, fold_end}
use Rattle.level.specs.Weighing.{step_of}
use Rattle.level.specs.Rest.{held_run}
use Rattle.paired_filters.specs.Pairs.{beside_of}
use Rattle.paired_filters.proofs.weigh_beside.Invariants.{held}
use Rattle.paired_filters.proofs.weigh_beside.Goals as goal

pub loop-y-preserved : goal.loop-y-preserved
loop-y-preserved c =
    let l = c.loop-y in
    let a = c.args in
    let s = c.held_step-first in
    let r = c.step-second in (
      fold-turn (held a.v) nan l.first s.result a.ys.now l.y-index s.ensures (omega arith) ∙ l.invariant.0,
      fold-turn step_of nan l.second r.result a.ys.now l.y-index r.ensures (omega arith) ∙ l.invariant.1,
    )

pub returns : goal.returns
unfolding beside_of held_run
returns c =
    let l = c.loop-y in
    let a = c.args in
    let h = fold_end (held a.v) l.first a.ys.now l.y-index (omega arith) ∙ l.invariant.0 in
    let o = fold_end step_of l.second a.ys.now l.y-index (omega arith) ∙ l.invariant.1 in
    λ i. record { first = h i; second = o i }
