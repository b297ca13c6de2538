-- `weigh` meets its contract.
use native.Mathlib.Omega.{arith}
use mathlib.Core.Path.{◌∙◌}
use lib.Ieee.{nan}
use Rattle.sequence.proofs.Fold.{fold-turn, fold_end}
use Rattle.level.specs.Weighing.{step_of}
use Rattle.pairs.specs.Pairs.{weighed_pairs}
use Rattle.paired_filters.specs.Pairs.{weighed_of}
use Rattle.paired_filters.proofs.weigh.Goals as goal

pub loop-i-preserved : goal.loop-i-preserved
loop-i-preserved c =
    let l = c.loop-i in
    let a = c.args in
    let s = c.step-k in
    let r = c.step-b in (
      fold-turn step_of nan l.k s.result a.xs.now l.i s.ensures (omega arith) ∙ l.invariant.0,
      fold-turn step_of nan l.b r.result a.ys.now l.i r.ensures (omega arith) ∙ l.invariant.1,
    )

pub returns : goal.returns
unfolding weighed_of
returns c =
    let l = c.loop-i in
    let a = c.args in
    let k = fold_end step_of l.k a.xs.now l.i (omega arith) ∙ l.invariant.0 in
    let b = fold_end step_of l.b a.ys.now l.i (omega arith) ∙ l.invariant.1 in
    c.of.ensures ∙ (λ i. weighed_pairs (k i) (b i))
