-- `filter` meets its contract.
use native.Mathlib.Omega.{arith}
use mathlib.Core.Path.{◌∙◌}
use lib.ListN.{length-set}
use lib.Ieee.{nan}
use Rattle.sequence.proofs.Fold.{fold-turn, fold_end}
use Rattle.level.specs.Weighing as weighing
use Rattle.detector.specs.Filters.{step_of, outputs_of}
use Rattle.detector.proofs.Outputs.{outputs-turn}
use Rattle.pairs.specs.Pairs.{weighed_pairs}
use Rattle.paired_filters.specs.Pairs.{weighed_of, banded_of, banded_pairs, filtered_of}
use Rattle.paired_filters.proofs.Outputs.{all-stored}
use Rattle.paired_filters.proofs.filter.Goals as goal

pub loop-i-preserved : goal.loop-i-preserved
loop-i-preserved c =
    let l = c.loop-i in
    let a = c.args in
    let v = c.step-v in
    let w = c.step-w in
    let k = c.step-p in
    let b = c.step-q in (
      simp length-set l.invariant.0,
      simp length-set l.invariant.1,
      fold-turn weighing.step_of nan l.v v.result a.xs.now l.i v.ensures (omega arith) ∙ l.invariant.2,
      fold-turn weighing.step_of nan l.w w.result a.ys.now l.i w.ensures (omega arith) ∙ l.invariant.3,
      fold-turn step_of nan l.p k.result a.xs.now l.i k.ensures (omega arith) ∙ l.invariant.4,
      fold-turn step_of nan l.q b.result a.ys.now l.i b.ensures (omega arith) ∙ l.invariant.5,
      outputs-turn l.p k.result a.xs.now l.key_pitch l.i k.ensures (omega arith) (omega arith) ∙ l.invariant.6,
      outputs-turn l.q b.result a.ys.now l.bed_pitch l.i b.ensures (omega arith) (omega arith) ∙ l.invariant.7,
    )

pub returns : goal.returns
unfolding filtered_of weighed_of banded_of
returns c =
    let l = c.loop-i in
    let a = c.args in
    let v = fold_end weighing.step_of l.v a.xs.now l.i (omega arith) ∙ l.invariant.2 in
    let w = fold_end weighing.step_of l.w a.ys.now l.i (omega arith) ∙ l.invariant.3 in
    let k = fold_end step_of l.p a.xs.now l.i (omega arith) ∙ l.invariant.4 in
    let b = fold_end step_of l.q a.ys.now l.i (omega arith) ∙ l.invariant.5 in
    let e = c.of.ensures ∙ (λ i. weighed_pairs (v i) (w i)) in
    let f = c.of-2.ensures ∙ (λ i. banded_pairs (k i) (b i)) in (
      λ i. record { weighed = e i; banded = f i },
      all-stored l.p a.xs.now l.key_pitch (outputs_of a.banded.first a.xs.now) l.i (omega arith) (omega arith) l.invariant.6,
      all-stored l.q a.ys.now l.bed_pitch (outputs_of a.banded.second a.ys.now) l.i (omega arith) (omega arith) l.invariant.7,
    )
