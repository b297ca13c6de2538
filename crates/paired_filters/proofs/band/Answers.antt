-- `band` meets its contract.
use native.Mathlib.Omega.{arith}
use mathlib.Core.Path.{◌∙◌}
use lib.ListN.{length-set}
use lib.Ieee.{nan}
use Rattle.sequence.proofs.Fold.{fold-turn, fold_end}
use Rattle.detector.specs.Filters.{step_of, outputs_of}
use Rattle.detector.proofs.Outputs.{outputs-turn}
use Rattle.paired_filters.specs.Pairs.{banded_of, banded_pairs}
use Rattle.paired_filters.proofs.Outputs.{all-stored}
use Rattle.paired_filters.proofs.band.Goals as goal

pub loop-i-preserved : goal.loop-i-preserved
loop-i-preserved c =
    let l = c.loop-i in
    let a = c.args in
    let s = c.step-k in
    let r = c.step-b in (
      simp length-set l.invariant.0,
      simp length-set l.invariant.1,
      fold-turn step_of nan l.k s.result a.xs.now l.i s.ensures (omega arith) ∙ l.invariant.2,
      fold-turn step_of nan l.b r.result a.ys.now l.i r.ensures (omega arith) ∙ l.invariant.3,
      outputs-turn l.k s.result a.xs.now l.key_pitch l.i s.ensures (omega arith) (omega arith) ∙ l.invariant.4,
      outputs-turn l.b r.result a.ys.now l.bed_pitch l.i r.ensures (omega arith) (omega arith) ∙ l.invariant.5,
    )

pub returns : goal.returns
unfolding banded_of
returns c =
    let l = c.loop-i in
    let a = c.args in
    let k = fold_end step_of l.k a.xs.now l.i (omega arith) ∙ l.invariant.2 in
    let b = fold_end step_of l.b a.ys.now l.i (omega arith) ∙ l.invariant.3 in (
      c.of.ensures ∙ (λ i. banded_pairs (k i) (b i)),
      all-stored l.k a.xs.now l.key_pitch (outputs_of a.banded.first a.xs.now) l.i (omega arith) (omega arith) l.invariant.4,
      all-stored l.b a.ys.now l.bed_pitch (outputs_of a.banded.second a.ys.now) l.i (omega arith) (omega arith) l.invariant.5,
    )
