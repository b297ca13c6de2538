-- `Bands::run` meets its contract. The loop's invariant: the samples that are left, from the state that it has, come to the same, and so do the outputs stored with those that are left.
use Rattle.std.proofs.Common.{length, take, sym, ap, ◌∙◌, arith, length-take, get_or-take}
use lib.Ieee.{nan}
use Rattle.sequence.proofs.Fold.{fold-turn, fold_end}
use Rattle.detector.proofs.Lay.{rest-turn, laid_end}
use Rattle.detector.proofs.Outputs.{outputs-length, outputs-turn, outputs-end}
use Rattle.detector.specs.Filters.{step_of, run_of, outputs_of}
use Rattle.detector.proofs.filters.Bands.run.Goals as goal

pub loop-i-preserved : goal.loop-i-preserved
loop-i-preserved c =
    let l = c.loop-i in
    let a = c.args in
    let ys = take (length a.out.now) a.xs.now in
    let size = length-take (length a.out.now) a.xs.now in
    let e = c.step-self.ensures ∙ ap (step_of l.self) (sym (get_or-take (length a.out.now) a.xs.now l.i nan (omega arith))) in (
      fold-turn step_of nan l.self c.step-self.result ys l.i e (omega (arith, size)) ∙ l.invariant.0,
      outputs-turn l.self c.step-self.result ys l.out l.i e (omega (arith, size)) (omega arith) ∙ l.invariant.1,
      rest-turn l.out a.out.now c.step-self.result.pitch l.i l.invariant.2,
    )

pub returns : goal.returns
unfolding run_of
returns c =
    let l = c.loop-i in
    let a = c.args in
    let ys = take (length a.out.now) a.xs.now in
    let size = length-take (length a.out.now) a.xs.now in (
      fold_end step_of l.self ys l.i (omega (arith, size)) ∙ l.invariant.0,
      laid_end l.out a.out.now (outputs_of a.self ys) l.i (sym (outputs-end l.self ys l.out l.i (omega (arith, size))) ∙ l.invariant.1) (outputs-length a.self ys ∙ omega (arith, size)) l.invariant.2,
    )
