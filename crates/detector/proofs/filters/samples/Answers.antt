-- `samples` meets its contract. The loop's invariant: the first i places have the samples, and the rest is as it was.
use Rattle.std.proofs.Common.{length, take, sym, ◌∙◌, arith, length-take, take_all, get_or-take}
use lib.Ieee.{nan}
use Rattle.sequence.proofs.Fill.{fill-turn}
use Rattle.detector.proofs.Lay.{rest-turn, laid_end}
use Rattle.detector.proofs.filters.samples.Goals as goal

pub loop-i-preserved : goal.loop-i-preserved
loop-i-preserved c =
    let l = c.loop-i in
    let a = c.args in
    let heard = take (length a.to.now) a.xs.now in
    let size = length-take (length a.to.now) a.xs.now in
    let y = c.from in (
      fill-turn nan l.to heard y.result l.i l.invariant.0 (y.ensures ∙ sym (get_or-take (length a.to.now) a.xs.now l.i nan (omega (arith, size)))) (omega (arith, size)) (omega (arith, size)),
      rest-turn l.to a.to.now y.result l.i l.invariant.1,
    )

pub returns : goal.returns
returns c =
    let l = c.loop-i in
    let a = c.args in
    let heard = take (length a.to.now) a.xs.now in
    let size = length-take (length a.to.now) a.xs.now in
    laid_end l.to a.to.now heard l.i (l.invariant.0 ∙ take_all l.i heard (omega (arith, size))) (omega (arith, size)) l.invariant.1
