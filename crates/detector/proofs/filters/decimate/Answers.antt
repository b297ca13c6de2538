-- `decimate` meets its contract. The loop's invariant: the first i places have what is kept.
use Rattle.std.proofs.Common.{sym, ap, ◌∙◌, arith, length-set}
use lib.Ieee.{nan}
use Rattle.sequence.proofs.Fill.{fill-turn, fill_end}
use Rattle.detector.proofs.Decimation.{kept-length, kept_at}
use Rattle.detector.specs.Filters.{kept_of}
use Rattle.narrow.specs.Narrow.{narrow_of}
use Rattle.detector.proofs.filters.decimate.Goals as goal

pub loop-i-preserved : goal.loop-i-preserved
loop-i-preserved c =
    let l = c.loop-i in
    let ys = c.args.ys.now in (
      length-set l.y-items l.i _ ∙ l.invariant.0,
      fill-turn nan l.y-items (kept_of ys) c.narrow.result l.i l.invariant.1
          (c.narrow.ensures ∙ ap narrow_of c.output.ensures ∙ sym (kept_at ys l.i (omega arith))) (omega arith) (omega (arith, kept-length ys)),
    )

pub returns : goal.returns
returns c =
    let l = c.loop-i in
    let ys = c.args.ys.now in
    fill_end l.y-items (kept_of ys) l.i l.invariant.1 (omega arith) (omega (arith, kept-length ys))
