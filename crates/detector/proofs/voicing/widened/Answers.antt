-- `widened` meets its contract: an f32 as an f64 is the same number.
use Rattle.std.proofs.Common.{refl, ◌∙◌, arith, length-set, rules}
use lib.Ieee.{nan}
use Rattle.sequence.proofs.Fill.{fill-turn, fill_end}
use Rattle.detector.proofs.voicing.widened.Goals as goal

pub loop-i-init : goal.loop-i-init
loop-i-init c = (refl, search rules, refl)

pub loop-i-preserved : goal.loop-i-preserved
loop-i-preserved c =
    let l = c.loop-i in
    let d = c.args.d in (
      length-set l.y-items l.i _ ∙ l.invariant.0,
      l.invariant.1,
      fill-turn nan l.y-items d c.from.result l.i l.invariant.2 c.from.ensures (omega arith) (omega arith),
    )

pub returns : goal.returns
returns c =
    let l = c.loop-i in
    fill_end l.y-items c.args.d l.i l.invariant.2 (omega arith) (omega arith)
