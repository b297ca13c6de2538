-- `sequence::slide` meets its contract: `copy_within` moves all but the first down.
use native.Mathlib.Omega.{arith}
use Rattle.sequence.proofs.Shift.{slide-copied, slide_none}
use Rattle.sequence.proofs.slide.Goals as goal

pub returns : goal.returns
returns g c =
    let a = c.args in
    slide-copied a.v.now _ a.x _ c.copy_within.ensures.after (omega arith)

pub returns-then-n-eq0 : goal.returns-then-n-eq0
returns-then-n-eq0 g c = slide_none c.args.v.now c.args.x (omega arith)
