-- `active_text` meets its contract, case by case.
use Rattle.std.proofs.Common.{refl}
use Rattle.line_text.proofs.active_text.Goals as goal

pub returns-then-active : goal.returns-then-active
returns-then-active c = rw c.if-active.true refl

pub returns-else-active : goal.returns-else-active
returns-else-active c = rw c.if-active.false refl
