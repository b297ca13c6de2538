-- `surround_image::get_count` meets its contract.
use Rattle.surround_image.proofs.Rules.{count_none, count-some}
use Rattle.surround_image.proofs.get_count.Goals as goal

pub returns-then-n-eq0 : goal.returns-then-n-eq0
returns-then-n-eq0 c = count_none _ _ _ c.get_capped-n.ensures c.if-n-eq0.true

pub returns-else-n-eq0 : goal.returns-else-n-eq0
returns-else-n-eq0 c = count-some _ _ _ c.get_capped-n.ensures c.if-n-eq0.false
