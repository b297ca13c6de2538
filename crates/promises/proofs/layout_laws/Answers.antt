-- `layout_laws` meets its contract.
use Rattle.layout.proofs.Promised.{layout-laws}
use Rattle.promises.proofs.layout_laws.Goals as goal

pub returns : goal.returns
returns c = layout-laws
