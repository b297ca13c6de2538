-- `lent_laws` meets its contract.
use Rattle.freightpetal_c.proofs.Laws.{lent-laws}
use Rattle.promises.proofs.lent_laws.Goals as goal

pub returns : goal.returns
returns c = lent-laws
