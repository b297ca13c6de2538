-- `bed_laws` meets its contract.
use Rattle.channels.proofs.Promised.{bed-laws}
use Rattle.promises.proofs.bed_laws.Goals as goal

pub returns : goal.returns
returns c = bed-laws
