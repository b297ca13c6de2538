-- `named_beds` meets its contract.
use Rattle.beds.proofs.Beds.{named-bed-laws}
use Rattle.promises.proofs.named_beds.Goals as goal

pub returns : goal.returns
returns c = named-bed-laws
