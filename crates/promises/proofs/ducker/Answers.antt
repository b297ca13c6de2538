-- `promises::ducker` meets its contract.
use Rattle.promises.proofs.Hold.{ducker}
use Rattle.promises.proofs.ducker.Goals as goal

pub returns : goal.returns
returns c = ducker
