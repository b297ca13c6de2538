-- `promises::stand_ins` meets its contract.
use Rattle.promises.proofs.Hold.{stand_ins}
use Rattle.promises.proofs.stand_ins.Goals as goal

pub returns : goal.returns
returns c = stand_ins
