-- `events` meets its contract: the laws of single calls give the demands over lists.
use Rattle.rules.proofs.Promise.{promised}
use Rattle.promises.proofs.events.Goals as goal

pub returns : goal.returns
returns c = promised
