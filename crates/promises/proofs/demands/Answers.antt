-- `demands` meets its contract: the laws of single calls give the demands over lists.
use Rattle.freightpetal.proofs.Promise.{promised}
use Rattle.promises.proofs.demands.Goals as goal

pub returns : goal.returns
returns c = promised
