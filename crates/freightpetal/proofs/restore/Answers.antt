-- `restore` meets its contract: by what the crate below promises, and the port's step is that.
use Rattle.freightpetal.proofs.Calls.{on-restore}
use Rattle.freightpetal.proofs.restore.Goals as goal

pub returns : goal.returns
returns c = on-restore _ _ _ c.restore.ensures
