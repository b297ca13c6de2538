-- `reset` meets its contract: by what the crate below promises, and the port's step is that.
use Rattle.freightpetal.proofs.Calls.{on-reset}
use Rattle.freightpetal.proofs.reset.Goals as goal

pub returns : goal.returns
returns c = on-reset _ _ _ c.reset.ensures
