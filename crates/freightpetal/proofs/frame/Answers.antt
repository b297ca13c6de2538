-- `frame` meets its contract: by what the crate below promises, and the port's step is that.
use Rattle.freightpetal.proofs.Calls.{on-frame}
use Rattle.freightpetal.proofs.frame.Goals as goal

pub returns : goal.returns
returns c = on-frame _ _ _ _ c.frame.ensures
