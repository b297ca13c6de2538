-- `save` meets its contract: by what the crate below promises, and the port's step is that.
use Rattle.freightpetal.proofs.Calls.{on-save}
use Rattle.freightpetal.proofs.save.Goals as goal

pub returns : goal.returns
returns c = on-save _ _ _ _ c.save.ensures.0 c.save.ensures.1
