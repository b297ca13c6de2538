-- `layout` meets its contract: by what the crate below promises, and the port's step is that.
use Rattle.freightpetal.proofs.Calls.{on-layout}
use Rattle.freightpetal.proofs.layout.Goals as goal

pub returns : goal.returns
returns c = on-layout _ _ _ c.layout.ensures
