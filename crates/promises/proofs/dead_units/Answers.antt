-- `dead_units` meets its contract: two concrete histories.
use Rattle.dead_units.proofs.Dead.{no-dead_units}
use Rattle.promises.proofs.dead_units.Goals as goal

pub returns : goal.returns
returns c = no-dead_units
