-- `dead_images` meets its contract: two histories with two states.
use Rattle.freightpetal.proofs.Dead.{no-dead_units}
use Rattle.promises.proofs.dead_images.Goals as goal

pub returns : goal.returns
returns c = no-dead_units
