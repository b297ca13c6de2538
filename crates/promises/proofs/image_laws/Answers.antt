-- `image_laws` meets its contract.
use Rattle.freightpetal.proofs.Promise.{image-laws}
use Rattle.promises.proofs.image_laws.Goals as goal

pub returns : goal.returns
returns c = image-laws
