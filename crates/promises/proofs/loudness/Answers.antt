-- `promises::loudness` meets its contract.
use Rattle.promises.proofs.Hold.{loudness}
use Rattle.promises.proofs.loudness.Goals as goal

pub returns : goal.returns
returns c = loudness
