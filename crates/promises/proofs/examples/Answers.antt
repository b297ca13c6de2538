-- `promises::examples` meets its contract.
use Rattle.promises.proofs.Hold.{examples}
use Rattle.promises.proofs.examples.Goals as goal

pub returns : goal.returns
returns c = examples
