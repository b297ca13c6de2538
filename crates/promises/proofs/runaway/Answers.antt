-- `runaway` meets its contract: the flags of key, bed and ducker are those of the lists.
use Rattle.runaway.proofs.Exact.{runaway-exact}
use Rattle.promises.proofs.runaway.Goals as goal

pub returns : goal.returns
returns c = runaway-exact
