-- `one_channel` meets its contract.
use Rattle.rules.proofs.Mono.{as_base}
use Rattle.promises.proofs.one_channel.Goals as goal

pub returns : goal.returns
returns c = as_base
