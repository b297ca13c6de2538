-- `readings` meets its contract: the chain has heard the samples of its history.
use Rattle.rules.proofs.ReadsLoudness.{reads-bs1770}
use Rattle.promises.proofs.readings.Goals as goal

pub returns : goal.returns
returns c = reads-bs1770
