-- `promises::voice` meets its contract.
use Rattle.promises.proofs.Hold.{voice}
use Rattle.promises.proofs.voice.Goals as goal

pub returns : goal.returns
returns c = voice
