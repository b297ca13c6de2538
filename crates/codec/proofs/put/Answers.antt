-- `codec::put` meets its contract.
use Rattle.codec.proofs.Places.{put_one}
use Rattle.codec.proofs.put.Goals as goal

pub returns : goal.returns
returns g c = put_one _ c.store.ensures c.to_word.ensures
