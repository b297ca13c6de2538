-- `codec::put_option` meets its contract.
use Rattle.codec.proofs.Places.{both}
use Rattle.codec.proofs.put_option.Goals as goal

pub returns-in-Some : goal.returns-in-Some
returns-in-Some g c = rw c.in-Some.is (both _ c.put.ensures c.to_word.ensures c.store.ensures)
