-- `Latest::new` meets its contract.
use Rattle.std.proofs.Common.{refl}
use Rattle.sequence.specs.Latest.{blanks}
use Rattle.sequence.proofs.Latest.new.Goals as goal

pub returns : goal.returns
unfolding blanks
returns g c = refl
