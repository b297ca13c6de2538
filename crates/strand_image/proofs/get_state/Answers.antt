-- `strand_image::get_state` meets its contract.
use Rattle.strand_image.specs.Strand.{state}
use Rattle.strand_image.proofs.get_state.Goals as goal

pub returns : goal.returns
unfolding state
returns c = λ k. record { z1 = c.get-z1.ensures k; z2 = c.get-z2.ensures k }
