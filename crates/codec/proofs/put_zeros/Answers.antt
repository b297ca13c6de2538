-- `codec::put_zeros` meets its contract: the first k zeros are laid.
use Rattle.blocks.proofs.Lists.{none_yet, laid-length}
use Rattle.codec.proofs.Places.{zeros-turn, zeros-end}
use Rattle.codec.proofs.put_zeros.Goals as goal

pub loop-k-init : goal.loop-k-init
loop-k-init c = none_yet _ _

pub loop-k-preserved : goal.loop-k-preserved
loop-k-preserved c = zeros-turn _ c.loop-k.invariant c.loop-k-test.true c.store.ensures

pub shape_of-w : goal.shape_of-w
shape_of-w c = laid-length c.loop-k.invariant

pub returns : goal.returns
returns c = zeros-end _ c.loop-k.invariant c.loop-k-test.false
