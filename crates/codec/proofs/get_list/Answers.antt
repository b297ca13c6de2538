-- `codec::get_list` meets its contract: the first k places are read.
use mathlib.Core.Path.{refl}
use native.Mathlib.Omega.{arith}
use Rattle.codec.proofs.Places.{got-turn, got-all}
use Rattle.codec.proofs.get_list.Goals as goal

pub loop-k-init : goal.loop-k-init
loop-k-init g c = record { size = refl; is = refl }

pub loop-k-preserved : goal.loop-k-preserved
loop-k-preserved g c = got-turn g.T.Coded.cell _ _ _ _ c.value.result c.loop-k.invariant (omega (arith, c.loop-k.invariant.size)) c.value.ensures

pub shape_of-v : goal.shape_of-v
shape_of-v g c = c.loop-k.invariant.size

pub returns : goal.returns
returns g c = got-all g.T.Coded.cell _ _ _ _ c.count-n.ensures c.loop-k.invariant (omega (arith, c.loop-k.invariant.size))
