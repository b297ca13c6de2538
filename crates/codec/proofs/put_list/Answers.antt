-- `codec::put_list` meets its contract: the count is laid, and the words of the first k values behind it.
use mathlib.Core.Path.{◌∙◌, ap}
use native.Mathlib.Omega.{arith}
use Rattle.blocks.proofs.Lists.{none_yet, laid-length}
use Rattle.codec.proofs.Places.{put_next, put_all}
use Rattle.codec.proofs.put_list.Goals as goal

pub loop-k-init : goal.loop-k-init
loop-k-init g c = record { over = none_yet _ _ }

pub loop-k-preserved : goal.loop-k-preserved
loop-k-preserved g c =
    put_next c.loop-k.invariant c.index-v-k.result c.loop-k-test.true (c.to_word.ensures ∙ ap g.T.Coded.cell.bits c.index-v-k.is) c.store.ensures

pub shape_of-w : goal.shape_of-w
shape_of-w g c = laid-length c.loop-k.invariant.over ∙ laid-length c.put.ensures

pub returns : goal.returns
returns g c = put_all c.loop-k.invariant c.put.ensures (omega arith)
