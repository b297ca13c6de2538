-- `codec::get_list` meets its contract: the first k places are read.
use Rattle.codec.proofs.Places.{Got}
use Rattle.codec.proofs.get_list.Given as goal

abbrev pub invariant-loop-k : goal.invariant-loop-k
invariant-loop-k g l = Got g.T.Coded.cell l.w l.at l.n l.initial.v l.v l.k
