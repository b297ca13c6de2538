-- `codec::put_list` meets its contract: the count is laid, and the words of the first k values behind it.
use Rattle.codec.proofs.Places.{Put}
use Rattle.codec.proofs.put_list.Given as goal

abbrev pub invariant-loop-k : goal.invariant-loop-k
invariant-loop-k g l = Put g.T.Coded.cell.bits l.v l.initial.w l.at l.k l.w
