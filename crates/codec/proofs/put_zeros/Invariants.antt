-- `codec::put_zeros` meets its contract: the first k zeros are laid.
use lib.ListN.{take, replicate}
use Rattle.blocks.specs.Lists.{Laid}
use Rattle.codec.proofs.put_zeros.Given as goal

abbrev pub invariant-loop-k : goal.invariant-loop-k
invariant-loop-k l = Laid l.initial.w l.at (take l.k (replicate l.n 0)) l.w
