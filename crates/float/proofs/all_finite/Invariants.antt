-- `all_finite` meets its contract. The loop's invariant: the answer so far, with that for what is left, is the answer for all.
use Rattle.std.proofs.Common.{◌≡◌, ◌&&◌, drop}
use Rattle.float.proofs.all_finite.Given as goal

abbrev pub invariant-loop-x : goal.invariant-loop-x
invariant-loop-x g l = l.all && g.T.Real.all_finite (drop l.x-index l.v) ≡ g.T.Real.all_finite l.v
