-- `Weighing::run` meets its contract: the samples so far have been heard.
use Rattle.std.proofs.Common.{◌≡◌, take}
use Rattle.level.specs.Weighing.{run_of}
use Rattle.level.proofs.Weighing.run.Given as goal

abbrev pub invariant-loop-x : goal.invariant-loop-x
invariant-loop-x l = l.self ≡ run_of l.initial.self (take l.x-index l.xs)
