-- What has been run is right.
use mathlib.Core.Path.{◌≡◌}
use lib.ListN.{length}
use Rattle.channels.specs.Runs.{Right}
use Rattle.channels.proofs.run.InUse.run_quiet.Given as goal

abbrev pub invariant-loop-c : goal.invariant-loop-c
invariant-loop-c l = (length l.next ≡ 8) × (Right l.self.channels l.self.xs.now l.initial.next → Right l.self.channels l.self.xs.now l.next)
