-- The first c channels have been run.
use Prim.Native.Nat.{ℕ, ◌<◌}
use mathlib.Core.Path.{◌≡◌}
use lib.ListN.{length, get_or}
use Rattle.channels.specs.Runs.{past_weighing, weighing_of, Right}
use Rattle.channels.proofs.run.InUse.run_rest.Given as goal

abbrev pub invariant-loop-c : goal.invariant-loop-c
invariant-loop-c l =
    (length l.weighed ≡ 8)
    × (Right l.self.channels l.self.xs.now l.run → (k : ℕ) → k < l.c → get_or l.weighed k past_weighing ≡ weighing_of l.self.channels l.self.xs.now k)
