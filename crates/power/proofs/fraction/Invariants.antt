-- `power::fraction` meets its contract: at each turn the rest of the roots, from here, comes to the same.
use mathlib.Core.Path.{◌≡◌}
use Rattle.power.specs.Roots.{roots}
use Rattle.power.proofs.Turns.{Left}
use Rattle.power.proofs.fraction.Given as goal

abbrev pub invariant-loop-i : goal.invariant-loop-i
invariant-loop-i l = (l.root-items ≡ roots) × Left l.f l.m l.i
