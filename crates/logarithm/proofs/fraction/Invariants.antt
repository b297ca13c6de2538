-- `logarithm::fraction` meets its contract: after each turn s is the significand and f has the bits so far.
use mathlib.Core.Path.{◌≡◌}
use Rattle.logarithm.specs.Logarithm.{significand_of, fraction_of}
use Rattle.logarithm.proofs.fraction.Given as goal

abbrev pub invariant-loop : goal.invariant-loop
invariant-loop l = (l.s ≡ significand_of l.counter l.m) × (l.f ≡ fraction_of l.counter l.m)
