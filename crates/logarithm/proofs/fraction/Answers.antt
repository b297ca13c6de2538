-- `logarithm::fraction` meets its contract: where its loop begins and ends.
use mathlib.Core.Path.{refl, ap, ◌∙◌}
use Prim.Native.Nat.{ℕ}
use native.Mathlib.Omega.{arith}
use Rattle.logarithm.specs.Logarithm.{significand_of, fraction_of}
use Rattle.logarithm.proofs.fraction.Goals as goal

pub loop-init : goal.loop-init
unfolding significand_of fraction_of
loop-init c = (refl, refl)

pub returns : goal.returns
returns c = let l = c.loop in l.invariant.1 ∙ ap (λ (n : ℕ). fraction_of n c.args.m) (omega arith)
