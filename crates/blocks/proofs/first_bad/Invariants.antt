-- `blocks::first_bad` meets its contract: from each block on, the first bad one is that of the whole.
use Rattle.std.proofs.Common.{◌≡◌, ◌-◌, None}
use Rattle.blocks.specs.Words.{holds, first_from, blocks_in, first_bad}
use Rattle.blocks.proofs.Checks.{Turn}
use Rattle.blocks.proofs.first_bad.Given as goal

abbrev pub invariant-loop-j : goal.invariant-loop-j
invariant-loop-j l = (l.bad ≡ None) × Turn l.b l.block l.check l.j

abbrev pub invariant-blocks-2 : goal.invariant-blocks-2
invariant-blocks-2 l = (l.bad ≡ None) × (first_from (holds l.b) l.block (blocks_in l.b - l.block) ≡ first_bad l.b)
