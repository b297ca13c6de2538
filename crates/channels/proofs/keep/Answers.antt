-- `keep` meets its contract.
use Prim.Native.Nat.{ℕ}
use native.Mathlib.Omega.{arith}
use mathlib.Core.Path.{◌≡◌, ap, ◌∙◌}
use mathlib.Core.List.{List, map}
use lib.ListN.{length, take, set, length-set}
use lib.Seq.{take_all}
use Rattle.sequence.specs.History.{laid}
use Rattle.sequence.proofs.Filled.{laid-turn}
use Rattle.level.specs.declared.Weighing.{Weighing}
use Rattle.channels.specs.declared.Channel.{Channel}
use Rattle.channels.specs.Runs.{past_channel, past_weighing}
use Rattle.channels.specs.Channels.{kept_of, kept_in}
use Rattle.channels.proofs.keep.Goals as goal

-- all are kept
all-kept : (cs : List Channel) (ws : List Weighing) (i : ℕ) → length ws ≡ i → laid (map kept_of (take i ws)) cs ≡ kept_in cs ws
unfolding kept_in
all-kept cs ws i e = ap (λ (l : List Weighing). laid (map kept_of l) cs) (take_all i ws (omega (arith, e)))

pub loop-i-preserved : goal.loop-i-preserved
loop-i-preserved c =
    let l = c.loop-i in
    let a = c.args in (
      l.invariant.0,
      simp length-set l.invariant.1,
      (λ k. set (l.invariant.2 k) l.i (c.from.ensures k)) ∙ laid-turn kept_of a.ws.now a.channels l.i past_weighing past_channel (omega arith) (omega arith),
    )

pub returns : goal.returns
returns c =
    let l = c.loop-i in
    let a = c.args in
    l.invariant.2 ∙ all-kept a.channels a.ws.now l.i (omega arith)
