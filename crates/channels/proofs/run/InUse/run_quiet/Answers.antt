-- `InUse::run_quiet` meets its contract.
use Prim.Native.Nat.{◌<◌}
use native.Mathlib.Omega.{arith}
use mathlib.Core.Path.{ap, ◌∙◌}
use lib.ListN.{get_or, length-set}
use Rattle.level.specs.Weighing.{run_of}
use Rattle.channels.specs.Channels.{begin_of}
use Rattle.channels.specs.Runs.{past_channel, weighing_of}
use Rattle.channels.proofs.Runs.{put_right}
use Rattle.channels.proofs.run.InUse.run_quiet.Goals as goal
use Rattle.channels.proofs.run.InUse.run_quiet.Goals.{in-Some, in_default}

pub loop-c-preserved : goal.loop-c-preserved
unfolding weighing_of
loop-c-preserved c =
    let l = c.loop-c in
    let a = c.args in
    let h : l.c < 8 = omega (arith, a.self.now.within) in
    elim c.match-at_rest.branch [
      | in-Some w ↦
          let e = w.in-Some.ensures ∙ ap (run_of (begin_of (get_or a.self.now.channels l.c past_channel))) c.samples.ensures in
          rw w.next-is (simp length-set l.invariant.0, λ ok. put_right a.self.now.channels a.self.now.xs.now l.next (l.invariant.1 ok) l.c w.in-Some.w h e)
      | in_default w ↦ rw w.next-is l.invariant
    ]
