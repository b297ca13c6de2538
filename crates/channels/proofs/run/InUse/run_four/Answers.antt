-- `InUse::run_four` meets its contract.
use mathlib.Core.Path.{◌∙◌}
use Rattle.level.specs.Weighing.{run_of}
use Rattle.channels.specs.Fours.{four_of}
use Rattle.channels.specs.Runs.{weighing_of}
use Rattle.channels.proofs.Runs.{whole-samples}
use Rattle.channels.proofs.run.InUse.run_four.Goals as goal

pub weigh_four-requires : goal.weigh_four-requires
weigh_four-requires c =
    let xs = c.args.self.now.xs.now in
    let a = c.args in
    let m = a.self.now.count in
    let p = c.requires in (
      whole-samples xs _ a.f.a m c.samples.ensures p.0.a p.1 p.2,
      whole-samples xs _ a.f.b m c.samples-2.ensures p.0.b p.1 p.2,
      whole-samples xs _ a.f.c m c.samples-3.ensures p.0.c p.1 p.2,
      whole-samples xs _ a.f.d m c.samples-4.ensures p.0.d p.1 p.2,
    )

pub returns : goal.returns
unfolding weighing_of
returns c =
    c.weigh_four.ensures
    ∙ (λ i. four_of (run_of (c.begin.ensures i) (c.samples.ensures i)) (run_of (c.begin-2.ensures i) (c.samples-2.ensures i)) (run_of (c.begin-3.ensures i) (c.samples-3.ensures i)) (run_of (c.begin-4.ensures i) (c.samples-4.ensures i)))
