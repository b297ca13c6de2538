-- `window` meets its contract, by `window-uneven` and `window-even`.
use Rattle.std.proofs.Common.{arith, length-take, rules}
use Rattle.detector.proofs.Scanned.{window-uneven, window-even}
use Rattle.detector.proofs.voicing.window.Goals as goal

pub slice_bounds-energy-end : goal.slice_bounds-energy-end
slice_bounds-energy-end c = simp length-take (omega arith)

pub returns-then-uneven : goal.returns-then-uneven
returns-then-uneven c =
    window-uneven c.args.x.now (search rules) _ _ _ c.energy-first.ensures c.energy-second.ensures c.uneven.ensures c.if-uneven.true

pub returns : goal.returns
returns c =
    window-even c.args.x.now (search rules) _ _ _ c.energy-first.ensures c.energy-second.ensures c.uneven.ensures _ _ _ c.if-uneven.false
    c.energy-head.ensures c.energy-tail.ensures c.lags-e.ensures
