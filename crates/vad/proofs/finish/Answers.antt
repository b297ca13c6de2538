-- `finish` meets its contract, by `finished`.
use Rattle.vad.proofs.Finished.{finished}
use Rattle.vad.proofs.finish.Goals as goal

pub returns : goal.returns
returns c =
    let a = c.args in
    finished a.d a.l a.h a.settings _ _ _ _ _ c.heard.ensures c.decide-decision.ensures c.state-shown.ensures
    c.numbers_finite.ensures c.full.ensures
