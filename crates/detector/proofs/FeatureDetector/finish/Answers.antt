-- `FeatureDetector::finish` meets its contract, by `finished`.
use Rattle.detector.proofs.Finished.{finished}
use Rattle.detector.proofs.FeatureDetector.finish.Goals as goal

pub returns : goal.returns
returns c =
    let a = c.args in
    finished a.self a.bands a.ys.now _ _ _ _ _ _ _ _ c.powers-powers.ensures c.decimate-values.ensures c.keep-decimated.ensures
    c.floor-floored.ensures c.modulation_with-modulated.ensures c.of-voicing.ensures c.shown-frame.ensures c.numbers_finite.ensures
