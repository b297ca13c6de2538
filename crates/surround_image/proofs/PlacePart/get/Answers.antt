-- `surround_image::PlacePart::get` meets its contract.
use Rattle.surround_image.proofs.Rules.{place-good, place_bad}
use Rattle.surround_image.proofs.PlacePart.get.Goals as goal

pub returns-then-lfe-azimuth : goal.returns-then-lfe-azimuth
returns-then-lfe-azimuth c =
    place-good _ _ _ _ _ c.get_angle-azimuth.ensures c.get_angle-elevation.ensures c.get_capped-lfe.ensures c.if-lfe-azimuth.true

pub returns : goal.returns
returns c =
    place_bad _ _ _ _ _ c.get_angle-azimuth.ensures c.get_angle-elevation.ensures c.get_capped-lfe.ensures c.if-lfe-azimuth.false
