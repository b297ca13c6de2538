-- `image::signed_settings` meets its contract.
use mathlib.Core.Path.{sym}
use Rattle.image.specs.Chain.{signed_settings}
use Rattle.image.proofs.signed_settings.Goals as goal

pub returns : goal.returns
unfolding signed_settings
returns c = simp (sym c.signed_strand.ensures, sym c.signed_strand-2.ensures, sym c.signed_duck.ensures)
