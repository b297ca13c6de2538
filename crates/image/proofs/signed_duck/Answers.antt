-- `image::signed_duck` meets its contract.
use mathlib.Core.Path.{sym}
use Rattle.image.specs.Chain.{signed_duck}
use Rattle.image.proofs.signed_duck.Goals as goal

pub returns : goal.returns
unfolding signed_duck
returns c = simp (sym c.signed.ensures, sym c.signed-2.ensures, sym c.signed-3.ensures, sym c.signed-4.ensures)
