-- `image::signed_strand` meets its contract.
use mathlib.Core.Path.{sym}
use Rattle.image.specs.Chain.{signed_strand}
use Rattle.image.proofs.signed_strand.Goals as goal

pub returns : goal.returns
unfolding signed_strand
returns c = simp (sym c.signed.ensures, sym c.signed-2.ensures, sym c.signed-3.ensures)
