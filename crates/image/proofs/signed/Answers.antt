-- `image::signed` meets its contract.
use mathlib.Core.Path.{sym}
use lib.Ieee.{of_bits}
use Rattle.image.specs.Chain.{signed_of}
use Rattle.image.proofs.signed.Goals as goal

pub returns-then-x : goal.returns-then-x
unfolding signed_of of_bits
returns-then-x c = simp (sym c.to_bits.ensures, c.if-x.true)

pub returns : goal.returns
unfolding signed_of of_bits
returns c = simp c.if-x.false
