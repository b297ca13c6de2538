-- `surround_image::PlacePart::put` meets its contract.
use native.Mathlib.Omega.{arith}
use Rattle.codec.proofs.Runs.{then, single}
use Rattle.surround_image.specs.Surround.{place}
use Rattle.surround_image.proofs.PlacePart.put.Goals as goal

pub returns : goal.returns
unfolding place
returns c =
    then (single c.put.ensures) (omega arith)
    (then (single c.put-2.ensures) (omega arith)
    (single c.put-3.ensures))
