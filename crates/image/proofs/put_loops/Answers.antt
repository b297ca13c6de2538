-- `image::put_loops` meets its contract: one run of words after another.
use native.Mathlib.Omega.{arith}
use Rattle.codec.proofs.Runs.{then, single}
use Rattle.image.specs.Chain.{loops}
use Rattle.image.proofs.put_loops.Goals as goal

pub returns : goal.returns
unfolding loops
returns c =
    then (single c.put.ensures) (omega arith)
    (then (single c.put-2.ensures) (omega arith)
    (then (single c.put-3.ensures) (omega arith)
    (single c.put-4.ensures)))
