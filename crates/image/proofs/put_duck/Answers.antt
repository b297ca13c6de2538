-- `image::put_duck` meets its contract: one run of words after another.
use native.Mathlib.Omega.{arith}
use Rattle.codec.proofs.Runs.{then, single}
use Rattle.image.specs.Chain.{duck}
use Rattle.image.proofs.put_duck.Goals as goal

pub returns : goal.returns
unfolding duck
returns c =
    then (single c.put.ensures) (omega arith)
    (then (single c.put-2.ensures) (omega arith)
    (then (single c.put-3.ensures) (omega arith)
    (then (single c.put-4.ensures) (omega arith)
    (then (single c.put-5.ensures) (omega arith)
    (single c.put-6.ensures)))))
