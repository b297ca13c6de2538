-- `strand_image::put_decision` meets its contract: one run of words after another.
use native.Mathlib.Omega.{arith}
use Rattle.codec.specs.Forms.{f64}
use Rattle.codec.proofs.Runs.{then, single, optional}
use Rattle.strand_image.specs.Strand.{decision, counts}
use Rattle.strand_image.proofs.put_decision.Goals as goal

pub returns : goal.returns
unfolding decision counts
returns c =
    then (single c.put.ensures) (omega arith)
    (then (single c.put-2.ensures) (omega arith)
    (then (single c.put-3.ensures) (omega arith)
    (then (single c.put-4.ensures) (omega arith)
    (then (single c.put-5.ensures) (omega arith)
    (optional f64 c.args.d.power c.put_option.ensures)))))
