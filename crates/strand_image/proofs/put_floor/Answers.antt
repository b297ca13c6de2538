-- `strand_image::put_floor` meets its contract: one run of words after another.
use native.Mathlib.Omega.{arith}
use Rattle.codec.specs.Forms.{f64}
use Rattle.codec.proofs.Runs.{then, single, optional}
use Rattle.strand_image.specs.Strand.{floor, window}
use Rattle.strand_image.proofs.put_floor.Goals as goal

pub returns : goal.returns
unfolding floor window
returns c =
    then (optional f64 c.args.f.smoothed c.put_option.ensures) (omega arith)
    (then (single c.put.ensures) (omega arith)
    (then (single c.put-2.ensures) (omega arith)
    c.put_latest.ensures))
