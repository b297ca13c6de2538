-- `strand_image::put_strand` meets its contract: one run of words after another.
use native.Mathlib.Omega.{arith}
use Rattle.codec.proofs.Runs.{then}
use Rattle.strand_image.specs.Strand.{strand}
use Rattle.strand_image.proofs.put_strand.Goals as goal

pub returns : goal.returns
unfolding strand
returns c =
    then c.put_front.ensures (omega arith)
    (then c.put_latest.ensures (omega arith)
    (then c.put_floor.ensures (omega arith)
    (then c.put_latest-2.ensures (omega arith)
    c.put_decision.ensures)))
