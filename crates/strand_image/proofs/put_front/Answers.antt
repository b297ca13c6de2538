-- `strand_image::put_front` meets its contract: one run of words after another.
use native.Mathlib.Omega.{arith}
use Rattle.codec.proofs.Runs.{then, single}
use Rattle.strand_image.specs.Strand.{front}
use Rattle.strand_image.proofs.put_front.Goals as goal

pub returns : goal.returns
unfolding front
returns c =
    then c.put_state.ensures (omega arith)
    (then c.put_state-2.ensures (omega arith)
    (then c.put_filters.ensures (omega arith)
    (then (single c.put.ensures) (omega arith)
    c.put_latest.ensures)))
