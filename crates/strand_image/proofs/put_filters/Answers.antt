-- `strand_image::put_filters` meets its contract: one run of words after another.
use native.Mathlib.Omega.{arith}
use Rattle.codec.proofs.Runs.{then}
use Rattle.strand_image.specs.Strand.{filters}
use Rattle.strand_image.proofs.put_filters.Goals as goal

pub returns : goal.returns
unfolding filters
returns c =
    then c.put_state.ensures (omega arith)
    (then c.put_state-2.ensures (omega arith)
    (then c.put_state-3.ensures (omega arith)
    c.put_state-4.ensures))
