-- `strand_image::put_state` meets its contract: one run of words after another.
use mathlib.Core.Path.{refl}
use native.Mathlib.Omega.{arith}
use Rattle.codec.proofs.Runs.{then, single, these}
use Rattle.strand_image.specs.Strand.{state}
use Rattle.strand_image.proofs.put_state.Goals as goal

pub returns : goal.returns
unfolding state
returns c =
    then (single c.put.ensures) (omega arith)
    (then (single c.put-2.ensures) (omega arith)
    (these 2 refl c.put_zeros.ensures))
