-- `image::put_strand_settings` meets its contract: one run of words after another.
use native.Mathlib.Omega.{arith}
use Rattle.codec.proofs.Runs.{then, single}
use Rattle.image.specs.Chain.{strand_settings}
use Rattle.image.proofs.put_strand_settings.Goals as goal

pub returns : goal.returns
unfolding strand_settings
returns c =
    then (single c.put.ensures) (omega arith)
    (then (single c.put-2.ensures) (omega arith)
    (single c.put-3.ensures))
