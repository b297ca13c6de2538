-- `image::put_settings` meets its contract: one run of words after another.
use native.Mathlib.Omega.{arith}
use Rattle.codec.proofs.Runs.{then}
use Rattle.image.specs.Chain.{settings, numbers}
use Rattle.image.proofs.put_settings.Goals as goal

pub returns : goal.returns
unfolding settings numbers
returns c =
    then c.put_strand_settings.ensures (omega arith)
    (then c.put_strand_settings-2.ensures (omega arith)
    c.put_duck.ensures)
