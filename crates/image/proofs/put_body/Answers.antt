-- `image::put_body` meets its contract: one run of words after another.
use native.Mathlib.Omega.{arith}
use Rattle.codec.proofs.Runs.{then}
use Rattle.image.specs.Chain.{body}
use Rattle.image.proofs.put_body.Goals as goal

pub returns : goal.returns
unfolding body
returns c =
    then c.put_settings.ensures (omega arith)
    (then c.put_strand.ensures (omega arith)
    (then c.put_strand-2.ensures (omega arith)
    c.put_loops.ensures))
