-- `image::put_base` meets its contract: one run of words after another.
use native.Mathlib.Omega.{arith}
use Rattle.codec.proofs.Runs.{then, single, these}
use Rattle.image.specs.Edition1.{base, unused_words}
use Prim.Native.Nat.{ℕ}
use lib.ListN.{length-replicate}
use Rattle.image.proofs.put_base.Goals as goal

pub returns : goal.returns
unfolding base
returns c =
    then (single c.put.ensures) (omega arith)
    (then c.put_body.ensures (omega arith)
    (these unused_words (length-replicate {A = ℕ} unused_words 0) c.put_zeros.ensures))
