-- `image::put_chain` meets its contract: one run of words after another.
use native.Mathlib.Omega.{arith}
use Rattle.codec.proofs.Runs.{then, single, these}
use Rattle.image.specs.Layout.{unused_words}
use Rattle.image.specs.Chain.{chain}
use Prim.Native.Nat.{ℕ}
use lib.ListN.{length-replicate}
use Rattle.image.proofs.put_chain.Goals as goal

pub returns : goal.returns
unfolding chain
returns c =
    then (single c.put.ensures) (omega arith)
    (then c.put_body.ensures (omega arith)
    (then c.put_surround.ensures (omega arith)
    (these unused_words (length-replicate {A = ℕ} unused_words 0) c.put_zeros.ensures)))
