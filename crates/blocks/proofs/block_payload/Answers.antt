-- `blocks::block_payload` meets its contract: the first j words of the block are laid.
use Rattle.std.proofs.Common.{◌≡◌, ◌+◌, ◌*◌, arith}
use Rattle.blocks.specs.Words.{block_words}
use Rattle.blocks.proofs.Lists.{none_yet, laid-length}
use Rattle.blocks.proofs.Bytes.{word-chunk}
use Rattle.blocks.proofs.Images.{block_next}
use Rattle.blocks.proofs.block_payload.Goals as goal

pub loop-j-init : goal.loop-j-init
loop-j-init c = none_yet _ _

pub bounds-w-block : goal.bounds-w-block
bounds-w-block c = omega (arith, laid-length c.loop-j.invariant)

pub loop-j-preserved : goal.loop-j-preserved
loop-j-preserved c =
    let x = c.args in
    let at = c.loop-j in
    block_next x.b.now at.invariant (omega arith) (omega arith) (word-chunk x.b.now c.as_chunks.result.0.now (block_words * x.block + at.j) c.from_le_bytes.result c.as_chunks.ensures.front (omega arith) c.from_le_bytes.ensures)

pub shape_of-w : goal.shape_of-w
shape_of-w c = laid-length c.loop-j.invariant

pub returns : goal.returns
returns c =
    let x = c.args in
    let e : x.n ≡ c.loop-j.j = omega arith in
    rw e c.loop-j.invariant
