-- `blocks::payload` meets its contract: the words of the first blocks are laid, as far as there are places.
use Rattle.std.proofs.Common.{◌≡◌, ◌+◌, ◌*◌, min, arith}
use Rattle.blocks.specs.Words.{checked_words}
use Rattle.blocks.specs.Image.{payload_of}
use Rattle.blocks.proofs.Lists.{none_yet, finish-first, laid-length}
use Rattle.blocks.proofs.Images.{payload-length, payload-next}
use Rattle.blocks.proofs.payload.Goals as goal

pub loop-block-init : goal.loop-block-init
loop-block-init c =
    let e : min c.min-n.result (checked_words * 0) ≡ 0 = omega arith in
    rw e (none_yet _ _)

pub block_payload-requires : goal.block_payload-requires
block_payload-requires c = (omega arith, omega arith, omega (arith, laid-length c.loop-block.invariant))

pub loop-block-preserved : goal.loop-block-preserved
loop-block-preserved c =
    let b = c.args.b.now in
    let at = c.loop-block in
    let n = c.min-n.result in
    let e : min n (checked_words * at.block) ≡ checked_words * at.block = omega arith in
    payload-next (payload_of b) c.min.result (min n (checked_words * (at.block + 1))) (rw e at at.invariant) (omega (arith, payload-length b)) (omega arith) c.block_payload.ensures

pub shape_of-w : goal.shape_of-w
shape_of-w c = laid-length c.loop-block.invariant

pub returns : goal.returns
returns c =
    let b = c.args.b.now in
    finish-first {k = min c.min-n.result (checked_words * c.loop-block.block)} (payload_of b) c.loop-block.invariant (omega (arith, payload-length b))
