-- `blocks::write_image` meets its contract: after each word, the first words of the image are laid.
use Rattle.std.proofs.Common.{arith}
use Rattle.blocks.proofs.Lists.{laid-length}
use Rattle.blocks.proofs.Images.{wrote_none, wrote-all, writing_none, writing_next, writing_all}
use Rattle.blocks.proofs.write_image.Goals as goal

pub loop-block-init : goal.loop-block-init
loop-block-init c = wrote_none _ _

pub loop-j-init : goal.loop-j-init
loop-j-init c = writing_none _ _ _

pub loop-j-preserved : goal.loop-j-preserved
loop-j-preserved c =
    let m = c.mixed-check in
    let r = c.word_or_zero-w in
    writing_next m.result r.result c.loop-j.invariant c.loop-j-test.true r.ensures m.ensures c.write8.ensures

pub loop-block-preserved : goal.loop-block-preserved
loop-block-preserved c =
    writing_all c.loop-j.invariant c.loop-j-test.false c.loop-block.invariant c.write8-in-loop-block.ensures

pub shape_of-b : goal.shape_of-b
shape_of-b c = laid-length c.loop-block.invariant.over

pub returns : goal.returns
returns c = wrote-all c.loop-block.invariant (omega arith)
