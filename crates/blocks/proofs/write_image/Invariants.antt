-- `blocks::write_image` meets its contract: after each word, the first words of the image are laid.
use Rattle.std.proofs.Common.{◌*◌}
use Rattle.blocks.specs.Words.{block_words}
use Rattle.blocks.proofs.Images.{Wrote, Writing}
use Rattle.blocks.proofs.write_image.Given as goal

abbrev pub invariant-loop-j : goal.invariant-loop-j
invariant-loop-j l = Writing l.p l.block l.j l.check l.initial.b l.b

abbrev pub invariant-loop-block : goal.invariant-loop-block
invariant-loop-block l = Wrote l.p (block_words * l.block) l.initial.b l.b
