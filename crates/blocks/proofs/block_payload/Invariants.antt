-- `blocks::block_payload` meets its contract: the first j words of the block are laid.
use Rattle.std.proofs.Common.{◌*◌, take, drop}
use Rattle.blocks.specs.Lists.{Laid}
use Rattle.blocks.specs.Words.{checked_words}
use Rattle.blocks.specs.Image.{payload_of}
use Rattle.blocks.proofs.block_payload.Given as goal

abbrev pub invariant-loop-j : goal.invariant-loop-j
invariant-loop-j l = Laid l.initial.w (checked_words * l.block) (take l.j (drop (checked_words * l.block) (payload_of l.b))) l.w
