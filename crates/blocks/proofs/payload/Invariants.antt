-- `blocks::payload` meets its contract: the words of the first blocks are laid, as far as there are places.
use Rattle.std.proofs.Common.{◌*◌, min, take}
use Rattle.blocks.specs.Lists.{Laid}
use Rattle.blocks.specs.Words.{checked_words}
use Rattle.blocks.specs.Image.{payload_of}
use Rattle.blocks.proofs.payload.Given as goal

abbrev pub invariant-loop-block : goal.invariant-loop-block
invariant-loop-block l = Laid l.initial.w 0 (take (min l.n (checked_words * l.block)) (payload_of l.b)) l.w
