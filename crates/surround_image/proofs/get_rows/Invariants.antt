-- `surround_image::get_rows` meets its contract: the first k places are read.
use mathlib.Core.Path.{◌≡◌}
use lib.ListN.{length, take}
use Rattle.blocks.specs.Lists.{table}
use Rattle.codec.specs.Codec.{row_at}
use Rattle.surround_image.proofs.get_rows.Given as goal

abbrev pub invariant-loop-k : goal.invariant-loop-k
invariant-loop-k g l = (length l.v ≡ length l.initial.v) × (take l.k l.v ≡ take l.k (table (row_at g.T.Part.codec g.T.Part.unused l.w l.at l.n) (length l.initial.v)))
