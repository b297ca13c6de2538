-- `surround_image::put_rows` meets its contract: the first k values are written.
use Prim.Native.Nat.{◌*◌}
use lib.ListN.{take}
use Rattle.codec.specs.Run.{Run}
use Rattle.codec.specs.Codec.{rows_enc}
use Rattle.surround_image.proofs.put_rows.Given as goal

abbrev pub invariant-loop-k : goal.invariant-loop-k
invariant-loop-k g l = Run l.initial.w l.at (g.T.Part.WORDS * l.k) (rows_enc g.T.Part.codec.enc (take l.k l.v)) l.w
