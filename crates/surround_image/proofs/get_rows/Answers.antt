-- `surround_image::get_rows` meets its contract: the first k places are read.
use mathlib.Core.Path.{sym, ◌∙◌}
use Prim.Native.Nat.{◌<◌}
use native.Mathlib.Omega.{arith}
use lib.ListN.{length, length-set}
use Rattle.blocks.specs.Lists.{table}
use Rattle.blocks.proofs.Lists.{length-table, get_d_table}
use Rattle.sequence.proofs.Fill.{fill-turn, fill_end}
use Rattle.codec.specs.Codec.{row_at}
use Rattle.surround_image.proofs.get_rows.Goals as goal

pub loop-k-preserved : goal.loop-k-preserved
loop-k-preserved g c =
    let v = c.loop-k.v in
    let k = c.loop-k.k in
    let n = length c.args.v.now in
    let f = row_at g.T.Part.codec g.T.Part.unused c.args.w.now c.args.at c.args.n in
    let h : k < length v = omega (arith, c.loop-k.invariant.0) in
    let kn : k < n = omega (arith, c.loop-k.invariant.0) in (
      length-set v k c.row.result ∙ c.loop-k.invariant.0,
      fill-turn g.T.Part.unused v (table f n) c.row.result k c.loop-k.invariant.1 (c.row.ensures ∙ sym (get_d_table f n k g.T.Part.unused kn)) h (omega (arith, length-table f n)),
    )

pub returns : goal.returns
returns g c =
    let n = length c.args.v.now in
    let f = row_at g.T.Part.codec g.T.Part.unused c.args.w.now c.args.at c.args.n in
    fill_end c.loop-k.v (table f n) c.loop-k.k c.loop-k.invariant.1 (omega (arith, c.loop-k.invariant.0)) (omega (arith, c.loop-k.invariant.0, length-table f n))
