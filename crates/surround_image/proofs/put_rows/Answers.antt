-- `surround_image::put_rows` meets its contract: the first k values are written.
use mathlib.Core.Path.{◌≡◌, sym, ap, subst}
use mathlib.Core.List.{List}
use Prim.Native.Nat.{ℕ, ◌+◌, ◌*◌}
use Rattle.codec.specs.Run.{Run}
use Rattle.codec.proofs.Runs.{rows_none, rows-turn}
use Rattle.surround_image.proofs.put_rows.Goals as goal

pub loop-k-init : goal.loop-k-init
loop-k-init g c = rows_none g.T.Part.codec.enc g.T.Part.WORDS c.args.v.now _ _

pub loop-k-preserved : goal.loop-k-preserved
loop-k-preserved g c =
    let p = g.T.Part in
    let x = c.index-v-k.result in
    let at = c.args.at in
    let e : at + p.WORDS * c.loop-k.k ≡ at + c.WORDS.result * c.loop-k.k = ap (λ (s : ℕ). at + s * c.loop-k.k) (sym c.WORDS.ensures) in
    rows-turn p.codec.enc p.WORDS c.args.v.now x c.loop-k.invariant c.loop-k-test.true e
    (subst (λ (ws : List ℕ). Run c.loop-k.w (at + c.WORDS.result * c.loop-k.k) p.WORDS ws c.put.new.w) (ap p.codec.enc c.index-v-k.is) c.put.ensures)
