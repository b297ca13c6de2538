-- `surround_image::row` meets its contract.
use mathlib.Core.Path.{◌≡◌, sym, ap, ◌∙◌}
use Prim.Native.Nat.{ℕ, ◌+◌, ◌*◌}
use Rattle.codec.proofs.Rows.{row_in, row_out}
use Rattle.surround_image.proofs.row.Goals as goal

pub returns-then-k-n : goal.returns-then-k-n
returns-then-k-n g c =
    let d = g.T.Part.codec in
    let l = c.args.w.now in
    let e : c.WORDS.result ≡ d.size = c.WORDS.ensures ∙ sym g.met.T.Part.size in
    c.get.ensures ∙ ap (λ (s : ℕ). d.dec l (c.args.at + s * c.args.k)) e ∙ sym (row_in d _ l _ _ _ c.if-k-n.true)

pub returns-else-k-n : goal.returns-else-k-n
returns-else-k-n g c = c.unused.ensures ∙ sym (row_out g.T.Part.codec _ _ _ _ _ c.if-k-n.false)
