-- `image::get_either` meets its contract: the bed's channels by the edition, and all else from the same words.
use mathlib.Core.Path.{◌≡◌, sym, ap, ◌∙◌}
use Prim.Native.Nat.{ℕ, ◌+◌}
use mathlib.Core.List.{List}
use Rattle.channels.specs.declared.Surround.{Surround}
use Rattle.chain.specs.declared.Chain.{Chain}
use Rattle.channels.specs.Surround.{mono_surround}
use Rattle.surround_image.specs.Surround.{surround}
use Rattle.image.specs.declared.EditionNumber.{EditionNumber}
use Rattle.image.specs.declared.EditionNumber.TheVariants.{One, Two}
use Rattle.image.specs.Layout.{after_body}
use Rattle.image.specs.Edition1.{base}
use Rattle.image.specs.Chain.{body, with_surround, chain}
use Rattle.image.specs.Image.{read_by}
use Rattle.image.proofs.Codecs.{size-body}
use Rattle.image.proofs.get_either.Goals as goal
use Rattle.image.proofs.get_either.Goals.{in-One, in-Two}

-- in edition 1 the bed is one channel at 0, 0
first : (l : List ℕ) (s : Surround) → s ≡ mono_surround → with_surround (body.dec l 1) s ≡ read_by One l
unfolding base
first l s e = ap {B = Chain} (with_surround (body.dec l 1)) e

second : (l : List ℕ) (s : Surround) → s ≡ surround.dec l after_body → with_surround (body.dec l 1) s ≡ read_by Two l
unfolding chain
second l s e =
    let p : surround.dec l after_body ≡ surround.dec l (1 + body.size) = ap {B = Surround} (λ (n : ℕ). surround.dec l (1 + n)) (sym size-body) in
    ap {B = Chain} (with_surround (body.dec l 1)) (e ∙ p)

pub returns : goal.returns
returns c =
    let l = c.args.w.now in
    let by = λ (e : EditionNumber). read_by e l in
    c.get_body.ensures
    ∙ elim c.match-edition.branch [
      | in-One w ↦ first l _ (w.surround-is ∙ w.new-surround.ensures) ∙ ap {B = Chain} by (sym w.in-One.is)
      | in-Two w ↦ second l _ (w.surround-is ∙ w.get_surround-surround.ensures) ∙ ap {B = Chain} by (sym w.in-Two.is)
    ]
