-- `image::restore` meets its contract: read, its words written again, and compared.
use mathlib.Core.Path.{refl, sym, ◌∙◌}
use borrow.Author.Tests.{not-true, not-false}
use Rattle.blocks.specs.Lists.{Bytes}
use Rattle.blocks.proofs.Checks.{some-bad, none-bad}
use Rattle.image.proofs.Calls.{wrong_length, bad_check, good, foreign}
use Rattle.image.proofs.restore.Goals as goal

pub returns-in_default : goal.returns-in_default
returns-in_default c = c.refused.ensures ∙ wrong_length _ _ (sym c.in_default.is ∙ c.edition_of.ensures)

pub returns-then-is_some : goal.returns-then-is_some
returns-then-is_some c = c.refused-then-is_some.ensures ∙ bad_check _ _ _ (sym c.in-Some.is ∙ c.edition_of.ensures) (some-bad _ _ c.first_bad.ensures (sym c.is_some.ensures ∙ c.if-is_some.true))

pub returns-then-ne : goal.returns-then-ne
returns-then-ne c =
    let s : Bytes c.args.b.now = λ k. (c.type_inv.b k).fits in
    c.refused-then-ne.ensures
    ∙ foreign _ _ _ _ _ _ _ s (none-bad _ _ c.first_bad.ensures (sym c.is_some.ensures ∙ c.if-is_some.false)) refl c.payload.ensures refl
    _ (sym c.in-Some.is ∙ c.edition_of.ensures) c.get_either-new.ensures c.put_either.ensures (not-true _ (sym c.ne.ensures ∙ c.if-ne.true))

pub returns : goal.returns
returns c =
    let s : Bytes c.args.b.now = λ k. (c.type_inv.b k).fits in
    good _ _ _ _ _ _ _ s (none-bad _ _ c.first_bad.ensures (sym c.is_some.ensures ∙ c.if-is_some.false)) refl c.payload.ensures refl
    _ (sym c.in-Some.is ∙ c.edition_of.ensures) c.get_either-new.ensures c.put_either.ensures (not-false _ (sym c.ne.ensures ∙ c.if-ne.false))
