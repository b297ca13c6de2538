-- `power::exp2` meets its contract: its arms are the cases of the definition.
use mathlib.Core.Path.{sym, ap, ◌∙◌, subst}
use lib.Dec.{T}
use Rattle.float.specs.Kind.{kind_of}
use Rattle.power.specs.Power.{pow_at}
use Rattle.power.proofs.Cases.{exp2-below, exp2-other, kind-nan, kind-infinite, Counted, counted}
use Rattle.power.proofs.exp2.Goals.{In-Finite}
use Rattle.power.proofs.exp2.Goals as goal

pub returns-then-y : goal.returns-then-y
returns-then-y c = exp2-below c.args.y c.if-y.true

parts_of : (c : In-Finite) → Counted c.args.y c.in-Finite.p
parts_of c = counted c.args.y c.in-Finite.p (subst T (sym c.well_formed.0.1) tt) c.if-y.false
    (sym (c.classify.ensures ∙ ap kind_of c.min.ensures) ∙ c.in-Finite.is)

pub steps-requires : goal.steps-requires
steps-requires c = let a = parts_of c in (a.few, a.place, a.size)

pub returns-in-Finite : goal.returns-in-Finite
returns-in-Finite c = c.power_at.ensures ∙ ap pow_at c.steps.ensures.0 ∙ (parts_of c.before.before).same

pub returns-in-Infinite : goal.returns-in-Infinite
returns-in-Infinite c =
    exp2-other c.args.y c.if-y.false (kind-infinite _ _ (sym (c.classify.ensures ∙ ap kind_of c.min.ensures) ∙ c.in-Infinite.is))

pub returns-in-NotANumber : goal.returns-in-NotANumber
returns-in-NotANumber c =
    exp2-other c.args.y c.if-y.false (kind-nan _ (sym (c.classify.ensures ∙ ap kind_of c.min.ensures) ∙ c.in-NotANumber.is))
