-- `float::classify` meets its contract: the bits' three cases are the three kinds.
use Rattle.std.proofs.Common.{T, not, sym, ap, ◌∙◌, subst}
use Rattle.float.specs.declared.Kind.TheVariants.{Finite}
use Rattle.float.proofs.Classified.{no_number, infinite, finite}
use Rattle.float.proofs.classify.Goals as goal

pub returns-then-is_nan : goal.returns-then-is_nan
returns-then-is_nan c = no_number c.args.x (sym c.is_nan.ensures.value ∙ c.if-is_nan.true)

pub returns-then-a-eq-INFINITE : goal.returns-then-a-eq-INFINITE
returns-then-a-eq-INFINITE c = infinite c.args.x (subst T (sym c.well_formed.0.1) tt) (subst (λ b. T (not b)) c.if-is_nan.ensures.value tt) c.if-a-eq-INFINITE.true

pub returns : goal.returns
returns c =
    ap Finite c.fields.ensures ∙ finite c.args.x (subst T (sym c.well_formed.0.1) tt) (subst (λ b. T (not b)) c.if-is_nan.ensures.value tt) c.if-a-eq-INFINITE.false
