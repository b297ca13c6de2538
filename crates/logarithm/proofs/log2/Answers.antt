-- `logarithm::log2` meets its contract: each arm by the kind that it has found.
use mathlib.Core.Path.{sym, ap, ◌∙◌, subst}
use mathlib.Core.Bool.{Bool, cond}
use lib.Dec.{T}
use lib.Ieee.{nan, of_bits}
use Rattle.logarithm.proofs.ByKind.{of_nan, of-infinite, of_zero, sig_in, of_negative, of_positive}
use Rattle.logarithm.proofs.log2.Goals as goal

pub returns-then-negative : goal.returns-then-negative
unfolding of_bits
returns-then-negative c =
    let x = c.args.x in
    ap (λ (b : Bool). cond b nan x) (sym c.if-negative.true) ∙ of-infinite x c.in-Infinite.negative (sym c.classify.ensures ∙ c.in-Infinite.is)

pub returns-then-p-eq0 : goal.returns-then-p-eq0
unfolding of_bits
returns-then-p-eq0 c =
    of_zero c.args.x c.in-Finite.p (subst T (sym c.well_formed.0.1) tt) (sym c.classify.ensures ∙ c.in-Finite.is) c.if-p-eq0.true

pub returns-then-p : goal.returns-then-p
unfolding of_bits
returns-then-p c =
    of_negative c.args.x c.in-Finite.p (subst T (sym c.well_formed.0.1) tt) (sym c.classify.ensures ∙ c.in-Finite.is) c.if-p-eq0.false c.if-p.true

pub whole_log-requires : goal.whole_log-requires
whole_log-requires c =
    sig_in c.args.x c.in-Finite.p (subst T (sym c.well_formed.0.1) tt) (sym c.classify.ensures ∙ c.in-Finite.is) c.if-p-eq0.false

pub returns-in-NotANumber : goal.returns-in-NotANumber
returns-in-NotANumber c =
    of_nan c.args.x (sym c.classify.ensures ∙ c.in-NotANumber.is)

pub returns-else-negative : goal.returns-else-negative
returns-else-negative c =
    let x = c.args.x in
    ap (λ (b : Bool). cond b nan x) (sym c.if-negative.false) ∙ of-infinite x c.in-Infinite.negative (sym c.classify.ensures ∙ c.in-Infinite.is)

pub returns-else-p : goal.returns-else-p
returns-else-p c =
    let w = c.whole_log in
    c.quotient.ensures
    ∙ of_positive c.args.x c.in-Finite.p (subst T (sym c.well_formed.0.1) tt) (sym c.classify.ensures ∙ c.in-Finite.is) c.if-p-eq0.false w.result w.ensures.0 c.if-p.false
