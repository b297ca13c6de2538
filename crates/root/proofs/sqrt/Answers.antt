-- `root::sqrt` meets its contract: by what the argument is.
use mathlib.Core.Path.{◌≡◌, sym, ◌∙◌, subst}
use Prim.Native.Nat.{ℕ, ◌<◌}
use native.Mathlib.Omega.{arith}
use lib.Dec.{T}
use lib.Ieee.{of_bits}
use Rattle.root.proofs.Cases.{no_number, minus-infinite, plus-infinite, bounds, zero-stays, below-zero, above_zero}
use Rattle.root.proofs.sqrt.Goals as goal

some : (n : ℕ) → (n ≡ 0 → ⊥) → 0 < n
some n h = omega arith

pub returns-then-negative : goal.returns-then-negative
unfolding of_bits
returns-then-negative c =
    minus-infinite c.args.x c.in-Infinite.negative (sym c.classify.ensures ∙ c.in-Infinite.is) c.if-negative.true

pub returns-then-p-eq0 : goal.returns-then-p-eq0
returns-then-p-eq0 c =
    zero-stays c.args.x c.in-Finite.p (subst T (sym c.well_formed.0.1) tt) (sym c.classify.ensures ∙ c.in-Finite.is) c.if-p-eq0.true

pub returns-then-p : goal.returns-then-p
unfolding of_bits
returns-then-p c =
    below-zero c.args.x c.in-Finite.p (subst T (sym c.well_formed.0.1) tt) (sym c.classify.ensures ∙ c.in-Finite.is)
    (some c.in-Finite.p.sig c.if-p-eq0.false) c.if-p.true

pub root_of-requires : goal.root_of-requires
root_of-requires c =
    let b = bounds c.args.x c.in-Finite.p (subst T (sym c.well_formed.0.1) tt) (sym c.classify.ensures ∙ c.in-Finite.is) in
    (some c.in-Finite.p.sig c.if-p-eq0.false, b)

pub returns-in-NotANumber : goal.returns-in-NotANumber
returns-in-NotANumber c = no_number c.args.x (sym c.classify.ensures ∙ c.in-NotANumber.is)

pub returns-else-negative : goal.returns-else-negative
returns-else-negative c =
    plus-infinite c.args.x c.in-Infinite.negative (sym c.classify.ensures ∙ c.in-Infinite.is) c.if-negative.false

pub returns-else-p : goal.returns-else-p
returns-else-p c =
    c.root_of.ensures
    ∙ above_zero c.args.x c.in-Finite.p (subst T (sym c.well_formed.0.1) tt) (sym c.classify.ensures ∙ c.in-Finite.is)
    (some c.in-Finite.p.sig c.if-p-eq0.false) c.if-p.false
