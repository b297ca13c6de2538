-- `narrow::narrow` meets its contract: the three kinds of f64 are the definition's three cases.
use mathlib.Core.Path.{◌≡◌, refl, sym, ap, ◌∙◌, subst}
use mathlib.Core.Bool.{Bool, true, false, cond}
use Prim.Native.Nat.{ℕ, ◌+◌, ◌*◌, ◌^◌, ◌≤◌}
use lib.Dec.{T}
use lib.Ieee.{nan, inf, binary32, of_bits}
use Rattle.float.proofs.Classified.{is-nan, is-infinite, is_finite}
use Rattle.narrow.specs.Narrow.{narrow_of}
use Rattle.narrow.proofs.Rounded.{bits-le, finite-bits}
use Rattle.narrow.proofs.narrow.Goals as goal

of_nan : narrow_of nan ≡ nan
unfolding narrow_of
of_nan = refl

of_inf : (s : Bool) → of_bits binary32 (cond s (2 ^ 31) 0 + 255 * 2 ^ 23) ≡ narrow_of (inf s)
unfolding narrow_of of_bits
of_inf true = refl
of_inf false = refl

pub narrow_bits-requires : goal.narrow_bits-requires
narrow_bits-requires c =
    let w = (is_finite c.args.x c.in-Finite.p (subst T (sym c.well_formed.0.1) tt) (sym c.classify.ensures ∙ c.in-Finite.is)).parts_of in
    (w.short, w.range)

pub signed-requires-in-Finite : goal.signed-requires-in-Finite
signed-requires-in-Finite c = subst (λ (n : ℕ). n ≤ 255 * 2 ^ 23) (sym c.narrow_bits.ensures) (bits-le _ _)

pub returns-in-NotANumber : goal.returns-in-NotANumber
unfolding of_bits
returns-in-NotANumber c =
    sym (ap narrow_of (is-nan c.args.x (sym c.classify.ensures ∙ c.in-NotANumber.is)) ∙ of_nan)

pub returns-in-Infinite : goal.returns-in-Infinite
returns-in-Infinite c =
    c.signed.ensures
    ∙ of_inf c.in-Infinite.negative
    ∙ sym (ap narrow_of (is-infinite c.args.x c.in-Infinite.negative (sym c.classify.ensures ∙ c.in-Infinite.is)))

pub returns-in-Finite : goal.returns-in-Finite
returns-in-Finite c =
    c.signed-in-Finite.ensures
    ∙ ap (λ (n : ℕ). of_bits binary32 (cond c.in-Finite.p.negative (2 ^ 31) 0 + n)) c.narrow_bits.ensures
    ∙ finite-bits c.args.x c.in-Finite.p (subst T (sym c.well_formed.0.1) tt) (sym c.classify.ensures ∙ c.in-Finite.is)
