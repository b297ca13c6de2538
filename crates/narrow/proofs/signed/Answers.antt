-- `narrow::signed` meets its contract.
use mathlib.Core.Path.{sym, ap, ◌∙◌, subst}
use mathlib.Core.Bool.{Bool, true, false, not, cond}
use Prim.Native.Nat.{ℕ, ◌+◌, ◌^◌}
use native.Mathlib.Nat.{zero-add}
use lib.Ieee.{binary32, of_bits, nan_bits}
use lib.Dec.{T}
use Rattle.float.proofs.Coded.{no-nan-coded}
use Rattle.narrow.proofs.signed.Goals as goal

pub float_from_bits-result : goal.float_from_bits-result
float_from_bits-result c = no-nan-coded binary32 true c.args.n c.requires

pub returns-then-negative : goal.returns-then-negative
returns-then-negative c = ap (λ (s : Bool). of_bits binary32 (cond s (2 ^ 31) 0 + c.args.n)) (sym c.if-negative.true)

pub float_from_bits-result-else-negative : goal.float_from_bits-result-else-negative
float_from_bits-result-else-negative c =
    subst (λ (b : ℕ). T (not (nan_bits binary32 b))) (zero-add c.args.n) (no-nan-coded binary32 false c.args.n c.requires)

pub returns-else-negative : goal.returns-else-negative
returns-else-negative c =
    let n = c.args.n in
    ap (of_bits binary32) (sym (zero-add n)) ∙ ap (λ (s : Bool). of_bits binary32 (cond s (2 ^ 31) 0 + n)) (sym c.if-negative.false)
