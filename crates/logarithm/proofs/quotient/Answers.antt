-- `logarithm::quotient` meets its contract: the whole number is exact as an f64, and the divisor has the sign of N.
use mathlib.Core.Path.{sym, ap}
use Prim.Native.Nat.{ℕ, ◌-◌, ◌*◌, ◌≤◌, ◌^◌}
use native.Mathlib.Omega.{arith}
use lib.Dec.{T, le→leb}
use lib.IntN.{pos, nat_abs}
use lib.Ieee.{fin, binary64, minus, in_float, neg, of_bits}
use Rattle.logarithm.specs.Logarithm.{steps, negative}
use Rattle.logarithm.proofs.Divided.{minus-high, minus-low, divided}
use Rattle.logarithm.proofs.quotient.Goals as goal

in_float_lem : (n : ℕ) → n ≤ 2 ^ 53 → T (in_float binary64 (pos n))
unfolding in_float
in_float_lem n h = le→leb n (2 ^ 53) h

abbrev least : ℕ
least = 1074 * 2 ^ steps

pub int_to_float-result : goal.int_to_float-result
int_to_float-result c = in_float_lem (c.args.n - least) (omega arith)

pub returns-then-n-ge-LEAST : goal.returns-then-n-ge-LEAST
unfolding of_bits
returns-then-n-ge-LEAST c =
    let n = c.args.n in
    let z = minus-high n least c.if-n-ge-LEAST.true in
    divided steps (n - least) (minus n least) _ (omega arith) (ap (λ s. fin (negative s) 1 (pos steps)) (sym z)) (ap nat_abs z)

pub int_to_float-result-else-n-ge-LEAST : goal.int_to_float-result-else-n-ge-LEAST
int_to_float-result-else-n-ge-LEAST c = in_float_lem (least - c.args.n) (omega arith)

pub returns-else-n-ge-LEAST : goal.returns-else-n-ge-LEAST
unfolding of_bits neg
returns-else-n-ge-LEAST c =
    let n = c.args.n in
    let z = minus-low n least c.if-n-ge-LEAST.false in
    divided steps (least - n) (minus n least) _ (omega arith) (ap (λ s. fin s 1 (pos steps)) (sym z.0)) z.1
