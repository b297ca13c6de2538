-- `Radicand::nearest` meets its contract: the guess is checked, and the fallback is nearest.
use Prim.Native.Nat.{◌+◌, ◌*◌, ◌/◌, ◌^◌}
use native.Mathlib.Omega.{arith}
use Rattle.root.proofs.Checked.{digits, above_zero, no-nan-bits}
use Rattle.root.proofs.Radicand.nearest.Goals as goal

pub overflow_add-odd-2 : goal.overflow_add-odd-2
overflow_add-odd-2 c = omega (arith, digits c.args.self.a c.args.self.range.0 c.args.self.range.1)

pub float_from_bits-odd : goal.float_from_bits-odd
float_from_bits-odd c =
    let a = c.args.self.a in
    let d = digits a c.args.self.range.0 c.args.self.range.1 in
    no-nan-bits ((1022 + a / 2 ^ 53) * 2 ^ 52 + a / 2 ^ (a / 2 ^ 53)) (omega (arith, d, c.args.self.range.1))

pub float_to_bits-b : goal.float_to_bits-b
float_to_bits-b c = above_zero c.guess-g.result c.if-g.true

pub returns-then-is_near : goal.returns-then-is_near
returns-then-is_near c = c.is_near.ensures c.if-is_near.true
