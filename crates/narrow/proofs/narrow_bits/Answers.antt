-- `narrow::narrow_bits` meets its contract, in each range of the exponent.
use mathlib.Core.Path.{◌≡◌}
use Prim.Native.Nat.{◌+◌, ◌-◌, ◌*◌, ◌^◌, min}
use native.Mathlib.Omega.{arith}
use borrow.Author.Rules.{rules}
use Rattle.narrow.proofs.Rounded.{kept-le, normal-bits, subnormal_bits}
use Rattle.narrow.proofs.narrow_bits.Goals as goal

pub overflow_add-p : goal.overflow_add-p
overflow_add-p c = omega (arith, c.nearest_shift.ensures, kept-le c.args.p.sig 896 c.requires.0)

pub returns-then-p-ge896 : goal.returns-then-p-ge896
returns-then-p-ge896 c =
    let p = c.args.p in
    let capped : c.min.result ≡ min ((p.exp - 896) * 2 ^ 23 + c.nearest_shift.result) (255 * 2 ^ 23) = search rules in
    normal-bits p.sig p.exp c.min.result c.nearest_shift.result c.if-p-ge896.true capped c.nearest_shift.ensures

pub returns : goal.returns
returns c =
    subnormal_bits c.args.p.sig c.args.p.exp c.nearest_shift-2.result c.if-p-ge896.false c.requires.0 c.nearest_shift-2.ensures
