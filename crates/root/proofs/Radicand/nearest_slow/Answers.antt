-- `Radicand::nearest_slow` meets its contract: half of the cut root, to the nearest.
use Prim.Native.Nat.{◌*◌, ◌^◌}
use native.Mathlib.Omega.{arith}
use Rattle.root.proofs.Squares.{root-below}
use Rattle.root.proofs.Digits.{near}
use Rattle.root.proofs.Radicand.nearest_slow.Goals as goal

pub overflow_add-result : goal.overflow_add-result
overflow_add-result c = omega (arith, root-below 54 c.floor_root.result (c.args.self.a * 2 ^ 54) c.floor_root.ensures.low (omega (arith, c.args.self.range.1)))

pub returns : goal.returns
returns c = near c.args.self.a c.floor_root.result c.args.self.range.0 c.args.self.range.1 c.floor_root.ensures
