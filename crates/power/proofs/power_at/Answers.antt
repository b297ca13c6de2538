-- `power::power_at` meets its contract: its bits are those of the definition's value.
use mathlib.Core.Path.{◌∙◌}
use Prim.Native.Nat.{◌/◌, ◌^◌}
use native.Mathlib.Omega.{arith}
use Rattle.power.proofs.Bits.{no-nan-bits, read_bits, power-is}
use Rattle.power.proofs.power_at.Goals as goal

pub float_from_bits-result : goal.float_from_bits-result
float_from_bits-result c = no-nan-bits c.fraction-m.result (c.args.k / 2 ^ 24) c.fraction-m.ensures.1 c.fraction-m.ensures.2 (omega arith)

pub returns : goal.returns
returns c =
    read_bits c.fraction-m.result (c.args.k / 2 ^ 24) c.fraction-m.ensures.1 c.fraction-m.ensures.2 (omega arith)
    ∙ power-is c.args.k c.fraction-m.result c.fraction-m.ensures.0
