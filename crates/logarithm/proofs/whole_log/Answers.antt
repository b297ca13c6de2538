-- `logarithm::whole_log` meets its contract: the digits below the leading zeros are those of sig * 2 ^ exp.
use mathlib.Core.Path.{sym, ap, subst, ◌∙◌}
use Prim.Native.Nat.{ℕ, ◌+◌, ◌-◌, ◌*◌, ◌<◌, ◌^◌}
use native.Mathlib.Omega.{arith}
use Rattle.logarithm.specs.Logarithm.{steps}
use Rattle.logarithm.proofs.Squaring.{fraction-lt}
use Rattle.logarithm.proofs.Leading.{zeros-few, lead_in, whole_log-is}
use Rattle.logarithm.proofs.whole_log.Goals.{After-fraction}
use Rattle.logarithm.proofs.whole_log.Goals as goal

below : (c : After-fraction) → c.fraction.result < 2 ^ steps
below c = subst (λ (x : ℕ). x < 2 ^ steps) (sym c.fraction.ensures) (fraction-lt steps _)

pub overflow_cast-m : goal.overflow_cast-m
overflow_cast-m c = omega (arith, zeros-few c.args.p.sig c.requires.0 (omega arith))

pub overflow_shl-m : goal.overflow_shl-m
overflow_shl-m c = omega (arith, zeros-few c.args.p.sig c.requires.0 (omega arith))

pub overflow_sub-place : goal.overflow_sub-place
overflow_sub-place c = omega (arith, c.from.ensures, zeros-few c.args.p.sig c.requires.0 (omega arith))

pub fraction-requires : goal.fraction-requires
fraction-requires c = lead_in c.args.p.sig c.requires.0 (omega arith)

pub overflow_add-result : goal.overflow_add-result
overflow_add-result c = omega (arith, c.from.ensures, zeros-few c.args.p.sig c.requires.0 (omega arith), below c)

pub returns : goal.returns
returns c =
    let p = c.args.p in (
      ap (λ (z : ℕ). (63 - z + p.exp) * 2 ^ steps + c.fraction.result) c.from.ensures
          ∙ whole_log-is p.sig c.requires.0 (omega arith) steps p.exp c.fraction.result c.fraction.ensures,
      omega (arith, c.from.ensures, zeros-few p.sig c.requires.0 (omega arith), below c),
    )
