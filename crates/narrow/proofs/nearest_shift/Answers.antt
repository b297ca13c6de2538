-- `narrow::nearest_shift` meets its contract.
use mathlib.Core.Path.{◌≡◌, sym, ap, ◌∙◌, subst}
use Prim.Native.Nat.{ℕ, ◌+◌, ◌-◌, ◌*◌, ◌/◌, ◌%◌, ◌^◌, ◌≤◌, ◌<◌}
use native.Mathlib.Omega.{arith}
use lib.Pow.{pow_pos, pow_mono}
use lib.Ieee.Nearest.{closest}
use Rattle.narrow.proofs.Shift.{one_shl, half_of, by-sum}
use Rattle.narrow.proofs.nearest_shift.Goals.{Start}
use Rattle.narrow.proofs.nearest_shift.Goals as goal

-- the code's half
abbrev half : Start → ℕ
half c = 1 * 2 ^ (c.args.d - 1) % 2 ^ 64

half_is : (c : Start) → half c ≡ 2 ^ (c.args.d - 1)
half_is c = one_shl (c.args.d - 1) (omega arith)

some : (c : Start) → 0 < half c
some c = subst (λ (x : ℕ). 0 < x) (sym (half_is c)) (pow_pos (c.args.d - 1))

small : (c : Start) → half c ≤ 2 ^ 62
small c = subst (λ (x : ℕ). x ≤ 2 ^ 62) (sym (half_is c)) (pow_mono (few c.args.d c.requires.1.1))
  where
    few : (d : ℕ) → d < 64 → d - 1 ≤ 62
    few d h = omega arith

pub overflow_sub-result : goal.overflow_sub-result
overflow_sub-result c = omega (arith, some c)

pub overflow_add-result : goal.overflow_add-result
overflow_add-result c = omega (arith, small c)

pub overflow_add-result-2 : goal.overflow_add-result-2
overflow_add-result-2 c = omega (arith, small c)

pub returns : goal.returns
returns c =
    let a = c.args.sig in
    let d = c.args.d in
    let h = 2 ^ (d - 1) in
    ap (λ (x : ℕ). (a + (x - 1) + a / 2 ^ d % 2) / 2 ^ d) (half_is c)
    ∙ subst (λ (w : ℕ). (a + (h - 1) + a / w % 2) / w ≡ closest a w) (half_of d c.requires.1.0) (by-sum a h (pow_pos (d - 1)))
