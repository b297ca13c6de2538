-- `root::root_of` meets its contract: the digits of the root go before its exponent.
use mathlib.Core.Path.{◌≡◌, sym, ap, subst}
use Prim.Native.Nat.{ℕ, ◌+◌, ◌*◌, ◌%◌, ◌^◌, ◌≤◌, ◌<◌}
use native.Mathlib.Nat.{lt_of_lt_of_le}
use native.Mathlib.Omega.{arith}
use lib.Dec.{lit≤}
use lib.Count.{count_leading_zeros}
use Rattle.float.specs.declared.Parts.{Parts}
use Rattle.float.specs.Kind.{InRange}
use Rattle.root.specs.Steps.{Near}
use Rattle.root.proofs.Scaled.{Scaled, zeros, shifted, shift_of, rest_of, digits_of, exponent_of, scaled, doubled}
use Rattle.root.proofs.Checked.{no-nan-bits}
use Rattle.root.proofs.Rounded.{read-root}
use Rattle.root.proofs.root_of.Goals as goal

module _ (p : Parts) (r : (0 < p.sig) × InRange p) where
  few : (11 ≤ count_leading_zeros 64 p.sig) × (count_leading_zeros 64 p.sig ≤ 63)
  few = zeros p.sig r.0 r.1.0

  own : Scaled (p.sig * 2 ^ p.exp * 2 ^ 1074) (digits_of p.sig p.exp) (exponent_of p.sig p.exp)
  own = scaled p.sig p.exp r.0 r.1.0 r.1.1

  -- the shift loses no digit
  same : digits_of p.sig p.exp ≡ p.sig * 2 ^ shift_of p.sig % 2 ^ 64 * (1 + rest_of p.sig p.exp % 2)
  same = ap (λ (x : ℕ). x * (1 + rest_of p.sig p.exp % 2)) (sym (shifted p.sig r.0 r.1.0).keeps)

  -- 53 digits, and one more where y is 1
  range : {y : ℕ} → y < 2 → (2 ^ 52 ≤ p.sig * 2 ^ shift_of p.sig % 2 ^ 64 * (1 + y)) × (p.sig * 2 ^ shift_of p.sig % 2 ^ 64 * (1 + y) < 2 ^ 54)
  range {y} l =
      let w = shifted p.sig r.0 r.1.0 in
      doubled (p.sig * 2 ^ shift_of p.sig % 2 ^ 64) y l (omega (arith, w)) (omega (arith, w))

pub overflow_sub-s : goal.overflow_sub-s
overflow_sub-s c = omega (arith, c.from-s.ensures, few c.args.p c.requires)

pub overflow_sub-t : goal.overflow_sub-t
overflow_sub-t c = omega (arith, c.from-s.ensures, few c.args.p c.requires)

pub overflow_shl-a : goal.overflow_shl-a
overflow_shl-a c = omega (arith, c.from-s.ensures, few c.args.p c.requires)

pub overflow_mul-a : goal.overflow_mul-a
overflow_mul-a c = rw c.from-s.ensures (record { fits = lt_of_lt_of_le (range c.args.p c.requires (omega arith)).1 (lit≤ tt) })

pub invariant_of-nearest : goal.invariant_of-nearest
invariant_of-nearest c = rw c.from-s.ensures (record { range = range c.args.p c.requires (omega arith) })

pub float_from_bits-result : goal.float_from_bits-result
float_from_bits-result c = rw c.from-s.ensures (no-nan-bits _ (omega (arith, (own c.args.p c.requires).range, c.nearest-q.ensures.most)))

pub returns : goal.returns
returns c =
    let p = c.args.p in
    let q = c.nearest-q.result in
    rw c.from-s.ensures
    (read-root (p.sig * 2 ^ p.exp) (digits_of p.sig p.exp) (exponent_of p.sig p.exp) q (own p c.requires)
    (subst (λ (a : ℕ). Near a q) (sym (same p c.requires)) (rw c.from-s.ensures at c.nearest-q.ensures)))
