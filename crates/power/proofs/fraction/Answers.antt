-- `power::fraction` meets its contract: at each turn the rest of the roots, from here, comes to the same.
use mathlib.Core.Path.{◌≡◌, refl, ap}
use Prim.Native.Nat.{ℕ, ◌+◌, ◌-◌, ◌*◌, ◌/◌, ◌%◌, ◌^◌, ◌<◌}
use native.Mathlib.Omega.{arith}
use mathlib.Core.List.{List}
use lib.ListN.{get_or}
use Rattle.power.specs.Roots.{roots}
use Rattle.power.proofs.Table.{root_in}
use Rattle.power.proofs.Turns.{below, so_far, turn, factor_lt, done}
use Rattle.power.proofs.fraction.Goals as goal

module _ (t : List ℕ) (e : t ≡ roots) (i : ℕ) (h : i < 24) where
  -- the table's entry at i
  entry : get_or t i 0 ≡ get_or roots i 0
  entry = ap (λ (t : List ℕ). get_or t i 0) e

  -- what a factor is at most
  factor : (f : ℕ) → let b = f / 2 ^ (23 - i) % 2 in
      let r = get_or t i 0 in
      (b * (r - 2 ^ 30) < 2 ^ 30) × (2 ^ 30 + b * (r - 2 ^ 30) < 2 ^ 32)
  factor f = factor_lt i (get_or t i 0) (f / 2 ^ (23 - i) % 2) h entry (omega arith)

pub loop-i-init : goal.loop-i-init
loop-i-init c = (c.all_roots-table.ensures, (omega arith, omega arith, refl))

pub overflow_sub-m : goal.overflow_sub-m
overflow_sub-m c =
    let l = c.loop-i in
    let t = c.all_roots-table.result in
    omega (arith, entry t l.invariant.0 l.i c.loop-i-test.true, root_in l.i c.loop-i-test.true)

pub overflow_mul-m : goal.overflow_mul-m
overflow_mul-m c = let l = c.loop-i in omega (arith, (factor c.all_roots-table.result l.invariant.0 l.i c.loop-i-test.true c.args.f).0)

pub overflow_add-m : goal.overflow_add-m
overflow_add-m c = let l = c.loop-i in omega (arith, (factor c.all_roots-table.result l.invariant.0 l.i c.loop-i-test.true c.args.f).0)

pub overflow_mul-m-in-loop-i : goal.overflow_mul-m-in-loop-i
overflow_mul-m-in-loop-i c =
    let l = c.loop-i in
    record {
      fits = below 32 (omega (arith, so_far c.args.f l.m l.i c.requires l.invariant.1)) (factor c.all_roots-table.result l.invariant.0 l.i c.loop-i-test.true c.args.f).1;
    }

pub loop-i-preserved : goal.loop-i-preserved
loop-i-preserved c =
    let f = c.args.f in
    let l = c.loop-i in
    let t = c.all_roots-table.result in
    let h = c.loop-i-test.true in
    (l.invariant.0, turn f l.m l.i (get_or t l.i 0) (f / 2 ^ (23 - l.i) % 2) h refl (entry t l.invariant.0 l.i h) l.invariant.1)

pub returns : goal.returns
returns c =
    let t = c.loop-i in
    let l = t.invariant.1 in
    (done c.args.f t.m t.i c.loop-i-test.false l, l.0, so_far c.args.f t.m t.i c.requires l)
