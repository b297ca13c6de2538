-- `power::steps` meets its contract: a shift of the digits, down above zero and up below it, is the floor.
use mathlib.Core.Path.{◌≡◌, sym, ap, ◌∙◌}
use mathlib.Core.Bool.{Bool}
use Prim.Native.Nat.{ℕ, ◌+◌, ◌-◌, ◌*◌, ◌^◌, ◌≤◌, ◌<◌}
use native.Mathlib.Omega.{arith}
use Rattle.float.specs.declared.Parts.{Parts}
use Rattle.power.specs.Power.{above, floor_units}
use Rattle.power.proofs.Floors.{floor-plus, floor-minus, floor-zero, shift-plus, shift-minus}
use Rattle.power.proofs.steps.Goals.{After-shifted, After-shifted-2}
use Rattle.power.proofs.steps.Goals as goal

some : (a : ℕ) → (a ≡ 0 → ⊥) → 0 < a
some a h = omega arith

signed : (p : Parts) (s : Bool) (r : ℕ) → p.negative ≡ s → r ≡ above (floor_units s (p.sig * 2 ^ p.exp)) → r ≡ above (floor_units p.negative (p.sig * 2 ^ p.exp))
signed p s r h e = e ∙ ap (λ (b : Bool). above (floor_units b (p.sig * 2 ^ p.exp))) (sym h)

-- the shifted digits, rounded up, of a y below zero
up-shifted : (c : After-shifted) → c.shifted.result + 1 ≤ 1000 * 2 ^ 24
up-shifted c =
    let p = c.args.p in
    omega (arith, c.shifted.ensures, shift-minus p.sig p.exp c.requires.1 (some p.sig c.if-p-eq0.false) c.requires.2)

down-shifted : (c : After-shifted-2) → c.shifted-2.result ≤ 1000 * 2 ^ 24
down-shifted c = let p = c.args.p in omega (arith, c.shifted-2.ensures, shift-plus p.sig p.exp c.requires.1 c.requires.2)

pub returns-then-p-eq0 : goal.returns-then-p-eq0
returns-then-p-eq0 c = let p = c.args.p in (signed p _ _ c.if-p.true (floor-zero p.sig p.exp c.if-p-eq0.true), omega arith)

pub overflow_add-result : goal.overflow_add-result
overflow_add-result c = omega (arith, up-shifted c)

pub overflow_sub-result : goal.overflow_sub-result
overflow_sub-result c = up-shifted c

pub returns-then-p : goal.returns-then-p
returns-then-p c =
    let p = c.args.p in (
      signed p _ _ c.if-p.true (ap (λ (x : ℕ). 1000 * 2 ^ 24 - (x + 1)) c.shifted.ensures ∙ floor-minus p.sig p.exp c.requires.1 (some p.sig c.if-p-eq0.false)),
      omega arith,
    )

pub overflow_add-result-2 : goal.overflow_add-result-2
overflow_add-result-2 c = omega (arith, down-shifted c)

pub returns : goal.returns
returns c =
    let p = c.args.p in
    (signed p _ _ c.if-p.false (ap (λ (x : ℕ). 1000 * 2 ^ 24 + x) c.shifted-2.ensures ∙ floor-plus p.sig p.exp c.requires.1), omega (arith, down-shifted c))
