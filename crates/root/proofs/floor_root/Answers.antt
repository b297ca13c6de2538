-- `root::floor_root` meets its contract. After i steps the root and what is beyond its square hold all digits of a * 4 ^ i but 54.
use mathlib.Core.Path.{◌≡◌, subst}
use Prim.Native.Nat.{ℕ, ◌+◌, ◌*◌}
use native.Mathlib.Omega.{arith}
use Rattle.root.proofs.Digits.{Brought, bring, room, all-brought}
use Rattle.root.proofs.floor_root.Goals as goal

pub loop-init : goal.loop-init
loop-init c = (omega arith, (omega arith, c.requires))

pub step-part-requires : goal.step-part-requires
step-part-requires c =
    let l = c.loop in
    (l.invariant.0, room c.args.a l.counter l.part.root l.part.rem l.rest c.requires (omega arith) l.invariant.1, omega arith)

pub loop-preserved : goal.loop-preserved
loop-preserved c =
    let l = c.loop in
    let p = c.step-part.result in
    (c.step-part.ensures.small, bring c.args.a l.counter l.part.root l.part.rem l.rest p.root p.rem l.invariant.1 c.step-part.ensures)

pub returns : goal.returns
returns c =
    let l = c.loop in
    let a = c.args.a in
    let all : l.counter ≡ 54 = omega arith in
    let p = l.part in
    all-brought a p.root p.rem l.rest (subst (λ (i : ℕ). Brought a i (p.root * p.root + p.rem) l.rest) all l.invariant.1) l.invariant.0
