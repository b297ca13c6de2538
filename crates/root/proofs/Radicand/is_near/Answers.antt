-- `Radicand::is_near` meets its contract: the products fit, and where every test passes q is nearest.
use Prim.Native.Nat.{◌+◌, ◌-◌, ◌*◌, ◌/◌, ◌%◌}
use native.Mathlib.Omega.{arith}
use borrow.Author.Tests.{leb-true}
use Rattle.root.proofs.Checked.{near_of, product_le, never}
use Rattle.root.proofs.Radicand.is_near.Goals as goal

pub overflow_mul-p : goal.overflow_mul-p
overflow_mul-p c =
    let h = c.args.q / 67108864 in
    omega (arith, product_le h h 134217728 134217728 (omega (arith, c.requires.1)) (omega (arith, c.requires.1)))

pub returns-then-self-p : goal.returns-then-self-p
returns-then-self-p c = never

pub returns-then-m-ge1073741824 : goal.returns-then-m-ge1073741824
returns-then-m-ge1073741824 c = never

pub overflow_mul-x : goal.overflow_mul-x
overflow_mul-x c =
    let q = c.args.q in
    omega (arith, product_le (q / 67108864) (q % 67108864) 134217728 67108864 (omega (arith, c.requires.1)) (omega arith))

pub returns-then-e-x : goal.returns-then-e-x
returns-then-e-x c = never

pub returns-then-f-ge2147483648 : goal.returns-then-f-ge2147483648
returns-then-f-ge2147483648 c = never

pub overflow_mul-u : goal.overflow_mul-u
overflow_mul-u c =
    let l = c.args.q % 67108864 in
    omega (arith, product_le l l 67108864 67108864 (omega arith) (omega arith))

pub overflow_add-u : goal.overflow_add-u
overflow_add-u c =
    let l = c.args.q % 67108864 in
    omega (arith, product_le l l 67108864 67108864 (omega arith) (omega arith))

pub returns-then-t-q : goal.returns-then-t-q
returns-then-t-q c = never

pub returns : goal.returns
returns c = λ e.
    let a = c.args.self.a in
    let q = c.args.q in
    let h = q / 67108864 in
    let l = q % 67108864 in
    near_of a h l (a - h * h) ((a - h * h) * 33554432 + 1073741824 - h * l) q
    (omega arith) c.requires.0 c.requires.1 (omega arith) (omega arith) (omega arith) (omega (arith, leb-true _ _ e))
