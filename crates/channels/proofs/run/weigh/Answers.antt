-- `weigh` meets its contract.
use Prim.Native.Nat.{ℕ}
use native.Mathlib.Omega.{arith}
use mathlib.Core.Path.{◌≡◌, subst}
use lib.ListN.{length, replicate}
use borrow.Author.Rules.{rules}
use Rattle.std.proofs.Common.{None}
use Rattle.layout.specs.Layout.{most}
use Rattle.sequence.proofs.Sized.{unmapped}
use Rattle.channels.specs.Runs.{Complete}
use Rattle.channels.proofs.Runs.{right-none, put_right, complete_all}
use Rattle.channels.proofs.run.weigh.Goals as goal

pub returns : goal.returns
returns c =
    let a = c.args in
    let l : length a.channels ≡ 8 = search (rules, unmapped) in
    λ e.
    let one = put_right a.channels a.xs.now (replicate most None) (right-none a.channels a.xs.now) 0 a.first (omega arith) e in
    complete_all a.channels a.n a.xs.now c.run_all.result l
    (subst (λ (m : ℕ). Complete a.channels a.xs.now m c.run_all.result) c.min.ensures (c.run_all.ensures one))
