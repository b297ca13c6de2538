-- `image::get_loops` meets its contract.
use mathlib.Core.Path.{◌≡◌, ap, ◌∙◌}
use native.Mathlib.Omega.{arith}
use Prim.Native.Nat.{ℕ, ◌+◌}
use lib.ListN.{get_or}
use lib.Ieee.{binary64}
use Rattle.codec.specs.Fields.{num_of}
use Rattle.comis.specs.LoopBank.{db}
use Rattle.image.specs.Chain.{loops}
use Rattle.image.proofs.get_loops.Goals as goal

pub returns : goal.returns
unfolding loops
returns c =
    let l = c.args.w.now in
    let i = c.args.at in
    let p2 : i + 2 ≡ i + 1 + 1 = omega arith in
    let p3 : i + 3 ≡ i + 1 + 1 + 1 = omega arith in
    λ k. record {
      slow = db (c.get-slow.ensures k);
      mid = db (c.get-mid.ensures k);
      fast = db ((c.get-fast.ensures ∙ ap (λ (n : ℕ). num_of binary64 (get_or l n 0)) p2) k);
      hold_remaining_seconds = (c.get-hold_remaining_seconds.ensures ∙ ap (λ (n : ℕ). num_of binary64 (get_or l n 0)) p3) k;
    }
