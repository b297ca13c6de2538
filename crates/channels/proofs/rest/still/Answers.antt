-- `still` meets its contract: a fold over as many numbers as there are samples.
use Prim.Native.Nat.{ℕ, zero, suc, ◌+◌}
use native.Mathlib.Omega.{arith}
use mathlib.Core.Path.{◌≡◌, refl, ◌∙◌}
use lib.Ieee.{Float}
use Rattle.std.proofs.Common.{rules, tests}
use Rattle.std.specs.List.{fold, range_with_len}
use Rattle.std.proofs.lemmas.Iterator.{YieldsList-from_range}
use Rattle.std.proofs.lemmas.Iterator.Consumers.{fold_from_yields_List}
use Rattle.level.specs.declared.Weighing.{Weighing}
use Rattle.level.specs.Rest.{still_step}
use Rattle.channels.specs.Rest.{still_run}
use Rattle.channels.proofs.Resting.{still-held}
use Rattle.channels.proofs.rest.still.Goals as goal

abbrev one_more : Float → Weighing → ℕ → Weighing
one_more y2 w k = still_step y2 w

fold-all : (y2 : Float) (k n : ℕ) (w : Weighing) → fold (one_more y2) w (range_with_len k n) ≡ still_run y2 n w
unfolding still_run
fold-all y2 k zero w = refl
fold-all y2 k (suc n) w = fold-all y2 (k + 1) n (still_step y2 w)

pub returns-then-same : goal.returns-then-same
returns-then-same c =
    let a = c.args in
    let n = c.still_step-next in
    let f = c.same in
    let g = c.same-2 in
    still-held a.y2 a.w n.result f.result g.result a.n n.ensures c.if-same.true f.ensures.1 g.ensures.1

pub returns : goal.returns
returns c =
    let a = c.args in
    fold_from_yields_List _ (one_more a.y2) _ _ c.fold.ensures.ran (YieldsList-from_range 0 a.n a.n refl (omega arith)) (λ w k r q h. search (rules, tests))
    ∙ fold-all a.y2 0 a.n a.w
