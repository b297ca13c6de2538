-- `weigh_frame` meets its contract: a shelf that stays need not be run.
use mathlib.Core.Path.{◌≡◌, refl, sym, subst, ◌∙◌, ap}
use mathlib.Core.List.{List, [], ◌∷◌, foldl}
use native.Mathlib.Omega.{arith}
use lib.Dec.{T}
use lib.ListN.{length, get_or}
use lib.Ieee.{Float, nan}
use Rattle.level.specs.declared.Weighing.{Weighing}
use Rattle.level.specs.Weighing.{step_of}
use Rattle.level.specs.Rest.{shelf_output, held_run, held_step}
use Rattle.pairs.specs.declared.Pair.{Pair}
use Rattle.pairs.specs.Pairs.{weighed_pairs}
use Rattle.paired_filters.specs.Pairs.{weighed_of, beside_of}
use Rattle.paired_filters.proofs.weigh_frame.Goals as goal

-- where the shelf stays, the samples count and not what they are
held-length : (v : Float) (w : Weighing) (xs ys : List Float) → length xs ≡ length ys → held_run v w xs ≡ held_run v w ys
unfolding held_run
held-length v w [] [] e = refl
held-length v w [] (y ∷ ys) e = absurd (omega (arith, e))
held-length v w (x ∷ xs) [] e = absurd (omega (arith, e))
held-length v w (x ∷ xs) (y ∷ ys) e = held-length v (held_step v w) xs ys (omega (arith, e))

-- what both strands come to, where the first one's shelf stays
beside-run : (s : Pair Weighing) (v : Float) (h o : Weighing) (xs ys : List Float) (x : Float) → length xs ≡ length ys → s ≡ beside_of v h o ys → v ≡ shelf_output h x
    → held_run (shelf_output h x) h xs ≡ foldl step_of h xs → (s.first ≡ foldl step_of h xs) × (s.second ≡ foldl step_of o ys)
unfolding beside_of
beside-run s v h o xs ys x n e f r =
    (ap (λ (t : Pair Weighing). t.first) e ∙ ap (λ (w : Float). held_run w h ys) f ∙ sym (held-length (shelf_output h x) h xs ys n) ∙ r, ap (λ (t : Pair Weighing). t.second) e)

pub returns-then-rests : goal.returns-then-rests
unfolding weighed_of
returns-then-rests c =
    let s = c.weigh_beside-s in
    let v = c.shelf_output in
    let a = c.args in
    let n : length a.xs.now ≡ length a.ys.now = omega arith in
    let p = beside-run s.result v.result a.weighed.first a.weighed.second a.xs.now a.ys.now (get_or a.xs.now 0 nan) n s.ensures v.ensures (c.rests.ensures.1 (subst T (sym c.if-rests.true) tt)) in
    c.of.ensures ∙ (λ i. weighed_pairs (p.0 i) (p.1 i))

pub returns-then-rests-2 : goal.returns-then-rests-2
unfolding weighed_of
returns-then-rests-2 c =
    let s = c.weigh_beside-s-then-rests-2 in
    let v = c.shelf_output-then-rests-2 in
    let a = c.args in
    let n : length a.ys.now ≡ length a.xs.now = omega arith in
    let p = beside-run s.result v.result a.weighed.second a.weighed.first a.ys.now a.xs.now (get_or a.ys.now 0 nan) n s.ensures v.ensures (c.rests-2.ensures.1 (subst T (sym c.if-rests-2.true) tt)) in
    c.of-then-rests-2.ensures ∙ (λ i. weighed_pairs (p.1 i) (p.0 i))
