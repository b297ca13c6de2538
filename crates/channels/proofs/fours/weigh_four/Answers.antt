-- `weigh_four` meets its contract.
use Prim.Native.Nat.{ℕ, ◌+◌, ◌≤◌, ◌<◌}
use native.Mathlib.Omega.{arith}
use mathlib.Core.Path.{◌≡◌, ap, sym, ◌∙◌}
use mathlib.Core.List.{List, foldl, foldl-map}
use lib.Dec.{T}
use lib.ListN.{drop, get_or}
use lib.Ieee.{Float, nan}
use lib.Ieee.Scale.{finite}
use Rattle.sequence.proofs.Fold.{fold-turn, fold_end}
use Rattle.level.specs.declared.Weighing.{Weighing}
use Rattle.level.specs.Weighing.{clean_of, step_of, run_of}
use Rattle.level.proofs.Finite.{all-at}
use Rattle.pairs.specs.Pairs.{weighed_pairs}
use Rattle.channels.specs.Fours.{Whole}
use Rattle.channels.proofs.fours.weigh_four.Invariants.{hear}
use Rattle.channels.proofs.fours.weigh_four.Goals as goal

-- each sample is finite
finite-at : (xs : List Float) (i : ℕ) → Whole xs → i < 480 → T (finite (get_or xs i nan))
finite-at xs i w h = all-at xs i w.finite (omega (arith, w.samples))

-- one sample more of a channel, and all of them
turn : (s next : Weighing) (v : Float) (xs : List Float) (i : ℕ) → Whole xs → i < 480 → next ≡ step_of s v → v ≡ clean_of (get_or xs i nan) → foldl hear next (drop (i + 1) xs) ≡ foldl hear s (drop i xs)
turn s next v xs i w h e f = fold-turn hear nan s next xs i (e ∙ ap (step_of s) f) (omega (arith, w.samples))

ran : (s first : Weighing) (xs : List Float) (i : ℕ) → Whole xs → 480 ≤ i → foldl hear s (drop i xs) ≡ foldl hear first xs → s ≡ run_of first xs
unfolding run_of
ran s first xs i w h e = fold_end hear s xs i (omega (arith, w.samples)) ∙ e ∙ sym (foldl-map clean_of step_of xs first)

pub heard-requires : goal.heard-requires
heard-requires c = finite-at c.args.xs0.now c.loop-i.i c.loop-i.invariant.0 (omega arith)

pub heard-requires-in-loop-i : goal.heard-requires-in-loop-i
heard-requires-in-loop-i c = finite-at c.args.xs1.now c.loop-i.i c.loop-i.invariant.1 (omega arith)

pub heard-requires-in-loop-i-2 : goal.heard-requires-in-loop-i-2
heard-requires-in-loop-i-2 c = finite-at c.args.xs2.now c.loop-i.i c.loop-i.invariant.2 (omega arith)

pub heard-requires-in-loop-i-3 : goal.heard-requires-in-loop-i-3
heard-requires-in-loop-i-3 c = finite-at c.args.xs3.now c.loop-i.i c.loop-i.invariant.3 (omega arith)

pub loop-i-preserved : goal.loop-i-preserved
loop-i-preserved c =
    let l = c.loop-i in
    let a = c.args in
    let v = l.invariant in
    let t : l.i < 480 = omega arith in (
      v.0,
      v.1,
      v.2,
      v.3,
      turn l.a c.step-a.result c.heard.result a.xs0.now l.i v.0 t c.step-a.ensures c.heard.ensures ∙ v.4,
      turn l.b c.step-b.result c.heard-in-loop-i.result a.xs1.now l.i v.1 t c.step-b.ensures c.heard-in-loop-i.ensures ∙ v.5,
      turn l.c c.step-c.result c.heard-in-loop-i-2.result a.xs2.now l.i v.2 t c.step-c.ensures c.heard-in-loop-i-2.ensures ∙ v.6,
      turn l.d c.step-d.result c.heard-in-loop-i-3.result a.xs3.now l.i v.3 t c.step-d.ensures c.heard-in-loop-i-3.ensures ∙ v.7,
    )

pub returns : goal.returns
returns c =
    let l = c.loop-i in
    let a = c.args in
    let v = l.invariant in
    let t : 480 ≤ l.i = omega arith in
    let e0 = ran l.a a.w0 a.xs0.now l.i v.0 t v.4 in
    let e1 = ran l.b a.w1 a.xs1.now l.i v.1 t v.5 in
    let e2 = ran l.c a.w2 a.xs2.now l.i v.2 t v.6 in
    let e3 = ran l.d a.w3 a.xs3.now l.i v.3 t v.7 in
    λ i. record { first = (c.of.ensures ∙ (λ m. weighed_pairs (e0 m) (e1 m))) i; second = (c.of-2.ensures ∙ (λ m. weighed_pairs (e2 m) (e3 m))) i }
