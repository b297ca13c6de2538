-- Samples that are all the same, and a shelf that they leave as it is: only the high-pass and what follows it need be run.
use Rattle.std.proofs.Common.{◌≡◌, ℕ, zero, suc, List, length, replicate, sym, refl, ap, ◌∙◌, subst}
use mathlib.Core.List.{foldl}
use lib.Ieee.{Float}
use Rattle.float.proofs.Sameness.{Same}
use Rattle.biquad.specs.Sections.{k_shelf, k_high_pass}
use Rattle.biquad.specs.Tick.{tick_of}
use Rattle.level.specs.declared.Weighing.{Weighing}
use Rattle.level.specs.Weighing.{weighed, step_of}
use Rattle.level.specs.Rest.{shelf_output, held_step, held_run}

-- a sample x that leaves the shelf as it is
abbrev Stays : Weighing → Float → Type 0
Stays w x = (tick_of w.shelf k_shelf x).state ≡ w.shelf

held-step : (w : Weighing) (x : Float) → Stays w x → held_step (shelf_output w x) w ≡ step_of w x
unfolding held_step step_of
held-step w x h =
    let y = (tick_of w.shelf k_shelf x).y in
    λ i. weighed w (record { state = sym h i; y = y }) (tick_of w.high_pass k_high_pass y)

held_all : (x : Float) (n : ℕ) (w : Weighing) → Stays w x → held_run (shelf_output w x) w (replicate n x) ≡ foldl step_of w (replicate n x)
unfolding held_step held_run
held_all x zero w h = refl
held_all x (suc n) w h =
    held_all x n (held_step (shelf_output w x) w) h ∙ ap (λ (u : Weighing). foldl step_of u (replicate n x)) (held-step w x h)

pub held_alike : (x : Float) (w : Weighing) (xs : List Float) → Same x xs → Stays w x → held_run (shelf_output w x) w xs ≡ foldl step_of w xs
held_alike x w xs s h =
    subst (λ (l : List Float). held_run (shelf_output w x) w l ≡ foldl step_of w l) (sym s) (held_all x (length xs) w h)
