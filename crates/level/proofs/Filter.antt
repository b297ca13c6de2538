-- A section's state is a function of what it heard: the two taps that the next outputs want. So its outputs are those of the difference equation.
use Rattle.std.proofs.Common.{◌≡◌, ℕ, zero, suc, ◌+◌, ◌<◌, List, [], ◌∷◌, length, take, drop, sym, refl, ap, ◌∙◌, suc-le-suc, add-suc, suc-add, zero-add, arith}
use native.Mathlib.Nat.{suc_inj}
use mathlib.Core.List.{foldl, reverse_aux}
use lib.Ieee.{Float, add, sub, mul, of_bits}
use Rattle.biquad.specs.declared.State.{State}
use Rattle.biquad.specs.declared.Coefficients.{Coefficients}
use Rattle.biquad.specs.Sections.{k_shelf, k_high_pass}
use Rattle.biquad.specs.Tick.{at_rest, tap, tick_of}
use Rattle.level.specs.declared.Weighing.{Weighing}
use Rattle.level.specs.Bs1770.{back, response, filtered, weighted, energy, smoothed}
use Rattle.float.specs.Arithmetic.{◌⊕◌, ◌⊗◌}
use Rattle.level.specs.Weighing.{step_of}

-- ---- one section; lists run newest first

unfoldable pub state_at : Coefficients → List Float → State
state_at c xs =
    let ys = filtered c xs in
    record {
      z1 = tap c.b1 c.a1 (back xs 0) (back ys 0) ⊕ tap c.b2 c.a2 (back xs 1) (back ys 1);
      z2 = tap c.b2 c.a2 (back xs 0) (back ys 0);
    }

pub tick-at : (c : Coefficients) (xs : List Float) (x : Float)
    → tick_of (state_at c xs) c x ≡ record { state = state_at c (x ∷ xs); y = back (filtered c (x ∷ xs)) 0 }
unfolding tick_of state_at filtered
tick-at c xs x = refl

pub shelf-rest : at_rest ≡ state_at k_shelf []
unfolding state_at filtered add sub mul of_bits
shelf-rest = refl

pub high_pass-rest : at_rest ≡ state_at k_high_pass []
unfolding state_at filtered add sub mul of_bits
high_pass-rest = refl

filtered-length : (c : Coefficients) (xs : List Float) → length (filtered c xs) ≡ length xs
unfolding filtered
filtered-length c [] = refl
filtered-length c (x ∷ xs) = ap suc (filtered-length c xs)

pub weighted-length : (xs : List Float) → length (weighted xs) ≡ length xs
weighted-length xs = filtered-length k_high_pass (filtered k_shelf xs) ∙ filtered-length k_shelf xs

-- the difference equation, k samples back: the outputs meet it, and no others do
abbrev pub Meets : Coefficients → List Float → List Float → ℕ → Type 0
Meets c xs ys k =
    back ys k
    ≡ c.b0 ⊗ back xs k
    ⊕ (tap c.b1 c.a1 (back xs (suc k)) (back ys (suc k)) ⊕ tap c.b2 c.a2 (back xs (suc (suc k))) (back ys (suc (suc k))))

pub filtered_meets : (c : Coefficients) (xs : List Float) (k : ℕ) → k < length xs → Meets c xs (filtered c xs) k
unfolding filtered
filtered_meets c [] k h = absurd (omega arith)
filtered_meets c (x ∷ xs) zero h = refl
filtered_meets c (x ∷ xs) (suc k) h = filtered_meets c xs k (omega arith)

pub filtered-only : (c : Coefficients) (xs ys : List Float) → length ys ≡ length xs → ((k : ℕ) → k < length xs → Meets c xs ys k) → ys ≡ filtered c xs
unfolding filtered
filtered-only c [] [] l m = refl
filtered-only c [] (y ∷ ys) l m = absurd (omega (arith, l))
filtered-only c (x ∷ xs) [] l m = absurd (omega (arith, l))
filtered-only c (x ∷ xs) (y ∷ ys) l m =
    let e : ys ≡ filtered c xs = filtered-only c xs ys (suc_inj l) (λ k h. m (suc k) (suc-le-suc h)) in
    ap {B = List Float} (λ (z : Float). z ∷ ys) (m 0 (omega arith)) ∙ ap (λ (zs : List Float). response c x xs zs ∷ zs) e

-- ---- a channel, j samples into a frame, with all that was heard

unfoldable pub weighing_at : ℕ → List Float → Weighing
weighing_at j xs = record {
  shelf = state_at k_shelf xs;
  high_pass = state_at k_high_pass (filtered k_shelf xs);
  fast = smoothed (weighted xs);
  energy = energy (take j (weighted xs));
}

pub step-at : (j : ℕ) (xs : List Float) (x : Float) → step_of (weighing_at j xs) x ≡ weighing_at (suc j) (x ∷ xs)
unfolding weighing_at step_of tick_of state_at filtered energy smoothed
step-at j xs x = refl

pub run_at : (f : List Float) (j : ℕ) (xs : List Float) → foldl step_of (weighing_at j xs) f ≡ weighing_at (length f + j) (reverse_aux f xs)
run_at [] j xs = ap (λ (k : ℕ). weighing_at k xs) (sym (zero-add j))
run_at (x ∷ f) j xs =
    ap (λ (w : Weighing). foldl step_of w f) (step-at j xs x)
    ∙ run_at f (suc j) (x ∷ xs)
    ∙ ap (λ (k : ℕ). weighing_at k (reverse_aux f (x ∷ xs))) (add-suc (length f) j ∙ sym (suc-add (length f) j))

-- what was heard before a frame stands behind it
pub weighted-drop : (f : List Float) (j : ℕ) (xs : List Float) → drop (length f + j) (weighted (reverse_aux f xs)) ≡ drop j (weighted xs)
unfolding filtered
weighted-drop [] j xs = ap (λ (k : ℕ). drop k (weighted xs)) (zero-add j)
weighted-drop (x ∷ f) j xs =
    ap (λ (k : ℕ). drop k (weighted (reverse_aux f (x ∷ xs)))) (suc-add (length f) j ∙ sym (add-suc (length f) j))
    ∙ weighted-drop f (suc j) (x ∷ xs)
