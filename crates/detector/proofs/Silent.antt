-- Samples that are all the same, and filters that they leave as they are.
use Rattle.std.proofs.Common.{◌≡◌, ℕ, zero, suc, ◌<◌, List, ◌∷◌, length, replicate, refl, ap, ◌∙◌, not-suc-le-zero}
use mathlib.Core.List.{foldl}
use lib.Ieee.{Float}
use Rattle.detector.specs.declared.filters.Bands.{Bands}
use Rattle.detector.specs.Filters.{step_of, run_of, outputs_of}
use Rattle.detector.specs.Rest.{Quiet}

still-run : (s : Bands) (v : Float) (n : ℕ) → step_of s v ≡ s → foldl step_of s (replicate n v) ≡ s
still-run s v zero h = refl
still-run s v (suc n) h = ap (λ (u : Bands). foldl step_of u (replicate n v)) h ∙ still-run s v n h

still-outputs : (s : Bands) (v : Float) (n : ℕ) → step_of s v ≡ s → outputs_of s (replicate n v) ≡ replicate n s.pitch
unfolding outputs_of
still-outputs s v zero h = refl
still-outputs s v (suc n) h = λ i. (h i).pitch ∷ (ap (λ (u : Bands). outputs_of u (replicate n v)) h ∙ still-outputs s v n h) i

first_run : (s : Bands) (v : Float) (n : ℕ) → step_of (step_of s v) v ≡ step_of s v → 0 < n → run_of s (replicate n v) ≡ step_of s v
unfolding run_of
first_run s v zero h l = absurd (not-suc-le-zero l)
first_run s v (suc n) h l = still-run (step_of s v) v n h

first-outputs : (s : Bands) (v : Float) (n : ℕ) → step_of (step_of s v) v ≡ step_of s v → outputs_of s (replicate n v) ≡ replicate n (step_of s v).pitch
unfolding outputs_of
first-outputs s v zero h = refl
first-outputs s v (suc n) h = ap (λ (l : List Float). (step_of s v).pitch ∷ l) (still-outputs (step_of s v) v n h)

pub quiet : (s : Bands) (v : Float) (xs : List Float) → xs ≡ replicate (length xs) v → step_of (step_of s v) v ≡ step_of s v → Quiet s v xs
quiet s v xs e h = record {
  runs = λ l. ap (run_of s) e ∙ first_run s v (length xs) h l;
  outputs = ap (outputs_of s) e ∙ first-outputs s v (length xs) h;
}
