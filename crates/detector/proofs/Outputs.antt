-- The laws that the loop over the samples of a frame cites: the outputs so far, and those that are left.
use Rattle.std.proofs.Common.{◌≡◌, ℕ, suc, ◌+◌, ◌<◌, ◌≤◌, List, [], ◌∷◌, ◌++◌, length, get_or, take, drop, set, refl, ap, append_assoc, append-nil, add-one, drop_of_length-le, drop-cons, take-suc-set}
use lib.Ieee.{Float, nan}
use Rattle.detector.specs.declared.filters.Bands.{Bands}
use Rattle.detector.specs.Filters.{step_of, outputs_of}

pub outputs-length : (s : Bands) (xs : List Float) → length (outputs_of s xs) ≡ length xs
unfolding outputs_of
outputs-length s [] = refl
outputs-length s (x ∷ xs) = ap suc (outputs-length (step_of s x) xs)

-- the sample at i is passed, and its output stored
pub outputs-turn : (s next : Bands) (xs out : List Float) (i : ℕ) → next ≡ step_of s (get_or xs i nan) → i < length xs → i < length out
    → take (i + 1) (set out i next.pitch) ++ outputs_of next (drop (i + 1) xs) ≡ take i out ++ outputs_of s (drop i xs)
unfolding outputs_of
outputs-turn s next xs out i e h k =
    rw (e, add-one, take-suc-set, drop-cons xs i nan)
    (append_assoc (take i out) ((step_of s (get_or xs i nan)).pitch ∷ []) (outputs_of (step_of s (get_or xs i nan)) (drop (suc i) xs)))

-- all are passed
pub outputs-end : (s : Bands) (xs out : List Float) (i : ℕ) → length xs ≤ i → take i out ++ outputs_of s (drop i xs) ≡ take i out
unfolding outputs_of
outputs-end s xs out i h = rw (drop_of_length-le xs h) (append-nil (take i out))
