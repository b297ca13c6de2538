-- The latest n of k frames of several channels are those of which BS.1770 takes the mean. Without a channel both means are those of silence.
use Prim.Native.Nat.{ℕ, zero, suc, ◌*◌, ◌<◌, min}
use native.Mathlib.Nat.{zero-mul, mul-pos}
use native.Mathlib.Omega.{arith}
use mathlib.Core.Bool.{Bool, true, false}
use mathlib.Core.Path.{◌≡◌, refl, ap, sym, ◌∙◌}
use mathlib.Core.List.{List, [], ◌∷◌, map, foldl}
use lib.Dec.{eqb}
use lib.ListN.{length, take}
use lib.Ieee.{Float, nan, inf, fin, binary64, unlike, up, round, add, div, lt, of_bits}
use lib.Ieee.Fits.{up_pos}
use borrow.Author.Tests.{eqb-false}
use Rattle.float.proofs.Difference.{zero-round}
use Rattle.float.specs.Arithmetic.{◌⊕◌, ◌⊘◌, zero64, whole}
use Rattle.float.specs.Silence.{silence_lufs}
use Rattle.sequence.proofs.Series.{series_take}
use Rattle.level.specs.Bs1770.{mean, loudness}
use Rattle.channels.specs.Bs1770.{Source, joint_power, before, joint_powers, frames_of, mean_joint}

-- each channel has k frames
abbrev pub Long : ℕ → List Source → Type 0
Long k [] = Unit {0}
Long k (c ∷ cs) = (length c.samples ≡ k * 480) × Long k cs

taken : (n k : ℕ) (cs : List Source) → take n (joint_powers k cs) ≡ joint_powers (min n k) cs
unfolding joint_powers
taken = series_take joint_power (map before) joint_powers (λ cs. refl) (λ n cs. refl)

-- ---- without a channel

nothing : (n : ℕ) → foldl ◌⊕◌ zero64 (joint_powers n []) ≡ zero64
unfolding joint_powers joint_power of_bits add
nothing zero = refl
nothing (suc n) = nothing n

-- 0 by any number isn't above 0
none_above : (x : Float) → lt zero64 (zero64 ⊘ x) ≡ false
unfolding of_bits div lt round
none_above nan = refl
none_above (inf true) = refl
none_above (inf false) = refl
none_above (fin s m e) = go (eqb m 0) refl
  where
    zeros : (t : Bool) → lt zero64 (round binary64 t 0 1) ≡ false
    zeros true = refl
    zeros false = refl

    go : (b : Bool) → eqb m 0 ≡ b → lt zero64 (zero64 ⊘ fin s m e) ≡ false
    go true h = rw h refl
    go false h =
        let p : 0 < m = omega (arith, eqb-false m 0 h) in
        let q : 0 < m * up e * 1 = omega (arith, mul-pos p (up_pos e)) in
        rw (h, zero-mul, zero-round binary64 (unlike false s) (m * up e * 1) q) (zeros (unlike false s))

silent : (n : ℕ) → loudness (mean (joint_powers n [])) ≡ silence_lufs
unfolding loudness mean
silent n =
    let ps = joint_powers n [] in
    ap (λ (s : Float). loudness (s ⊘ whole (length ps))) (nothing n) ∙ rw (none_above (whole (length ps))) refl

-- ---- the means

pub means-loudness : (n k : ℕ) (cs : List Source) → Long k cs → loudness (mean (take n (joint_powers k cs))) ≡ loudness (mean_joint n cs)
means-loudness n k [] l = ap (λ (ps : List Float). loudness (mean ps)) (taken n k []) ∙ silent (min n k) ∙ sym (silent (min n 0))
means-loudness n k (c ∷ cs) l =
    let e : k ≡ frames_of (c ∷ cs) = omega (arith, l.0) in
    ap (λ (ps : List Float). loudness (mean ps)) (taken n k (c ∷ cs))
    ∙ ap (λ (m : ℕ). loudness (mean (joint_powers (min n m) (c ∷ cs)))) e
