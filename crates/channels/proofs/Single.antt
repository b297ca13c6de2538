-- One channel of weight 1 is one channel: what BS.1770 says of several is then what it says of one.
use Prim.Native.Nat.{ℕ, zero, suc, min}
use mathlib.Core.Path.{◌≡◌, refl, ap, ◌∙◌}
use mathlib.Core.List.{List, [], ◌∷◌, reverse}
use lib.ListN.{take, drop}
use lib.Ieee.{Float, binary64, of_bits}
use Rattle.float.specs.Arithmetic.{◌⊕◌, ◌⊘◌, zero64, one64, whole}
use Rattle.float.proofs.Exact.{one-times, nil_and}
use Rattle.level.specs.Bs1770 as level
use Rattle.level.proofs.Squares.{energy-sum, mean-sum, smoothed-sum}
use Rattle.channels.specs.Bs1770.{Source, joint_power, joint_powers, mean_joint, joint_fast, power, momentary, short_term, fast}
use Rattle.channels.specs.Heard.{OneSource}

-- its weighted samples, newest first
abbrev alone : List Float → List Source
alone ys = record { weight = one64; samples = ys } ∷ []

one_power : (ys : List Float) → joint_power (alone ys) ≡ level.power ys
unfolding joint_power of_bits
one_power ys =
    let e = level.energy (take 480 ys) in
    ap (λ (x : Float). zero64 ⊕ x ⊘ whole 480) (one-times binary64 e (energy-sum (take 480 ys)).1)
    ∙ nil_and binary64 (e ⊘ whole 480) (mean-sum (take 480 ys))

one-fast : (ys : List Float) → joint_fast (alone ys) ≡ level.smoothed ys
unfolding joint_fast of_bits
one-fast ys =
    ap (λ (x : Float). zero64 ⊕ x) (one-times binary64 (level.smoothed ys) (smoothed-sum ys).1)
    ∙ nil_and binary64 (level.smoothed ys) (smoothed-sum ys)

one-powers : (n : ℕ) (ys : List Float) → joint_powers n (alone ys) ≡ level.powers n ys
unfolding joint_powers level.powers
one-powers zero ys = refl
one-powers (suc n) ys = λ i. one_power ys i ∷ one-powers n (drop 480 ys) i

one-mean : (n : ℕ) (ys : List Float) → mean_joint n (alone ys) ≡ level.mean_power n ys
one-mean n ys = ap level.mean (one-powers (min n (level.frames_in ys)) ys)

pub one_source : OneSource
unfolding power momentary short_term fast level.momentary level.short_term level.fast
one_source xs =
    let ys = level.weighted (reverse xs) in
    λ i. record {
      power = one_power ys i;
      momentary = record { 0 = level.loudness (one-mean 40 ys i) };
      short_term = record { 0 = level.loudness (one-mean 300 ys i) };
      fast = record { 0 = level.loudness (one-fast ys i) };
    }
