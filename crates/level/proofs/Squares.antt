-- Sums of squares have no minus sign, so 1 times them and 0 plus them are what they are: the one channel's power is its mean square.
use Rattle.std.proofs.Common.{◌≡◌, ℕ, T, List, [], ◌∷◌, ap, ◌∙◌}
use lib.Ieee.{Float, binary64, fits, sub, of_bits, of_int}
use Rattle.float.specs.Valid.{plus, NoMinus}
use Rattle.float.proofs.Plus.{add-sum, mul-plus, square-plus, div-sum}
use Rattle.float.proofs.Exact.{one-times, nil_and}
use Rattle.level.specs.declared.Weighing.{Weighing}
use Rattle.level.specs.Bs1770.{energy, fast_coeff, smoothed}
use Rattle.float.specs.Arithmetic.{◌⊕◌, ◌⊖◌, ◌⊗◌, ◌⊘◌, zero64, one64, whole}
use Rattle.level.specs.Level.{no_channel, joined_of}

zero-sum : NoMinus binary64 zero64
unfolding of_bits fits
zero-sum = (tt, tt)

pub energy-sum : (ys : List Float) → NoMinus binary64 (energy ys)
unfolding energy
energy-sum [] = zero-sum
energy-sum (y ∷ ys) = add-sum binary64 (energy ys) (y ⊗ y) (energy-sum ys).0 (square-plus binary64 y)

frame-plus : T (plus (whole 480))
unfolding of_int
frame-plus = tt

pub mean-sum : (ys : List Float) → NoMinus binary64 (energy ys ⊘ whole 480)
mean-sum ys = div-sum binary64 (energy ys) (whole 480) (energy-sum ys).0 frame-plus

coeff-plus : T (plus fast_coeff) × T (plus (one64 ⊖ fast_coeff))
unfolding of_bits sub
coeff-plus = (tt, tt)

pub smoothed-sum : (ys : List Float) → NoMinus binary64 (smoothed ys)
unfolding smoothed
smoothed-sum [] = zero-sum
smoothed-sum (y ∷ ys) =
    add-sum binary64 (smoothed ys ⊗ fast_coeff) (y ⊗ y ⊗ (one64 ⊖ fast_coeff))
    (mul-plus binary64 (smoothed ys) fast_coeff (smoothed-sum ys).0 coeff-plus.0)
    (mul-plus binary64 (y ⊗ y) (one64 ⊖ fast_coeff) (square-plus binary64 y) coeff-plus.1)

-- ---- of weight 1, and alone in a sum

pub joined-power : (w : Weighing) (ys : List Float) → w.energy ≡ energy ys → (joined_of no_channel one64 w 480).power ≡ energy ys ⊘ whole 480
unfolding joined_of of_bits
joined-power w ys e =
    ap (λ (x : Float). zero64 ⊕ one64 ⊗ x ⊘ whole 480) e
    ∙ ap (λ (x : Float). zero64 ⊕ x ⊘ whole 480) (one-times binary64 (energy ys) (energy-sum ys).1)
    ∙ nil_and binary64 (energy ys ⊘ whole 480) (mean-sum ys)

pub joined-fast : (w : Weighing) (n : ℕ) (ys : List Float) → w.fast ≡ smoothed ys → (joined_of no_channel one64 w n).fast ≡ smoothed ys
unfolding joined_of of_bits
joined-fast w n ys e =
    ap (λ (x : Float). zero64 ⊕ one64 ⊗ x) e
    ∙ ap (λ (x : Float). zero64 ⊕ x) (one-times binary64 (smoothed ys) (smoothed-sum ys).1)
    ∙ nil_and binary64 (smoothed ys) (smoothed-sum ys)
