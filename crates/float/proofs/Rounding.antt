-- What std's `round` answers is what `round_of` says; and the nearest whole number by the halves of a / c.
use Rattle.std.proofs.Common.{◌≡◌, ℕ, ◌+◌, ◌*◌, ◌/◌, ◌<◌, true, false, sym, refl, ap, ◌∙◌, mul_comm}
use native.Mathlib.Nat.{div-div-eq-div-mul, add-div_right}
use lib.Ieee.{Float, nan, inf, fin, binary64}
use Rattle.std.specs.Float.{float_round}
use Rattle.float.specs.Whole.{nearest_up, round_of}

pub as_std : (x : Float) → float_round binary64 x ≡ round_of binary64 x
unfolding round_of Rattle.std.specs.Float.round_with
as_std nan = refl
as_std (inf s) = refl
as_std (fin true m e) = refl
as_std (fin false m e) = refl

pub halves-up : (a c : ℕ) → 0 < c → (2 * a / c + 1) / 2 ≡ nearest_up a c
halves-up a c p =
    ap (λ (k : ℕ). k / 2) (sym (add-div_right (2 * a) p))
    ∙ div-div-eq-div-mul (2 * a + c) c 2
    ∙ ap (λ (k : ℕ). (2 * a + c) / k) (mul_comm c 2)
