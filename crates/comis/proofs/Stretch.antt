-- What a release hands to the power of 60 is finite where the hold, which is stored, is.
use mathlib.Core.Path.{◌≡◌, refl, subst⁻¹}
use mathlib.Core.Bool.{Bool, true, false, not, cond}
use lib.Dec.{T, eqb}
use lib.IntN.{ℤ, negsuc}
use Prim.Native.Nat.{ℕ, ◌*◌}
use lib.Ieee.{Float, nan, inf, fin, binary64, div, lt, is_nan, round, of_bits, up, down, unlike}
use lib.Ieee.Scale.{finite}
use Rattle.float.specs.Arithmetic.{zero64, one64}
use Rattle.float.specs.Choice.{clamp_of}
use Rattle.power.proofs.Scaled.{round_number}
use Rattle.comis.specs.LoopBank.{release_hold, remaining_of}

-- a number clamped to 0 to 1 is finite
unit_finite : (x : Float) → T (not (is_nan x)) → T (finite (clamp_of x zero64 one64))
unfolding clamp_of lt is_nan of_bits
unit_finite nan n = absurd n
unit_finite (inf true) n = tt
unit_finite (inf false) n = tt
unit_finite (fin s m e) n = go (lt (fin s m e) zero64) (lt one64 (fin s m e))
  where
    go : (a b : Bool) → T (finite (cond a zero64 (cond b one64 (fin s m e))))
    go true b = tt
    go false true = tt
    go false false = tt

quotient : (s t : Bool) (m n : ℕ) (e d : ℤ) → eqb n 0 ≡ false → T (not (is_nan (div binary64 (fin s m e) (fin t n d))))
unfolding div
quotient s t m n e d h =
    subst⁻¹ (λ (b : Bool). T (not (is_nan (cond b (cond (eqb m 0) nan (inf (unlike s t))) (round binary64 (unlike s t) (m * up e * down d) (n * up d * down e)))))) h
    (round_number binary64 (unlike s t) (m * up e * down d) (n * up d * down e))

part-number : (hold : Float) → T (finite hold) → T (not (is_nan (div binary64 hold release_hold)))
unfolding of_bits
part-number nan h = absurd h
part-number (inf s) h = absurd h
part-number (fin s m e) h = quotient s false m 3602879701896397 e (negsuc 51) refl

pub remaining_finite : (hold : Float) → T (finite hold) → T (finite (remaining_of hold))
remaining_finite hold h = unit_finite (div binary64 hold release_hold) (part-number hold h)
