-- A value less itself is zero exactly where it is finite.
use Rattle.std.proofs.Common.{◌≡◌, ℕ, ◌-◌, ◌*◌, ◌<◌, Bool, true, false, not, sym, refl, ap, ◌∙◌, le_refl, mul-pos, zero-mul, arith, le-ltb}
use lib.Ieee.{Float, nan, inf, fin, Format, binary32, binary64, up, down, neg, sum, add, sub, eq, round, of_bits}
use lib.Ieee.Fits.{down_pos}
use lib.Ieee.Scale.{finite, round_same}

none : (a : ℕ) → a - a ≡ 0
none a = omega arith

-- 0 by any number is 0
pub zero-round : (f : Format) (s : Bool) (c : ℕ) → 0 < c → round f s 0 c ≡ round f s 0 1
zero-round f s c p = round_same f s 0 c 0 1 p (omega arith) (sym (zero-mul c))

less_itself : (f : Format) (s : Bool) (a c : ℕ) → 0 < c → sum f s a (not s) a c ≡ round f false 0 1
unfolding sum
less_itself f true a c p = simp (le-ltb a a (le_refl a), none a) (zero-round f false c p)
less_itself f false a c p = simp (le-ltb a a (le_refl a), none a) (zero-round f false c p)

zero-eq : (f : Format) → eq (round f false 0 1) (of_bits f 0) ≡ true
unfolding round eq of_bits
zero-eq binary32 = refl
zero-eq binary64 = refl

pub difference : (f : Format) (x : Float) → eq (sub f x x) (of_bits f 0) ≡ finite x
unfolding sub add neg eq
difference f nan = refl
difference f (inf true) = refl
difference f (inf false) = refl
difference f (fin s m e) = ap (λ (z : Float). eq z (of_bits f 0)) (less_itself f s (m * up e * down e) (down e * down e) (mul-pos (down_pos e) (down_pos e))) ∙ zero-eq f
