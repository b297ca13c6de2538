-- What std's `is_finite` answers is what `finite` says.
use mathlib.Core.Path.{◌≡◌, refl}
use lib.Ieee.{Float, nan, inf, fin}
use lib.Ieee.Scale.{finite}
use Rattle.std.specs.Float.{float_is_finite}

pub is_finite : (x : Float) → float_is_finite x ≡ finite x
unfolding float_is_finite
is_finite nan = refl
is_finite (inf s) = refl
is_finite (fin s m e) = refl
