-- The fast reading's coefficient is exp(-1 / 2400) by the stand-in, by computation.
use mathlib.Core.Path.{◌≡◌, refl}
use lib.IntN.{negsuc}
use lib.Ieee.{binary64, mul, div, of_int, of_bits, neg, lt, is_nan}
use Rattle.float.specs.Choice.{min_of}
use Rattle.float.specs.Units.{units_of}
use Rattle.power.specs.Roots.{roots}
use Rattle.power.specs.Power.{exp_of, exp2_of, pow_at, pow_units, raise, floor_of, floor_units}
use Rattle.level.specs.Bs1770.{fast_coeff}
use Rattle.float.specs.Arithmetic.{◌⊘◌, whole}

pub fast-coeff : fast_coeff ≡ exp_of (of_int binary64 (negsuc 0) ⊘ whole 2400)
unfolding exp_of exp2_of mul div of_int of_bits is_nan lt neg pow_at pow_units raise roots floor_of min_of floor_units units_of
fast-coeff = refl
