-- The examples of the specification for the power, by computation.
use mathlib.Core.Path.{refl}
use lib.Ieee.{size, round, neg, lt, is_nan, of_int, of_bits}
use Rattle.float.specs.Units.{units_of}
use Rattle.float.specs.Choice.{min_of}
use Rattle.power.specs.Roots.{roots}
use Rattle.power.specs.Power.{floor_units, floor_of, raise, pow_units, pow_at, exp2_of}
use Rattle.power.specs.Examples.{PowerExamples}

pub power-examples : PowerExamples
unfolding exp2_of pow_at pow_units raise roots floor_of floor_units units_of min_of lt neg is_nan of_int of_bits round size
power-examples = (refl, refl, refl)
