-- The examples of the specification for the logarithm, by computation.
use mathlib.Core.Path.{refl}
use lib.Ieee.{size, round, of_int, of_bits}
use Rattle.float.specs.Units.{units_of}
use Rattle.logarithm.specs.Logarithm.{fraction_of, whole_log_of, units_log_of, quotient_of, log2_at, log2_to, log2_of}
use Rattle.logarithm.specs.Examples.{LogExamples}

pub log_examples : LogExamples
unfolding log2_of log2_to log2_at quotient_of units_log_of whole_log_of fraction_of units_of size round of_int of_bits
log_examples = (refl, refl, refl, refl)
