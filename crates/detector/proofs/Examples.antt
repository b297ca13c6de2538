-- The examples of the specification for the smooth step, computed.
use Rattle.std.proofs.Common.{refl}
use lib.Ieee.{add, sub, mul, div, lt, round, of_int, of_bits}
use Rattle.float.specs.Choice.{clamp_of}
use Rattle.detector.specs.Steps.{smoothstep_of}
use Rattle.detector.specs.Examples.{SmoothstepExamples}

pub smoothstep-examples : SmoothstepExamples
unfolding smoothstep_of clamp_of sub mul div add lt round of_int of_bits
smoothstep-examples = (refl, refl, refl)
