-- The examples of the specification for the hold, computed.
use Rattle.std.proofs.Common.{refl}
use lib.Ieee.{of_bits, div, round, to_unsigned}
use Rattle.float.specs.Whole.{round_of}
use Rattle.vad.specs.Hold.{hold_frames}
use Rattle.vad.specs.Examples.{HoldExamples}

pub hold-examples : HoldExamples
unfolding hold_frames round_of of_bits div round to_unsigned
hold-examples = (refl, refl)
