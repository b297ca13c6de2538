-- The examples of the specification for the smooth step.
use Rattle.std.specs.Prelude.{◌≡◌, pos, from_bits}
use Rattle.std.specs.Float.{binary64}
use Rattle.std.specs.Float.Ieee.{of_int}
use Rattle.detector.specs.Steps.{smoothstep_of}

-- from 4 to 14: at 9 it is 0.5, at 4 it is 0, at 14 it is 1
abbrev pub SmoothstepExamples : Type 0
SmoothstepExamples =
    (smoothstep_of (of_int binary64 (pos 9)) (of_int binary64 (pos 4)) (of_int binary64 (pos 14)) ≡ from_bits binary64 0x3fe0000000000000)
    × (smoothstep_of (of_int binary64 (pos 4)) (of_int binary64 (pos 4)) (of_int binary64 (pos 14)) ≡ of_int binary64 (pos 0))
    × (smoothstep_of (of_int binary64 (pos 14)) (of_int binary64 (pos 4)) (of_int binary64 (pos 14)) ≡ of_int binary64 (pos 1))
