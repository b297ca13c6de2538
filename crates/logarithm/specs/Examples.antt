-- The examples of the specification for the logarithm. Definitions only.
use Rattle.std.specs.Prelude.{◌≡◌, pos, negsuc}
use Rattle.std.specs.Float.{binary64}
use Rattle.std.specs.Float.Ieee.{of_int, of_bits}
use Rattle.logarithm.specs.Logarithm.{steps, log_of, log2_of}

-- log2 of 1, 2 and 0.5 is 0, 1 and -1; of 3, N is 26,591,258
abbrev pub LogExamples : Type 0
LogExamples =
    (log2_of (of_int binary64 (pos 1)) ≡ of_int binary64 (pos 0))
    × (log2_of (of_int binary64 (pos 2)) ≡ of_int binary64 (pos 1))
    × (log2_of (of_bits binary64 0x3fe0000000000000) ≡ of_int binary64 (negsuc 0))
    × (log_of steps (of_int binary64 (pos 3)) ≡ pos 26591258)
