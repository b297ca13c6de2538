-- The examples of the specification for the power. Definitions only.
use Rattle.std.specs.Prelude.{◌≡◌, false, pos, negsuc}
use Rattle.std.specs.Float.{fin, binary64}
use Rattle.std.specs.Float.Ieee.{of_int, of_bits}
use Rattle.power.specs.Power.{exp2_of}

-- 2 ^ 0 = 1, 2 ^ -1 = 0.5, 2 ^ 0.5 = 1,518,500,249 / 2 ^ 30
abbrev pub PowerExamples : Type 0
PowerExamples =
    (exp2_of (of_int binary64 (pos 0)) ≡ of_int binary64 (pos 1))
    × (exp2_of (of_int binary64 (negsuc 0)) ≡ of_bits binary64 0x3fe0000000000000)
    × (exp2_of (of_bits binary64 0x3fe0000000000000) ≡ fin false 1518500249 (negsuc 29))
