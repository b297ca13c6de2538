-- The examples of the specification for the hold.
use Rattle.std.specs.Prelude.{◌≡◌, from_bits}
use Rattle.std.specs.Float.{binary64}
use Rattle.vad.specs.Hold.{hold_frames}

-- 14.9 ms are 1 frame, and 15 ms are 2
abbrev pub HoldExamples : Type 0
HoldExamples = (hold_frames (from_bits binary64 0x402dcccccccccccd) ≡ 1) × (hold_frames (from_bits binary64 0x402e000000000000) ≡ 2)
