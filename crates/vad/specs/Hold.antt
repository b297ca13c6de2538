-- The frames of a hold: the Rust's `(settings.hold_ms / 10.0).round() as u32`, which stops at the ends of u32.
use Rattle.std.specs.Prelude.{ℕ, from_bits, Float}
use Rattle.std.specs.Float.{binary64}
use Rattle.std.specs.Float.Ieee.{to_unsigned}
use Rattle.float.specs.Whole.{round_of}
use Rattle.float.specs.Arithmetic.{◌⊘◌}

unfoldable pub hold_frames : Float → ℕ
hold_frames ms = to_unsigned 32 (round_of binary64 (ms ⊘ from_bits binary64 0x4024000000000000))
