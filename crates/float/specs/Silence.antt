-- The loudness of silence, LUFS: no reading is below it.
use Rattle.std.specs.Prelude.{from_bits, Float}
use Rattle.std.specs.Float.{binary64}

-- -100
abbrev pub silence_lufs : Float
silence_lufs = from_bits binary64 0xc059000000000000
