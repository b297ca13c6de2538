-- The Rust's `smoothstep` and `db`.
use Rattle.std.specs.Prelude.{cond, from_bits, Float}
use Rattle.std.specs.Float.{binary64}
use Rattle.std.specs.Float.Ieee.{lt}
use Rattle.float.specs.Choice.{max_of, clamp_of}
use Rattle.logarithm.specs.Logarithm.{log10_of}
use Rattle.float.specs.Arithmetic.{◌⊖◌, ◌⊗◌, ◌⊘◌, zero64, one64, two64, three64, ten64}

abbrev pub smooth : Float → Float
smooth t = t ⊗ t ⊗ (three64 ⊖ two64 ⊗ t)

-- 0 up to lo, 1 from hi on, and smooth between
unfoldable pub smoothstep_of : Float → Float → Float → Float
smoothstep_of x lo hi = smooth (clamp_of ((x ⊖ lo) ⊘ (hi ⊖ lo)) zero64 one64)

-- -120 dB: a power below this counts as this
abbrev pub silence_db : Float
silence_db = from_bits binary64 0xc05e000000000000

unfoldable pub db_of : Float → Float
db_of power = cond (lt zero64 power) (max_of (ten64 ⊗ log10_of power) silence_db) silence_db
