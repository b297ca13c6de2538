-- An f64 to the nearest f32, ties to even. Definitions only.
use Rattle.std.specs.Prelude.{ℕ, ◌+◌, ◌-◌, ◌*◌, ◌^◌, min, Float}
use Rattle.std.specs.Float.{nan, inf, fin, binary32}
use Rattle.std.specs.Float.Ieee.{up, down, round}
use Rattle.std.specs.Float.Ieee.Nearest.{closest}

-- Rounded once to binary32: near zero to a multiple of 2 ^ -149, past the largest f32 to an infinity. The sign stays, that of a zero too.
unfoldable pub narrow_of : Float → Float
narrow_of nan = nan
narrow_of (inf s) = inf s
narrow_of (fin s m e) = round binary32 s (m * up e) (down e)

-- The f32's bits below the sign, for sig * 2 ^ exp units of 2 ^ -1074. Of 53 digits 29 are dropped; below exp 896, where the f32 has
-- no leading digit, one more for each step. The exponent's field is one above exp - 896, by the leading digit. 255 * 2 ^ 23 is an infinity.
unfoldable pub narrow_bits : ℕ → ℕ → ℕ
narrow_bits sig exp = min ((exp - 896) * 2 ^ 23 + closest sig (2 ^ (29 + (896 - exp)))) (255 * 2 ^ 23)
