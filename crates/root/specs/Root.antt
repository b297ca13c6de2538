-- The square root of an f64: nearest, ties to even. Definitions only.
use Rattle.std.specs.Prelude.{ℕ, zero, suc, ◌+◌, ◌*◌, ◌/◌, ◌^◌, Bool, true, false, cond, leb, pos, Float}
use Rattle.std.specs.Float.{nan, inf, fin, binary64}
use Rattle.std.specs.Float.Ieee.{size, round}
use Rattle.float.specs.Units.{units_of}

-- r + 1 where its square is at most n, else r
abbrev pub last_digit : ℕ → ℕ → ℕ
last_digit n r = cond (leb ((r + 1) * (r + 1)) n) (r + 1) r

-- The greatest r with r * r ≤ n, for an n below 4 ^ k. The root of n / 4 has all of its binary digits but the last.
unfoldable pub root_below : ℕ → ℕ → ℕ
root_below zero n = 0
root_below (suc k) n = last_digit n (2 * root_below k (n / 4))

-- the greatest r with r * r ≤ n
unfoldable pub floor_root : ℕ → ℕ
unfolding root_below size
floor_root n = root_below (size n) n

-- The root of n units of 2 ^ -1074 is the root of n * 2 ^ 1074, in units. Its whole part has 537 digits or more, of which an f64 keeps 53.
-- Rounded to the nearest, ties to even, the whole part gives what the root itself gives: `sqrt-nearest` of proofs/Nearest.antt.
unfoldable pub root_of_units : ℕ → Float
unfolding floor_root round
root_of_units n = round binary64 false (floor_root (n * 2 ^ 1074)) (2 ^ 1074)

-- By the sign and the units of a finite value: a zero keeps its sign, and of anything else below zero there is no root.
unfoldable pub root_of : Bool → ℕ → Float
unfolding root_of_units
root_of s zero = fin s 0 (pos 0)
root_of true (suc n) = nan
root_of false (suc n) = root_of_units (suc n)

unfoldable pub sqrt_of : Float → Float
unfolding root_of units_of
sqrt_of nan = nan
sqrt_of (inf true) = nan
sqrt_of (inf false) = inf false
sqrt_of (fin s m e) = root_of s (units_of (fin s m e))
