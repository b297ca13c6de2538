-- The Rust's `round`: to a whole number, half away from zero. Definitions only.
use Rattle.std.specs.Prelude.{◌≡◌, ℕ, ◌+◌, ◌-◌, ◌*◌, ◌/◌, ◌<◌, ◌≤◌, Bool, false, Float}
use Rattle.std.specs.Float.{nan, inf, fin, Format, binary64}
use Rattle.std.specs.Float.Ieee.{up, down, round}
use Rattle.std.specs.Float.Ieee.Exact.{HasValue}
use Rattle.std.specs.Float.Ieee.Scale.{finite}
use Rattle.float.specs.Arithmetic.{◌⊗◌, ◌⊘◌}

-- the whole number nearest to a / c, of two the upper
abbrev pub nearest_up : ℕ → ℕ → ℕ
nearest_up a c = (2 * a + c) / (2 * c)

-- The sign stays, that of a zero too. An infinity and a NaN stay as they are.
unfoldable pub round_of : Format → Float → Float
round_of f nan = nan
round_of f (inf s) = inf s
round_of f (fin s m e) = round f s (nearest_up (m * up e) (down e)) 1

-- to a multiple of 1 / n: n is 10 for tenths
abbrev pub round_to : Float → Float → Float
round_to x n = round_of binary64 (x ⊗ n) ⊘ n

-- ---- what that is, without the steps

-- how far two numbers are apart
abbrev pub apart : ℕ → ℕ → ℕ
apart a b = (a - b) + (b - a)

-- The whole number n is nearest to a / c: it is at most a half away and, where it is a half away, above, so that of two that are as near it is
-- the upper. Distances are multiplied by c.
pub record NearestWhole (a c n : ℕ) : Type 0 where
  pub half : 2 * apart a (n * c) ≤ c
  pub upper : 2 * apart a (n * c) ≡ c → a < n * c

-- y is x rounded: where x is a / c with the sign s, y is the whole number nearest to a / c with the same sign; so of two it is the one away from
-- zero. What isn't finite stays.
pub record Rounded (x y : Float) : Type 0 where
  pub number : (s : Bool) (a c : ℕ) → 0 < c → HasValue x s a c → (n : ℕ) × NearestWhole a c n × HasValue y s n 1
  pub other : finite x ≡ false → y ≡ x
