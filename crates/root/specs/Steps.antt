-- What the steps on the way to a square root hand on. Definitions only.
use Rattle.std.specs.Prelude.{◌≡◌, ℕ, ◌+◌, ◌-◌, ◌*◌, ◌^◌, ◌≤◌, ◌<◌}

-- r is the greatest whole number whose square is at most n
pub record IsRoot (n r : ℕ) : Type 0 where
  pub low : r * r ≤ n
  pub high : n < (r + 1) * (r + 1)

-- two binary digits of a number are brought down, and its root gets one more
pub record Stepped (root rem two root' rem' : ℕ) : Type 0 where
  pub sum : root' * root' + rem' ≡ 4 * (root * root + rem) + two
  pub small : rem' ≤ 2 * root'

-- q is the whole number nearest to the root of a * 2 ^ 52, and no other is as near
pub record Near (a q : ℕ) : Type 0 where
  pub least : 2 ^ 52 ≤ q
  pub most : q ≤ 2 ^ 53
  pub low : (2 * q - 1) * (2 * q - 1) < a * 2 ^ 54
  pub high : a * 2 ^ 54 < (2 * q + 1) * (2 * q + 1)
