-- A count and its n places as an image may hold them: good values in the first of them, and the rest blank.
use Rattle.std.specs.Prelude.{ℕ, ◌≤◌, ◌<◌, ◌≡◌, List, length, get_or}

pub record Counted {A : Type 0} (Good : A → Type 0) (blank : A) (n count : ℕ) (places : List A) : Type 0 where
  pub within : count ≤ n
  pub size : length places ≡ n
  pub good : (k : ℕ) → k < count → Good (get_or places k blank)
  pub rest : (k : ℕ) → count ≤ k → get_or places k blank ≡ blank
