-- A run of words in a list: where it stands and how long it is. Definitions only.
use Rattle.std.specs.Prelude.{◌≡◌, List, ℕ, length}
use Rattle.blocks.specs.Lists.{Laid}

-- l' is l with the n words xs laid over it from place i on
pub record Run (l : List ℕ) (i n : ℕ) (xs l' : List ℕ) : Type 0 where
  pub over : Laid l i xs l'
  pub size : length xs ≡ n
