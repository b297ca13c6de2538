-- The latest n values as a count and n places: fresh, and with values more.
use Rattle.std.specs.Prelude.{ℕ, List, [], ◌∷◌, length, replicate}
use Rattle.sequence.specs.History.{count_after, places_after}
use Rattle.sequence.specs.declared.Latest.{Latest}

unfoldable pub blanks : {A : Type 0} → ℕ → A → List A
blanks n blank = replicate n blank

abbrev pub no_values : {A : Type 0} → (n : ℕ) → A → Latest A n
no_values n blank = record { count = 0; list = blanks n blank }

-- the values xs more; where there is no room, the oldest go
unfoldable pub keep_of : {A : Type 0} → {n : ℕ} → Latest A n → List A → Latest A n
keep_of {A} {n} l xs = record { count = count_after n l.count (length xs); list = places_after l.count l.list xs }

-- one value more; where n are held, the oldest goes
unfoldable pub push_of : {A : Type 0} → {n : ℕ} → Latest A n → A → Latest A n
push_of {A} {n} l x = record { count = count_after n l.count 1; list = places_after l.count l.list (x ∷ []) }
