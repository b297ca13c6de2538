-- Histories: the latest values of a list, as the Rust's deque holds them, and as a count and a fixed array. Lists run oldest first.
use Rattle.std.specs.Prelude.{ℕ, ◌+◌, ◌-◌, min, cond, List, [], ◌∷◌, ◌++◌, reverse, eqb, length, take, drop, replicate}

-- the last n of a list
unfoldable pub latest : {A : Type 0} → ℕ → List A → List A
latest n xs = drop (length xs - n) xs

-- one value more in the Rust's deque of at most n: where it holds n, `pop_front`; then `push_back`
unfoldable pub pushed : {A : Type 0} → ℕ → List A → A → List A
pushed n xs x = cond (eqb (length xs) n) (drop 1 xs) xs ++ x ∷ []

-- the Rust's `iter().rev().take(n)`
unfoldable pub newest : {A : Type 0} → ℕ → List A → List A
newest n xs = take n (reverse xs)

-- what a count and its places hold; a count above the number of places counts as that number
abbrev pub held : {A : Type 0} → ℕ → List A → List A
held count places = take count places

-- the places with the list l in the first of them
abbrev pub laid : {A : Type 0} → List A → List A → List A
laid l places = l ++ drop (length l) places

-- n places with the list xs in the first of them, and the rest blank
unfoldable pub filled : {A : Type 0} → A → ℕ → List A → List A
filled blank n xs = laid xs (replicate n blank)

-- the count and the places after the values xs more: the latest that there is room for, and the rest of the places as it was
unfoldable pub count_after : ℕ → ℕ → ℕ → ℕ
count_after n count k = min n (count + k)

unfoldable pub places_after : {A : Type 0} → ℕ → List A → List A → List A
places_after count places xs = laid (latest (length places) (held count places ++ xs)) places

-- every value one place down, and x in the last
abbrev pub slid : {A : Type 0} → List A → A → List A
slid xs x = drop 1 (xs ++ x ∷ [])
