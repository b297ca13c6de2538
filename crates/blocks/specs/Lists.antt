-- Lists of numbers: one laid over another, one made from a function, bounds of their numbers. Definitions only.
use Rattle.std.specs.Prelude.{◌≡◌, ℕ, zero, suc, ◌^◌, ◌<◌, List, [], ◌∷◌, slice_index}
use Rattle.std.proofs.lemmas.List.Edits.{sets}

-- l with xs laid over it from place i on. What has no place in l is dropped.
unfoldable pub laid : List ℕ → ℕ → List ℕ → List ℕ
laid l i xs = sets l i xs

-- l' is l with xs laid over it from place i on
pub record Laid (l : List ℕ) (i : ℕ) (xs : List ℕ) (l' : List ℕ) : Type 0 where
  pub is : l' ≡ laid l i xs

-- f 0, f 1, .., n of them
unfoldable pub table : {A : Type 0} → (ℕ → A) → ℕ → List A
table f zero = []
table f (suc n) = f 0 ∷ table (λ k. f (suc k)) n

-- each number of a list is below m
abbrev pub Below : ℕ → List ℕ → Type 0
Below m l = (k : ℕ) → slice_index l k < m

-- some words, and some bytes
abbrev pub Words : List ℕ → Type 0
Words l = Below (2 ^ 64) l

abbrev pub Bytes : List ℕ → Type 0
Bytes l = Below 256 l
