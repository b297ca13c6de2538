-- What a codec is: how a value is written as words and read back, which values it holds, and the laws of the two. Definitions only.
-- `dec` is total: words that break a rule are read as some good value, whose words differ from those read.
-- So words are accepted exactly where writing what was read gives them again.
use Rattle.std.specs.Prelude.{◌≡◌, cond, List, [], ◌∷◌, ◌++◌, ℕ, ◌+◌, ◌*◌, ◌^◌, ◌<◌, ltb, eqb, length, get_or, Option, Some, None}
use Rattle.blocks.specs.Lists.{Words}

-- the words xs stand in l from place i on
pub record Here (l : List ℕ) (i : ℕ) (xs : List ℕ) : Type 0 where
  pub at : (k : ℕ) → k < length xs → get_or l (i + k) 0 ≡ get_or xs k 0

-- a value of one word; `blank` is what stands in an unused place
pub record Cell (A : Type 0) : Type 1 where
  pub bits : A → ℕ
  pub read : ℕ → A
  pub Good : A → Type 0
  pub blank : A

pub record CellLaws {A : Type 0} (c : Cell A) : Type 0 where
  pub read_bits : (a : A) → c.Good a → c.read (c.bits a) ≡ a
  pub read_good : (w : ℕ) → c.Good (c.read w)
  pub blank_good : c.Good c.blank
  pub bits_small : (a : A) → c.Good a → c.bits a < 2 ^ 64

-- a value of `size` words
pub record Codec (A : Type 0) : Type 1 where
  pub size : ℕ
  pub enc : A → List ℕ
  pub dec : List ℕ → ℕ → A
  pub Ok : A → Type 0

-- a good value takes `size` words, each of 64 bits, and is read back from wherever they stand; whatever the words, a good value is read
pub record CodecLaws {A : Type 0} (c : Codec A) : Type 0 where
  pub size_is : (a : A) → c.Ok a → length (c.enc a) ≡ c.size
  pub back : (a : A) (l : List ℕ) (i : ℕ) → c.Ok a → Here l i (c.enc a) → c.dec l i ≡ a
  pub sound : (l : List ℕ) (i : ℕ) → c.Ok (c.dec l i)
  pub small : (a : A) → c.Ok a → Words (c.enc a)

-- value k of m, read from the words from place i on
unfoldable pub value_at : {A : Type 0} → Cell A → List ℕ → ℕ → ℕ → ℕ → A
value_at c l i m k = cond (ltb k m) (c.read (get_or l (i + k) 0)) c.blank

-- a value or none, as a flag and a value; the value is 0 where there is none
abbrev pub maybe_enc : {A : Type 0} → Cell A → Option A → List ℕ
maybe_enc c None = 0 ∷ 0 ∷ []
maybe_enc c (Some x) = 1 ∷ c.bits x ∷ []

abbrev pub MaybeOk : {A : Type 0} → Cell A → Option A → Type 0
MaybeOk c None = Unit {0}
MaybeOk c (Some x) = c.Good x

unfoldable pub maybe_of : {A : Type 0} → Cell A → ℕ → ℕ → Option A
maybe_of c u v = cond (eqb u 1) (Some (c.read v)) None

-- the words of some values, one value after another
unfoldable pub rows_enc : {A : Type 0} → (A → List ℕ) → List A → List ℕ
rows_enc f [] = []
rows_enc f (x ∷ xs) = f x ++ rows_enc f xs

-- value k of m, each of c's size, read from the words from place i on
unfoldable pub row_at : {A : Type 0} → Codec A → A → List ℕ → ℕ → ℕ → ℕ → A
row_at c blank l i m k = cond (ltb k m) (c.dec l (i + c.size * k)) blank
