-- The specification's rules for the 628 words of a strand, word by word and in its order: what the words l from place i on have to be. Definitions only.
use Rattle.std.specs.Prelude.{◌≡◌, List, ℕ, ◌+◌, ◌^◌, ◌≤◌, ◌<◌, T, get_or}
use Rattle.std.specs.Float.{binary32, binary64}
use Rattle.std.specs.Float.Ieee.{of_bits}
use Rattle.std.specs.Float.Ieee.Scale.{finite}

-- the bits of a finite f64
abbrev pub Finite64 : ℕ → Type 0
Finite64 w = T (finite (of_bits binary64 w))

-- the bits of a finite f32 in the low half; the high half is zero
abbrev pub Finite32 : ℕ → Type 0
Finite32 w = (w < 2 ^ 32) × T (finite (of_bits binary32 w))

-- 0 or 1
abbrev pub Flag : ℕ → Type 0
Flag w = w < 2

-- a filter: the two numbers of its state, and two words unused
pub record FilterWords (l : List ℕ) (i : ℕ) : Type 0 where
  pub z1 : Finite64 (get_or l i 0)
  pub z2 : Finite64 (get_or l (i + 1) 0)
  pub unused : get_or l (i + 2) 0 ≡ 0
  pub unused' : get_or l (i + 3) 0 ≡ 0

-- a count of 0 to n, and n places: values as Good says in the first of them, and unused ones
pub record ListWords (Good : ℕ → Type 0) (n : ℕ) (l : List ℕ) (i : ℕ) : Type 0 where
  pub count : get_or l i 0 ≤ n
  pub values : (k : ℕ) → k < get_or l i 0 → Good (get_or l (i + 1 + k) 0)
  pub unused : (k : ℕ) → get_or l i 0 ≤ k → k < n → get_or l (i + 1 + k) 0 ≡ 0

-- a flag and a value; the value behind a 0 flag is zero
pub record OptionalWords (l : List ℕ) (i : ℕ) : Type 0 where
  pub flag : Flag (get_or l i 0)
  pub value : get_or l i 0 ≡ 1 → Finite64 (get_or l (i + 1) 0)
  pub none : get_or l i 0 ≡ 0 → get_or l (i + 1) 0 ≡ 0

pub record StrandWords (l : List ℕ) (i : ℕ) : Type 0 where
  pub shelf : FilterWords l i
  pub high_pass : FilterWords l (i + 4)
  pub band : FilterWords l (i + 8)
  pub band' : FilterWords l (i + 12)
  pub pitch : FilterWords l (i + 16)
  pub pitch' : FilterWords l (i + 20)
  pub fast : Finite64 (get_or l (i + 24) 0)
  pub powers : ListWords Finite64 300 l (i + 25)
  pub decimated : ListWords Finite32 240 l (i + 326)
  pub smoothed : OptionalWords l (i + 567)
  pub window_minimum : Finite64 (get_or l (i + 569) 0)
  pub window_frames : get_or l (i + 570) 0 ≤ 24
  pub window_empty : get_or l (i + 570) 0 ≡ 0 → get_or l (i + 569) 0 ≡ 0
  pub minima : ListWords Finite64 8 l (i + 571)
  pub history : ListWords Finite64 40 l (i + 580)
  pub active : Flag (get_or l (i + 621) 0)
  pub probability : Finite64 (get_or l (i + 622) 0)
  pub onsets : get_or l (i + 623) 0 ≤ 4294967295
  pub offsets : get_or l (i + 623) 0 ≡ get_or l (i + 624) 0 + get_or l (i + 621) 0  -- onsets minus offsets equals active
  pub hold : get_or l (i + 625) 0 ≤ 6000
  pub speech_power : OptionalWords l (i + 626)
