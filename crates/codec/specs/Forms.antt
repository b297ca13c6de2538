-- The codecs of a field, of two in a row, of a counted list, of a value or none and of rows. Definitions only.
use Rattle.std.specs.Prelude.{Bool, false, List, [], ◌∷◌, ◌++◌, map, ℕ, suc, ◌+◌, ◌*◌, ◌^◌, ◌<◌, T, eqb, length, get_or, Float, Option}
use Rattle.std.specs.Float.{Format, binary32, binary64}
use Rattle.std.specs.Float.Ieee.{to_bits}
use Rattle.float.specs.Valid.{Num}
use Rattle.sequence.specs.Counted.{Counted}
use Rattle.blocks.specs.Lists.{table}
use Rattle.codec.specs.Fields.{zero_of, num_of, capped, flag_bits, ruled}
use Rattle.codec.specs.Codec.{Cell, Codec, value_at, maybe_enc, MaybeOk, maybe_of, rows_enc, row_at}

-- ---- one word

-- a finite float, by its bits
abbrev pub float : Format → Cell Float
float f = record { bits = to_bits f; read = num_of f; Good = Num f; blank = zero_of f }

abbrev pub f64 : Cell Float
f64 = float binary64

abbrev pub f32 : Cell Float
f32 = float binary32

-- any word
abbrev pub word : Cell ℕ
word = record { bits = λ x. x; read = λ w. w; Good = λ x. x < 2 ^ 64; blank = 0 }

-- a number below n
abbrev pub below : ℕ → Cell ℕ
below n = record { bits = λ x. x; read = capped n; Good = λ x. x < n; blank = 0 }

-- a flag
abbrev pub flag : Cell Bool
flag = record { bits = flag_bits; read = λ w. eqb w 1; Good = λ b. Unit {0}; blank = false }

-- ---- words in a row

abbrev pub one : {A : Type 0} → Cell A → Codec A
one {A} c = record { size = 1; enc = λ a. c.bits a ∷ []; dec = λ l i. c.read (get_or l i 0); Ok = c.Good }

-- words that are always the same
abbrev pub fixed : List ℕ → Codec (Unit {0})
fixed ws = record { size = length ws; enc = λ u. ws; dec = λ l i. tt; Ok = λ u. Unit {0} }

-- one value after another
abbrev pub pair : {A B : Type 0} → Codec A → Codec B → Codec (A × B)
pair {A} {B} c d = record {
  size = c.size + d.size;
  enc = λ p. c.enc p.0 ++ d.enc p.1;
  dec = λ l i. (c.dec l i, d.dec l (i + c.size));
  Ok = λ p. c.Ok p.0 × d.Ok p.1;
}

-- one value after another, whose codec depends on the first; it takes n words in any case
abbrev pub pair_by : {A B : Type 0} → Codec A → ℕ → (A → Codec B) → Codec (A × B)
pair_by {A} {B} c n d = record {
  size = c.size + n;
  enc = λ p. c.enc p.0 ++ (d p.0).enc p.1;
  dec = λ l i. (c.dec l i, (d (c.dec l i)).dec l (i + c.size));
  Ok = λ p. c.Ok p.0 × (d p.0).Ok p.1;
}

-- B is A in another form
abbrev pub as_a : {A B : Type 0} → (B → A) → (A → B) → Codec A → Codec B
as_a {A} {B} f g c = record { size = c.size; enc = λ b. c.enc (f b); dec = λ l i. g (c.dec l i); Ok = λ b. c.Ok (f b) }

-- a further rule p: what breaks it is read as d
abbrev pub also : {A : Type 0} → (A → Bool) → A → Codec A → Codec A
also {A} p d c = record { size = c.size; enc = c.enc; dec = λ l i. ruled p d (c.dec l i); Ok = λ a. c.Ok a × T (p a) }

-- ---- a count, and that many values in n places

abbrev pub counted : {A : Type 0} → Cell A → ℕ → Codec (ℕ × List A)
counted {A} c n = record {
  size = suc n;
  enc = λ p. p.0 ∷ map c.bits p.1;
  dec = λ l i. (capped (suc n) (get_or l i 0), table (value_at c l (i + 1) (capped (suc n) (get_or l i 0))) n);
  Ok = λ p. Counted c.Good c.blank n p.0 p.1;
}

-- ---- a value or none: a flag and a value, 0 where there is none

abbrev pub maybe : {A : Type 0} → Cell A → Codec (Option A)
maybe {A} c = record { size = 2; enc = maybe_enc c; dec = λ l i. maybe_of c (get_or l i 0) (get_or l (i + 1) 0); Ok = MaybeOk c }

-- ---- n places, of which the first m hold values; the rest are blank

abbrev pub rows : {A : Type 0} → Codec A → A → ℕ → ℕ → Codec (List A)
rows {A} c blank n m = record {
  size = c.size * n;
  enc = rows_enc c.enc;
  dec = λ l i. table (row_at c blank l i m) n;
  Ok = Counted c.Ok blank n m;
}
