-- What is left of a file that is read as it is gone over: the bytes that are held, then those that its reader has left, which `remaining` gives where
-- they are known. Definitions only.
use Rattle.std.specs.Prelude.{◌≡◌, ◌<◌, ◌≤◌, ℕ, List, Option, Result, MatchResult, OnOk, length, take, drop, slice_range}
use Rattle.std.specs.Io.KnownBytes.{IsAtEnd}
use Rattle.recorded.specs.Reads.{ReadOn}
use Rattle.recorded.specs.declared.file.Words.{Words}

abbrev pub held_bytes : {R : Type 0} → Words R → List ℕ
held_bytes w = slice_range w.buffer w.at w.end

-- reading on changes nothing of what is left
abbrev pub ReadsOn : {R : Type 0} → (R → Option (List ℕ)) → Words R → Words R → Type 0
ReadsOn remaining old new = ReadOn (remaining old.from) (remaining new.from) (held_bytes old) (held_bytes new)

-- the reader has nothing left, unless a read failed
abbrev pub IsAllRead : {R : Type 0} → (R → Option (List ℕ)) → Words R → Type 0
IsAllRead remaining w = OnOk w.whole (IsAtEnd (remaining w.from))

-- a call takes the first n bytes of what is left, and P says what it answers at them; where there are fewer, it is an error, and they stay. `all` are
-- those that are held once it has read on
abbrev pub Takes : {R T E : Type 0} → (R → Option (List ℕ)) → ℕ → Words R → Words R → Result T E → (T → List ℕ → Type 0) → Type 0
Takes remaining n old new result P =
    (all : List ℕ)
    × ReadOn (remaining old.from) (remaining new.from) (held_bytes old) all
    × MatchResult result
    (λ x. (n ≤ length all) × P x (take n all) × (held_bytes new ≡ drop n all))
    (λ _. (length all < n) × (held_bytes new ≡ all) × IsAllRead remaining new)
