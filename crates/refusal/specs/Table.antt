-- The specification's refusal table: the number of each refusal. 0 is none of them: the call passed.
use Rattle.std.specs.Prelude.{◌≡◌, Bool, cond, List, [], ◌∷◌, ℕ, Result, Ok, Err}
use Rattle.refusal.specs.declared.Refusal.{Refusal}
use Rattle.refusal.specs.declared.Refusal.TheVariants.{ShortFrame, BadSample, BadSetting, Runaway, CounterFull, WrongLength, BadCheck, ForeignImage, NoStrand, BadLayout}

abbrev pub number_of : Refusal → ℕ
number_of ShortFrame = 1
number_of BadSample = 2
number_of BadSetting = 3
number_of Runaway = 4
number_of CounterFull = 5
number_of WrongLength = 6
number_of BadCheck = 7
number_of ForeignImage = 8
number_of NoStrand = 9
number_of BadLayout = 10

-- the number of a call's outcome: 0 where it passed
abbrev pub code_of : {T : Type 0} → Result T Refusal → ℕ
code_of (Ok _) = 0
code_of (Err r) = number_of r

-- n is the number of a refusal
abbrev pub InTable : ℕ → Type 0
InTable n = (r : Refusal) × (n ≡ number_of r)

infix 70 ◌means◌
-- a row of the table as a call meets it: whether its condition holds, and the refusal
pub data Row : Type 0 where
  ◌means◌ : Bool → Refusal → Row

-- the number of the first row that holds, tested in order; 0 where none does
abbrev pub first_number : List Row → ℕ
first_number [] = 0
first_number (b means r ∷ rows) = cond b (number_of r) (first_number rows)
