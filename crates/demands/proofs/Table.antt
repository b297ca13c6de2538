-- The refusal table: the numbers are those from 1 to 10, and two refusals with one number are the same.
use mathlib.Core.Path.{◌≡◌, refl, sym, ap, ◌∙◌}
use mathlib.Core.Bool.{Bool, true, false}
use mathlib.Core.List.{List, [], ◌∷◌}
use Prim.Native.Nat.{ℕ, zero, suc, ◌+◌, ◌≤◌, ◌<◌}
use native.Mathlib.Omega.{arith}
use lib.ListN.{length}
use Rattle.refusal.specs.declared.Refusal.{Refusal}
use Rattle.refusal.specs.declared.Refusal.TheVariants.{ShortFrame, BadSample, BadSetting, Runaway, CounterFull, WrongLength, BadCheck, ForeignImage, NoStrand, BadLayout}
use Rattle.refusal.specs.Table.{number_of, InTable, Row, ◌means◌, first_number}

-- each number is from 1 to 10
pub number-range : (r : Refusal) → (1 ≤ number_of r) × (number_of r ≤ 10)
number-range ShortFrame = (omega arith, omega arith)
number-range BadSample = (omega arith, omega arith)
number-range BadSetting = (omega arith, omega arith)
number-range Runaway = (omega arith, omega arith)
number-range CounterFull = (omega arith, omega arith)
number-range WrongLength = (omega arith, omega arith)
number-range BadCheck = (omega arith, omega arith)
number-range ForeignImage = (omega arith, omega arith)
number-range NoStrand = (omega arith, omega arith)
number-range BadLayout = (omega arith, omega arith)

-- the refusals in the table's order, and the one at a place, counted from 0
abbrev table : List Refusal
table = ShortFrame ∷ BadSample ∷ BadSetting ∷ Runaway ∷ CounterFull ∷ WrongLength ∷ BadCheck ∷ ForeignImage ∷ NoStrand ∷ BadLayout ∷ []

abbrev at : List Refusal → ℕ → Refusal
at [] n = BadLayout
at (r ∷ rs) zero = r
at (r ∷ rs) (suc n) = at rs n

abbrev refusal_at : ℕ → Refusal
refusal_at zero = BadLayout
refusal_at (suc n) = at table n

read_back : (r : Refusal) → refusal_at (number_of r) ≡ r
read_back ShortFrame = refl
read_back BadSample = refl
read_back BadSetting = refl
read_back Runaway = refl
read_back CounterFull = refl
read_back WrongLength = refl
read_back BadCheck = refl
read_back ForeignImage = refl
read_back NoStrand = refl
read_back BadLayout = refl

-- two refusals with one number are the same
pub number_inj : (r t : Refusal) → number_of r ≡ number_of t → r ≡ t
number_inj r t e = sym (read_back r) ∙ ap refusal_at e ∙ read_back t

-- the refusals of a list have the numbers from k on
abbrev Numbered : ℕ → List Refusal → Type 0
Numbered k [] = Unit {0}
Numbered k (r ∷ rs) = (k ≡ number_of r) × Numbered (suc k) rs

numbered-at : (rs : List Refusal) (k n : ℕ) → Numbered k rs → n < length rs → InTable (k + n)
numbered-at [] k n h l = absurd (omega arith)
numbered-at (r ∷ rs) k zero h l = (r, omega (arith, h.0))
numbered-at (r ∷ rs) k (suc n) h l = let w = numbered-at rs (suc k) n h.1 (omega arith) in (w.0, omega (arith, w.1))

-- every number from 1 to 10 is in the table
pub in_table : (n : ℕ) → (n ≡ 0 → ⊥) → n ≤ 10 → InTable n
in_table zero h l = absurd (h refl)
in_table (suc n) h l =
    let w = numbered-at table 1 n (refl, (refl, (refl, (refl, (refl, (refl, (refl, (refl, (refl, (refl, tt)))))))))) (omega arith) in
    (w.0, omega (arith, w.1))

-- ---- rows in order

pub first-in_table : (rows : List Row) → (first_number rows ≡ 0 → ⊥) → InTable (first_number rows)
first-in_table [] n = absurd (n refl)
first-in_table (true means r ∷ rows) n = (r, refl)
first-in_table (false means r ∷ rows) n = first-in_table rows n

-- where the first number is 0, no row holds
pub first_passes : (b : Bool) (r : Refusal) (rows : List Row) → first_number (b means r ∷ rows) ≡ 0 → (b ≡ false) × (first_number rows ≡ 0)
first_passes true r rows z = absurd (omega (arith, (number-range r).0))
first_passes false r rows z = (refl, z)
