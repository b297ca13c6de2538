-- Silence or a level as an answer gives it: a flag, and a value that is 0 for silence. Definitions only.
use Rattle.std.specs.Prelude.{ℕ, Float}
use Rattle.float.specs.Arithmetic.{zero64}
use Rattle.comis.specs.declared.Shown.{Shown}
use Rattle.comis.specs.declared.Shown.TheVariants.{Silence, Level}

abbrev pub shown_flag : Shown → ℕ
shown_flag Silence = 0
shown_flag (Level x) = 1

abbrev pub shown_value : Shown → Float
shown_value Silence = zero64
shown_value (Level x) = x
