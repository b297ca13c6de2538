-- What a stored float is, and what a sum of squares is on its way. Definitions only.
use Rattle.std.specs.Prelude.{Bool, true, not, T, Float}
use Rattle.std.specs.Float.{nan, inf, fin, Format}
use Rattle.std.specs.Float.Ieee.{fits}
use Rattle.std.specs.Float.Ieee.Scale.{finite}

-- a finite number that the format holds
abbrev pub Num : Format → Float → Type 0
Num f x = T (finite x) × T (fits f x)

-- no minus sign
abbrev pub plus : Float → Bool
plus nan = true
plus (inf s) = not s
plus (fin s m e) = not s

-- no minus sign, and held by the format: a sum of squares on its way
abbrev pub NoMinus : Format → Float → Type 0
NoMinus f x = T (plus x) × T (fits f x)
