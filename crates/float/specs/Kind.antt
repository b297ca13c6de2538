-- What an f64 is: no number, an infinity, or a sign and a whole number of units. Definitions only.
use Rattle.std.specs.Prelude.{ℕ, ◌+◌, ◌-◌, ◌/◌, ◌%◌, ◌^◌, ◌<◌, Bool, cond, ◌==◌, Float}
use Rattle.std.specs.Float.{nan, inf, fin}
use Rattle.std.specs.Float.Ieee.{size}
use Rattle.float.specs.Units.{units_of}
use Rattle.float.specs.declared.Parts.{Parts}
use Rattle.float.specs.declared.Kind.{Kind}
use Rattle.float.specs.declared.Kind.TheVariants.{NotANumber, Infinite, Finite}

-- sig * 2 ^ exp units
abbrev pub parts : Bool → ℕ → ℕ → Parts
parts s q k = record { negative = s; sig = q; exp = k }

-- what holds of the parts of a finite f64
abbrev pub InRange : Parts → Type 0
InRange p = (p.sig < 2 ^ 53) × (p.exp < 2046)

-- n units: its 53 leading binary digits, and how many follow them
unfoldable pub parts_of : Bool → ℕ → Parts
parts_of s n = parts s (n / 2 ^ (size n - 53)) (size n - 53)

unfoldable pub kind_of : Float → Kind
kind_of nan = NotANumber
kind_of (inf s) = Infinite s
kind_of (fin s m e) = Finite (parts_of s (units_of (fin s m e)))

-- the same, read off the bits a below the sign: a field of 0 has no leading digit, and counts as a field of 1
unfoldable pub field_parts : Bool → ℕ → Parts
field_parts s a = cond (a / 2 ^ 52 == 0) (parts s (a % 2 ^ 52) 0) (parts s (2 ^ 52 + a % 2 ^ 52) (a / 2 ^ 52 - 1))
