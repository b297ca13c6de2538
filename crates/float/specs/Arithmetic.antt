-- The rounded operations on f64 and the whole numbers that definitions compute with.
use Rattle.std.specs.Prelude.{ℕ, pos, from_bits, Float}
use Rattle.std.specs.Float.{binary64}
use Rattle.std.specs.Float.Ieee.{add, sub, mul, div, of_int}

-- each is rounded to the nearest f64, of two the even
infixl 6 ◌⊕◌ ◌⊖◌
infixl 7 ◌⊗◌ ◌⊘◌
abbrev pub ◌⊕◌ : Float → Float → Float
x ⊕ y = add binary64 x y

abbrev pub ◌⊖◌ : Float → Float → Float
x ⊖ y = sub binary64 x y

abbrev pub ◌⊗◌ : Float → Float → Float
x ⊗ y = mul binary64 x y

abbrev pub ◌⊘◌ : Float → Float → Float
x ⊘ y = div binary64 x y

-- a share of the way from old to x
abbrev pub toward : Float → Float → Float → Float
toward old x share = old ⊕ share ⊗ (x ⊖ old)

-- a whole number, to the nearest f64
abbrev pub whole : ℕ → Float
whole n = of_int binary64 (pos n)

abbrev pub zero64 : Float
zero64 = from_bits binary64 0

abbrev pub one64 : Float
one64 = from_bits binary64 0x3ff0000000000000

abbrev pub two64 : Float
two64 = from_bits binary64 0x4000000000000000

abbrev pub three64 : Float
three64 = from_bits binary64 0x4008000000000000

abbrev pub ten64 : Float
ten64 = from_bits binary64 0x4024000000000000

abbrev pub hundred64 : Float
hundred64 = from_bits binary64 0x4059000000000000
