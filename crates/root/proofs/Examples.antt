-- Roots worked out by the definition.
use mathlib.Core.Path.{◌≡◌, refl}
use mathlib.Core.Bool.{true, false}
use lib.Ieee.{nan, inf, binary64, of_bits}
use Rattle.root.specs.Root.{sqrt_of}

-- one and four; two, rounded up, and three, rounded down; the least f64 and the greatest; both zeros, minus one, and the infinities
pub examples :
    (sqrt_of (of_bits binary64 0x3ff0000000000000) ≡ of_bits binary64 0x3ff0000000000000)
    × (sqrt_of (of_bits binary64 0x4010000000000000) ≡ of_bits binary64 0x4000000000000000)
    × (sqrt_of (of_bits binary64 0x4000000000000000) ≡ of_bits binary64 0x3ff6a09e667f3bcd)
    × (sqrt_of (of_bits binary64 0x4008000000000000) ≡ of_bits binary64 0x3ffbb67ae8584caa)
    × (sqrt_of (of_bits binary64 1) ≡ of_bits binary64 0x1e60000000000000)
    × (sqrt_of (of_bits binary64 0x7fefffffffffffff) ≡ of_bits binary64 0x5fefffffffffffff)
    × (sqrt_of (of_bits binary64 0) ≡ of_bits binary64 0)
    × (sqrt_of (of_bits binary64 0x8000000000000000) ≡ of_bits binary64 0x8000000000000000)
    × (sqrt_of (of_bits binary64 0xbff0000000000000) ≡ nan)
    × (sqrt_of (inf true) ≡ nan)
    × (sqrt_of (inf false) ≡ inf false)
unfolding sqrt_of of_bits
examples = (refl, refl, refl, refl, refl, refl, refl, refl, refl, refl, refl)
