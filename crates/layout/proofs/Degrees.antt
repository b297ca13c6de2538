-- The size of a word is the distance from 0 of the whole number that it stands for in two's complement.
use Prim.Native.Nat.{suc, ◌-◌, ◌^◌, ◌<◌}
use native.Mathlib.Omega.{arith}
use mathlib.Core.Path.{◌≡◌}
use lib.IntN.{ℤ, pos, negsuc}
use borrow.Author.Tests.{lt-ltb, le-ltb}
use Rattle.layout.specs.Layout.{size_of}
use Rattle.layout.specs.Laws.{word_of, distance}

pub size_degrees : (z : ℤ) → distance z < 2 ^ 63 → size_of (word_of z) ≡ distance z
unfolding size_of
size_degrees (pos n) h = rw (lt-ltb n (2 ^ 63) h)
size_degrees (negsuc n) h = rw (le-ltb (2 ^ 64 - suc n) (2 ^ 63) (omega arith), lt-ltb (2 ^ 64 - suc n) (2 ^ 64) (omega arith)) (omega arith)
