-- Laws of words and finite floats, as the code tests them.
use mathlib.Core.Path.{◌≡◌, refl, sym}
use mathlib.Core.Bool.{Bool, true, false, cond, not, ◌&&◌}
use Prim.Native.Nat.{ℕ, ◌*◌, ◌%◌, ◌≤◌, ◌<◌}
use native.Mathlib.Nat.{le_of_lt}
use borrow.Author.Tests.{lt-ltb, le-ltb}
use lib.Dec.{T, ltb}
use lib.Ieee.{Format, binary32, binary64, top, of_bits, nan_bits}
use Rattle.float.proofs.Patterns.{no-nan-pattern}
use Rattle.codec.specs.Fields.{infinite, zero_of, num_of}

-- the three cases of a word
pub num_of_in : (f : Format) (w : ℕ) → w % top f < infinite f → w < 2 * top f → num_of f w ≡ of_bits f w
unfolding num_of
num_of_in f w a b = rw (lt-ltb (w % top f) (infinite f) a, lt-ltb w (2 * top f) b)

pub num_of-out : (f : Format) (w : ℕ) → infinite f ≤ w % top f → num_of f w ≡ zero_of f
unfolding num_of
num_of-out f w a = rw (le-ltb (w % top f) (infinite f) a)

pub num_of-wide : (f : Format) (w : ℕ) → 2 * top f ≤ w → num_of f w ≡ zero_of f
unfolding num_of
num_of-wide f w a = rw (le-ltb w (2 * top f) a) (go (ltb (w % top f) (infinite f)))
  where
    go : (b : Bool) → cond (b && false) (of_bits f w) (zero_of f) ≡ zero_of f
    go true = refl
    go false = refl

pub no_nan : (f : Format) (w : ℕ) → w % top f < infinite f → T (not (nan_bits f w))
no_nan f w h = no-nan-pattern f w (le_of_lt h)

-- the same of an f64's word, as `from_word` tests it
pub num64_in : (w : ℕ) → w < 18446744073709551616 → w % 9223372036854775808 < 9218868437227405312 → of_bits binary64 w ≡ num_of binary64 w
num64_in w a b = sym (num_of_in binary64 w b a)

pub num64_out : (w : ℕ) → 9218868437227405312 ≤ w % 9223372036854775808 → zero_of binary64 ≡ num_of binary64 w
num64_out w a = sym (num_of-out binary64 w a)

pub num64_no_nan : (w : ℕ) → w % 9223372036854775808 < 9218868437227405312 → T (not (nan_bits binary64 w))
num64_no_nan w a = no_nan binary64 w a

-- the same of an f32's word, as `from_word` tests it
pub num32_in : (w : ℕ) → w < 4294967296 → w % 2147483648 < 2139095040 → of_bits binary32 w ≡ num_of binary32 w
num32_in w a b = sym (num_of_in binary32 w b a)

pub num32_out : (w : ℕ) → 2139095040 ≤ w % 2147483648 → zero_of binary32 ≡ num_of binary32 w
num32_out w a = sym (num_of-out binary32 w a)

pub num32_wide : (w : ℕ) → 4294967296 ≤ w → zero_of binary32 ≡ num_of binary32 w
num32_wide w a = sym (num_of-wide binary32 w a)

pub num32_no_nan : (w : ℕ) → w % 2147483648 < 2139095040 → T (not (nan_bits binary32 w))
num32_no_nan w a = no_nan binary32 w a
