-- The logarithm of an f64 to base 2 and to base 10, by the steps of the specification, "Stand-ins". Definitions only.
use Rattle.std.specs.Prelude.{ℕ, zero, suc, ◌+◌, ◌-◌, ◌*◌, ◌/◌, ◌^◌, ◌≤◌, ◌<◌, Bool, true, false, cond, leb, eqb, ℤ, pos, negsuc, nat_abs, Float}
use Rattle.std.specs.Float.{nan, inf, fin, binary64}
use Rattle.std.specs.Float.Ieee.{up, down, minus, size, round, of_bits}
use Rattle.float.specs.Arithmetic.{◌⊗◌}
use Rattle.float.specs.Units.{units_of}

-- how many times m is squared. Everything below is for any number k of times.
abbrev pub steps : ℕ
steps = 24

-- ---- F

-- m has 31 binary digits: m / 2 ^ 30 is at least 1 and below 2
abbrev pub Digits31 : ℕ → Type 0
Digits31 m = (2 ^ 30 ≤ m) × (m < 2 ^ 31)

-- floor(m * m / 2 ^ 30)
abbrev pub squared : ℕ → ℕ
squared m = m * m / 2 ^ 30

-- the next bit: 1 from 2 ^ 31 on
abbrev pub bit_of : ℕ → ℕ
bit_of m = cond (leb (2 ^ 31) m) 1 0

-- the next m: after a 1 bit floor(squared m / 2), after a 0 bit the square itself
abbrev pub next_of : ℕ → ℕ
next_of m = squared m / 2 ^ bit_of (squared m)

-- the significand m when a squaring starts, after i others
unfoldable pub significand_of : ℕ → ℕ → ℕ
significand_of zero m = m
significand_of (suc i) m = significand_of i (next_of m)

-- the k bits, the first the highest
unfoldable pub fraction_of : ℕ → ℕ → ℕ
fraction_of zero m = 0
fraction_of (suc k) m = bit_of (squared m) * 2 ^ k + fraction_of k (next_of m)

-- ---- N

-- n cut to its 31 leading binary digits, so that 2 ^ 30 ≤ m < 2 ^ 31. The value n is m * 2 ^ (size n - 1) / 2 ^ 30, and what was cut off.
abbrev pub cut_of : ℕ → ℕ
cut_of n = n * 2 ^ 31 / 2 ^ size n

-- N of the whole number n, for an n above 0
unfoldable pub whole_log_of : ℕ → ℕ → ℕ
whole_log_of k n = (size n - 1) * 2 ^ k + fraction_of k (cut_of n)

-- N of n units of 2 ^ -1074: e is smaller by 1074
unfoldable pub units_log_of : ℕ → ℕ → ℤ
units_log_of k n = minus (whole_log_of k n) (1074 * 2 ^ k)

-- N of a finite f64 above zero
abbrev pub log_of : ℕ → Float → ℤ
log_of k x = units_log_of k (units_of x)

-- ---- the results

abbrev pub negative : ℤ → Bool
negative (pos n) = false
negative (negsuc n) = true

-- z / 2 ^ k
unfoldable pub quotient_of : ℕ → ℤ → Float
quotient_of k z = round binary64 (negative z) (nat_abs z) (2 ^ k)

-- log2 of n units with the sign s: of a zero of either sign minus infinity, of a negative number not a number
unfoldable pub log2_at : ℕ → Bool → ℕ → Float
log2_at k s n = cond (eqb n 0) (inf true) (cond s nan (quotient_of k (units_log_of k n)))

-- log2 to k bits after the point
unfoldable pub log2_to : ℕ → Float → Float
log2_to k nan = nan
log2_to k (inf s) = cond s nan (inf false)
log2_to k (fin s m e) = log2_at k s (units_of (fin s m e))

unfoldable pub log2_of : Float → Float
log2_of x = log2_to steps x

-- the f64 nearest log10 2
abbrev pub log10_two : Float
log10_two = of_bits binary64 0x3fd34413509f79ff

unfoldable pub log10_of : Float → Float
log10_of x = log2_of x ⊗ log10_two

-- ---- what is proved of N, for every finite f64 above zero: `log2-within` of proofs/Results.antt

-- 2 ^ z ≤ (a / c) ^ q < 2 ^ (z + 2), with the denominators multiplied out. 2 ^ z is up z / down z.
abbrev pub Within : ℕ → ℕ → ℕ → ℤ → Type 0
Within q a c z = (up z * c ^ q ≤ a ^ q * down z) × (a ^ q * down z < 4 * (up z * c ^ q))
