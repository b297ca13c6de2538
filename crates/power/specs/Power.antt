-- The power 2 ^ y by the steps of the specification, "Stand-ins", and exp, 10 ^ u and 60 ^ u by it. Definitions only.
use Rattle.std.specs.Prelude.{ℕ, suc, ◌+◌, ◌-◌, ◌*◌, ◌/◌, ◌%◌, ◌^◌, Bool, true, false, cond, List, [], ◌∷◌, eqb, length, ℤ, pos, negsuc, neg_ℤ, Float}
use Rattle.std.specs.Float.{nan, inf, fin, binary64}
use Rattle.std.specs.Float.Ieee.{round, lt, neg, is_nan, of_bits}
use Rattle.float.specs.Units.{units_of}
use Rattle.float.specs.Choice.{min_of}
use Rattle.float.specs.Arithmetic.{◌⊗◌, zero64}
use Rattle.power.specs.Roots.{roots}

-- floor (y * 2 ^ 24) for a y of u units of 2 ^ -1074, with a minus sign where the Bool is true: then the quotient is rounded up
unfoldable pub floor_units : Bool → ℕ → ℤ
floor_units false u = pos (u * 2 ^ 24 / 2 ^ 1074)
floor_units true u = neg_ℤ (pos ((u * 2 ^ 24 + (2 ^ 1074 - 1)) / 2 ^ 1074))

-- K = floor (y * 2 ^ 24) of a finite y
unfoldable pub floor_of : Float → ℤ
floor_of nan = pos 0
floor_of (inf s) = pos 0
floor_of (fin s m e) = floor_units s (units_of (fin s m e))

-- From m on, for each set bit of the fraction f, m becomes floor (m * r / 2 ^ 30) with that bit's root r. The first root goes with
-- the highest bit, the half, and the last with the lowest.
unfoldable pub raise : List ℕ → ℕ → ℕ → ℕ
raise [] f m = m
raise (r ∷ rs) f m = raise rs f (cond (eqb (f / 2 ^ length rs % 2) 1) (m * r / 2 ^ 30) m)

-- K + 1000 * 2 ^ 24: from y = -1,000 on it is not below zero
abbrev pub above : ℤ → ℕ
above (pos k) = 1000 * 2 ^ 24 + k
above (negsuc k) = 1000 * 2 ^ 24 - suc k

-- m * 2 ^ (n + 1000) for n = floor (K / 2 ^ 24) and the m of K's fraction, by k = K + 1000 * 2 ^ 24
unfoldable pub pow_units : ℕ → ℕ
pow_units k = raise roots (k % 2 ^ 24) (2 ^ 30) * 2 ^ (k / 2 ^ 24)

-- the result, m * 2 ^ (n - 30): an f64 holds it exactly (`power-exact`)
unfoldable pub pow_at : ℕ → Float
pow_at k = round binary64 false (pow_units k) (2 ^ 1030)

abbrev pub thousand : Float
thousand = of_bits binary64 0x408f400000000000

-- 2 ^ y. A y below -1,000 gives 0, minus infinity too; one above 1,000 counts as 1,000, plus infinity too; a NaN gives a NaN.
unfoldable pub exp2_of : Float → Float
exp2_of y = cond (is_nan y) nan (cond (lt y (neg thousand)) zero64 (pow_at (above (floor_of (min_of y thousand)))))

-- the f64 nearest log2 e, log2 10 and log2 60
abbrev pub log2_e : Float
log2_e = of_bits binary64 0x3ff71547652b82fe

abbrev pub log2_ten : Float
log2_ten = of_bits binary64 0x400a934f0979a371

abbrev pub log2_sixty : Float
log2_sixty = of_bits binary64 0x4017a0a7eda4c113

-- e ^ x, 10 ^ u and 60 ^ u
unfoldable pub exp_of : Float → Float
exp_of x = exp2_of (x ⊗ log2_e)

unfoldable pub exp10_of : Float → Float
exp10_of u = exp2_of (u ⊗ log2_ten)

unfoldable pub exp60_of : Float → Float
exp60_of u = exp2_of (u ⊗ log2_sixty)
