-- A float `as u32`, which stops at the ends: by a test at each.
use Rattle.std.proofs.Common.{◌≡◌, ◌+◌, ◌*◌, ◌/◌, ◌<◌, ◌≤◌, true, false, T, pos, sym, refl, true≢false, div-lt_iff_lt-mul, le-div_iff_mul-le, mul-one, arith, lt→ltb, ltb-false, ltb-true}
use lib.Ieee.{Float, nan, inf, fin, binary64, up, down, lt, of_bits, to_unsigned}
use lib.Ieee.Fits.{down_pos}
use Rattle.float.specs.Arithmetic.{zero64}

abbrev pub two32 : Float
two32 = of_bits binary64 0x41f0000000000000

pub record Within (q : Float) : Type 0 where
  pub floor : T (lt (fin true 1 (pos 0)) q)
  pub ceiling : T (lt q (fin false 1 (pos 64)))
  pub few : to_unsigned 64 q < 4294967296
  pub same : to_unsigned 64 q ≡ to_unsigned 32 q

pub within : (q : Float) → lt zero64 q ≡ true → lt q two32 ≡ true → Within q
unfolding lt of_bits to_unsigned
within nan h l = absurd (true≢false (sym h))
within (inf true) h l = absurd (true≢false (sym h))
within (inf false) h l = absurd (true≢false (sym l))
within (fin true m e) h l = absurd (true≢false (sym h))
within (fin false m e) h l =
    let p = down_pos e in
    let b : m * up e < 4294967296 * down e = rw mul-one at (ltb-true (m * up e * 1) (4294967296 * down e) l) in
    let n : m * up e / down e < 4294967296 = (div-lt_iff_lt-mul p).1 b in
    record {
      floor = lt→ltb 0 (1 * down e + m * up e * 1) (omega arith);
      ceiling = lt→ltb (m * up e * 1) (18446744073709551616 * down e) (omega arith);
      few = omega arith;
      same = omega arith;
    }

pub beyond : (q : Float) → lt zero64 q ≡ true → lt q two32 ≡ false → 4294967295 ≡ to_unsigned 32 q
unfolding lt of_bits to_unsigned
beyond nan h l = absurd (true≢false (sym h))
beyond (inf true) h l = absurd (true≢false (sym h))
beyond (inf false) h l = refl
beyond (fin true m e) h l = absurd (true≢false (sym h))
beyond (fin false m e) h l =
    let p = down_pos e in
    let b : 4294967296 * down e ≤ m * up e = rw mul-one at (ltb-false (m * up e * 1) (4294967296 * down e) l) in
    let n : 4294967296 ≤ m * up e / down e = (le-div_iff_mul-le p).1 b in
    omega arith

pub none : (q : Float) → lt zero64 q ≡ false → 0 ≡ to_unsigned 32 q
unfolding lt of_bits to_unsigned
none nan h = refl
none (inf true) h = refl
none (inf false) h = absurd (true≢false h)
none (fin true m e) h = refl
none (fin false m e) h =
    let p = down_pos e in
    let b : m * up e < 1 * down e = omega (arith, ltb-false (0 * down e) (m * up e * 1) h) in
    let n : m * up e / down e < 1 = (div-lt_iff_lt-mul p).1 b in
    omega arith
