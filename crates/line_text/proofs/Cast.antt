-- The cast of an f64 to a whole number at the ends of its range.
use Rattle.std.proofs.Common.{◌≡◌, ℕ, ◌+◌, ◌-◌, ◌*◌, ◌/◌, ◌^◌, ◌<◌, ◌≤◌, min, true, false, ltb, pos, sym, refl, true≢false, le-div_iff_mul-le, arith, ltb-false}
use lib.Ieee.Fits.{down_pos}
use lib.Ieee.{Float, nan, inf, fin, up, down, lt, to_unsigned}

no-sum : (a b : ℕ) → 0 < a + b → ltb 0 (a + b) ≡ false → ⊥
no-sum a b p h = omega (arith, ltb-false 0 (a + b) h)

most : (a c : ℕ) → 0 < c → 1 * 2 ^ 64 * c ≤ a * 1 → min (a / c) (2 ^ 64 - 1) ≡ 2 ^ 64 - 1
most a c p h = let q : 2 ^ 64 ≤ a / c = (le-div_iff_mul-le p).1 (omega arith) in omega arith

-- what isn't above -1 counts as 0
pub low : (x : Float) → lt (fin true 1 (pos 0)) x ≡ false → to_unsigned 64 x ≡ 0
unfolding lt to_unsigned
low nan h = refl
low (inf true) h = refl
low (inf false) h = absurd (true≢false h)
low (fin true m e) h = refl
low (fin false m e) h = absurd (no-sum (1 * up (pos 0) * down e) _ (omega (arith, down_pos e)) h)

-- what isn't below 2^64 counts as the largest
pub high : (x : Float) → lt (fin true 1 (pos 0)) x ≡ true → lt x (fin false 1 (pos 64)) ≡ false → to_unsigned 64 x ≡ 2 ^ 64 - 1
unfolding lt to_unsigned
high nan g h = absurd (true≢false (sym g))
high (inf true) g h = absurd (true≢false h)
high (inf false) g h = refl
high (fin true m e) g h = absurd (no-sum (m * up e * down (pos 64)) _ (omega (arith, down_pos e)) h)
high (fin false m e) g h = most (m * up e) (down e) (down_pos e) (ltb-false _ _ h)
