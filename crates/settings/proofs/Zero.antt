-- What is stored of a number in range is in range, held by binary64 and not negative zero; and it has no minus sign where the range begins at 0 or above.
use Prim.Native.Nat.{ℕ, zero, suc, ◌+◌, ◌*◌, ◌^◌, ◌≤◌, ◌<◌}
use native.Mathlib.Nat.{add-zero, zero-add, mul-pos}
use native.Mathlib.Omega.{arith}
use mathlib.Core.Path.{◌≡◌, refl, sym, ap, ◌∙◌, subst}
use mathlib.Core.Bool.{Bool, true, false, not, cond, ◌&&◌, ◌||◌, beq, true≢false}
use lib.Dec.{T, eqb, ltb, eqb→eq}
use lib.Pow.{pow_mono}
use lib.IntN.{ℤ, pos, negsuc}
use lib.Ieee.{Float, nan, inf, fin, binary64, up, down, below, lt, le, eq, fits, is_nan, of_bits}
use lib.Ieee.Fits.{up_pos, down_pos}
use lib.Ieee.Scale.{finite}
use borrow.Author.Tests.{le-ltb, lt-ltb, ne_eqb}
use Rattle.float.specs.Valid.{plus}
use Rattle.comis.proofs.Order.{not-lt}
use Rattle.settings.specs.declared.Range.{Range}
use Rattle.settings.specs.Settings.{outside_of, zeroed_of}
use Rattle.settings.specs.Valid.{SettingValid}

-- ---- in range

parts : (f a b : Bool) → cond f (a || b) true ≡ false → (f ≡ true) × (a ≡ false) × (b ≡ false)
parts true false false h = (refl, refl, refl)
parts true false true h = absurd (true≢false h)
parts true true b h = absurd (true≢false h)
parts false a b h = absurd (true≢false h)

pub record Inside (r : Range) (x : Float) : Type 0 where
  pub finite : finite x ≡ true
  pub low : lt x r.low ≡ false
  pub high : lt r.high x ≡ false

pub inside : (r : Range) (x : Float) → outside_of r x ≡ false → Inside r x
unfolding outside_of
inside r x h = let p = parts (finite x) (lt x r.low) (lt r.high x) h in record { finite = p.0; low = p.1; high = p.2 }

number : (x : Float) → finite x ≡ true → T (not (is_nan x))
unfolding is_nan
number nan h = absurd (true≢false (sym h))
number (inf s) h = tt
number (fin s m e) h = tt

-- at most the upper end
pub at_most : (r : Range) (x : Float) → T (not (is_nan r.high)) → outside_of r x ≡ false → T (le x r.high)
at_most r x n h = let i = inside r x h in not-lt r.high x n (number x i.finite) i.high

-- ---- zeros

-- a zero that binary64 holds has the exponent 0
two-le : (k : ℕ) → 2 ≤ 2 ^ suc k
two-le k = pow_mono {i = 1} {j = suc k} (omega arith)

pub zero_exponent : (s : Bool) (e : ℤ) → T (fits binary64 (fin s zero e)) → e ≡ pos 0
unfolding fits
zero_exponent s (pos zero) h = refl
zero_exponent s (pos (suc k)) h = absurd (omega (arith, eqb→eq (2 ^ suc k * 1) 1 h, two-le k))
zero_exponent s (negsuc k) h = absurd (omega (arith, eqb→eq (1 * 2 ^ suc k) 1 h, two-le k))

abbrev minus_zero : Float
minus_zero = fin true 0 (pos 0)

abbrev plus_zero : Float
plus_zero = fin false 0 (pos 0)

-- the two zeros compare alike
left-zero : (t : Bool) (a b : ℕ) → a ≡ 0 → below true a t b ≡ below false a t b
left-zero false a b e = rw e (ap (ltb 0) (zero-add b))
left-zero true a b e = rw e (le-ltb b 0 (omega arith))

right_zero : (s : Bool) (a b : ℕ) → b ≡ 0 → below s a true b ≡ below s a false b
right_zero false a b e = rw e (sym (le-ltb a 0 (omega arith)))
right_zero true a b e = rw e (ap (ltb 0) (sym (add-zero a)))

none : (n : ℕ) → 0 * 1 * n ≡ 0
none n = omega arith

zero-lt : (y : Float) → lt minus_zero y ≡ lt plus_zero y
unfolding lt
zero-lt nan = refl
zero-lt (inf t) = refl
zero-lt (fin t n d) = left-zero t (0 * 1 * down d) (n * up d * 1) (none (down d))

lt-zero : (y : Float) → lt y minus_zero ≡ lt y plus_zero
unfolding lt
lt-zero nan = refl
lt-zero (inf t) = refl
lt-zero (fin s m e) = right_zero s (m * up e * 1) (0 * 1 * down e) (none (down e))

outside-zero : (r : Range) → outside_of r minus_zero ≡ outside_of r plus_zero
unfolding outside_of
outside-zero r = rw (zero-lt r.low, lt-zero r.high)

-- ---- what is stored

-- any other number stays
zeroed-other : (s : Bool) (m : ℕ) (e : ℤ) → zeroed_of (fin s (suc m) e) ≡ fin s (suc m) e
unfolding zeroed_of eq of_bits
zeroed-other s m e =
    let a = suc m * up e * 1 in
    let b = 0 * 1 * down e in
    let l : 0 < suc m * up e = mul-pos (omega arith) (up_pos e) in
    let z : b ≡ 0 = none (down e) in
    ap (λ (t : Bool). cond (t && (beq s false || eqb a 0)) plus_zero (fin s (suc m) e)) (ne_eqb a b (λ q. omega (arith, q, z, l)))

zero-valid : (r : Range) → outside_of r plus_zero ≡ false → SettingValid r plus_zero
unfolding zeroed_of eq of_bits fits
zero-valid r h = record { number = (tt, tt); inside = h; stored = refl }

at_zero : (r : Range) (s : Bool) → outside_of r (fin s 0 (pos 0)) ≡ false → SettingValid r (zeroed_of (fin s 0 (pos 0)))
unfolding zeroed_of eq of_bits
at_zero r false h = zero-valid r h
at_zero r true h = zero-valid r (sym (outside-zero r) ∙ h)

pub stored_valid : (r : Range) (x : Float) → T (fits binary64 x) → outside_of r x ≡ false → SettingValid r (zeroed_of x)
stored_valid r nan f h = absurd (unfold outside_of in true≢false h)
stored_valid r (inf s) f h = absurd (unfold outside_of in true≢false h)
stored_valid r (fin s zero e) f h =
    subst (λ (k : ℤ). outside_of r (fin s 0 k) ≡ false → SettingValid r (zeroed_of (fin s 0 k))) (sym (zero_exponent s e f)) (at_zero r s) h
stored_valid r (fin s (suc m) e) f h =
    subst (SettingValid r) (sym (zeroed-other s m e)) (record { number = (tt, f); inside = h; stored = zeroed-other s m e })

-- ---- no minus sign

-- 0 or above
abbrev pub not_below : Float → Bool
not_below nan = false
not_below (inf s) = false
not_below (fin s m e) = not s

above : (m : ℕ) (e : ℤ) (low : Float) → T (not_below low) → lt (fin true (suc m) e) low ≡ true
unfolding lt
above m e nan p = absurd p
above m e (inf s) p = absurd p
above m e (fin true n d) p = absurd p
above m e (fin false n d) p =
    let l : 0 < suc m * up e * down d = mul-pos (mul-pos (omega arith) (up_pos e)) (down_pos d) in
    lt-ltb 0 (suc m * up e * down d + n * up d * down e) (omega arith)

zero-plus : (k : ℤ) → k ≡ pos 0 → T (plus (zeroed_of (fin true 0 k)))
unfolding zeroed_of eq of_bits
zero-plus k q = rw q tt

pub no_minus : (r : Range) (x : Float) → T (not_below r.low) → SettingValid r x → T (plus x)
no_minus r x p v = go x v.number.1 (inside r x v.inside) v.stored
  where
    go : (x : Float) → T (fits binary64 x) → Inside r x → zeroed_of x ≡ x → T (plus x)
    go nan f i h = absurd (true≢false (sym i.finite))
    go (inf s) f i h = absurd (true≢false (sym i.finite))
    go (fin false m e) f i h = tt
    go (fin true zero e) f i h = subst (λ (y : Float). T (plus y)) h (zero-plus e (zero_exponent true e f))
    go (fin true (suc m) e) f i h = absurd (true≢false (sym (above m e r.low p) ∙ i.low))
