-- A value that the format holds is rounded to itself: so 1 x, x / 1 and x + 0 are x.
use Rattle.std.proofs.Common.{◌≡◌, ℕ, zero, suc, ◌+◌, ◌-◌, ◌*◌, ◌/◌, ◌%◌, ◌^◌, ◌<◌, ◌≤◌, Bool, true, false, cond, ◌&&◌, T, eqb, ltb, leb, ℤ, pos, negsuc, sym, refl, ap, ◌∙◌, subst, le_of_eq, lt_of_lt_of_le, le_of_suc-le-suc, add-zero, mul_assoc, mul_comm, lt_of_mul-lt-mul_right, mul-lt-mul_of_pos_right, one-mul, lt_of_not-le, zero-add, zero-mul, mul-one, mul_right_comm, not-le_of_lt, ltb→lt, leb→le, pow_pos, pow-add}
use lib.Pow.{pow-lt}
use lib.Ieee.{Float, nan, inf, fin, Format, prec, emax, low, hid, top, up, down, size, fits, round, sum, add, mul, div, to_bits, of_bits}
use lib.Ieee.Fits.{down_pos, round-fits}
use lib.Ieee.Digits.{back}
use lib.Ieee.Bits.{of_bits-to_bits}
use lib.Ieee.Nearest.{div_same}
use lib.Ieee.Exact.{HasValue, round_exact}
use Rattle.float.specs.Valid.{NoMinus}

-- ---- two values that fit, of one sign and one size, are one

bits_at : (f : Format) → Bool → ℕ → ℕ
bits_at f s n = let k = size n - prec f in cond s (top f) 0 + k * hid f + n / 2 ^ k

bits_are : (f : Format) (s : Bool) (m : ℕ) (e : ℤ) → to_bits f (fin s m e) ≡ bits_at f s (m * up e * 2 ^ low f / down e)
unfolding to_bits bits_at
bits_are f s m e = refl

same_size : (l a d b c : ℕ) → 0 < d → 0 < c → a * c ≡ b * d → a * l / d ≡ b * l / c
same_size l a d b c D C e = div_same (a * l) d (b * l) c D C (mul_right_comm a l c ∙ ap (λ (x : ℕ). x * l) e ∙ mul_right_comm b d l)

value-bits : (f : Format) (x : Float) (s : Bool) (a c : ℕ) → 0 < c → HasValue x s a c → to_bits f x ≡ bits_at f s (a * 2 ^ low f / c)
value-bits f nan s a c C h = absurd h
value-bits f (inf t) s a c C h = absurd h
value-bits f (fin t m e) s a c C h =
    bits_are f t m e
    ∙ ap (λ (b : Bool). bits_at f b (m * up e * 2 ^ low f / down e)) h.0
    ∙ ap (bits_at f s) (same_size (2 ^ low f) (m * up e) (down e) a c (down_pos e) C h.1)

pub unique : (f : Format) (x y : Float) (s : Bool) (a c : ℕ) → 0 < c → T (fits f x) → T (fits f y) → HasValue x s a c → HasValue y s a c → x ≡ y
unique f x y s a c C p q h k =
    sym (of_bits-to_bits f x p)
    ∙ ap (of_bits f) (value-bits f x s a c C h ∙ sym (value-bits f y s a c C k))
    ∙ of_bits-to_bits f y q

-- ---- what `fits` says of m and e: few digits, not too small, not too large

four : (a b c d : Bool) → T (a && b && c && d) → T b × T c × T d
four true true true true t = (tt, tt, tt)
four true true true false t = absurd t
four true true false d t = absurd t
four true false c d t = absurd t
four false b c d t = absurd t

pub held : (f : Format) (s : Bool) (m : ℕ) (e : ℤ) → T (fits f (fin s (suc m) e))
    → (suc m < 2 ^ prec f) × (down e ≤ 2 ^ low f) × (suc m * up e < 2 ^ suc (emax f) * down e)
unfolding fits
held f s m e t =
    let p = four (eqb (suc m % 2) 1) (ltb (suc m) (2 ^ prec f)) (leb (down e) (2 ^ low f)) (ltb (suc m * up e) (2 ^ suc (emax f) * down e)) t in
    (ltb→lt (suc m) (2 ^ prec f) p.0, leb→le (down e) (2 ^ low f) p.1, ltb→lt (suc m * up e) (2 ^ suc (emax f) * down e) p.2)

pub few : (f : Format) (s : Bool) (m : ℕ) (e : ℤ) → T (fits f (fin s m e)) → m < 2 ^ prec f
few f s zero e t = pow_pos (prec f)
few f s (suc m) e t = (held f s m e t).0

-- ---- rounding changes nothing

-- the places below the point, of 2 ^ -low the smallest: 2 ^ low is 2 ^ j times `down e`
pub places : (f : Format) (e : ℤ) → ℕ
places f (pos k) = k + low f
places f (negsuc k) = low f - suc k

pub up-places : (f : Format) (e : ℤ) → down e ≤ 2 ^ low f → up e * 2 ^ low f ≡ 2 ^ places f e * down e
unfolding places
up-places f (pos k) h = sym (pow-add 2 k (low f)) ∙ sym (mul-one (2 ^ (k + low f)))
up-places f (negsuc k) h =
    one-mul (2 ^ low f)
    ∙ ap (λ (n : ℕ). 2 ^ n) (sym (back (low f) (suc k) (le_of_suc-le-suc (lt_of_not-le (λ (g : suc (low f) ≤ suc k). not-le_of_lt (pow-lt g) h)))))
    ∙ pow-add 2 (low f - suc k) (suc k)

round-value : (f : Format) (s : Bool) (m : ℕ) (e : ℤ) → T (fits f (fin s m e)) → HasValue (round f s (m * up e) (down e)) s (m * up e) (down e)
round-value f s zero e t =
    round_exact f s (zero * up e) (down e) 0 0 (down_pos e) (pow_pos (prec f)) (pow_pos (low f + suc (emax f))) (simp zero-mul)
round-value f s (suc m) e t =
    let h = held f s m e t in
    let l = 2 ^ low f in
    let j = places f e in
    let e1 : suc m * up e * l ≡ suc m * 2 ^ j * down e = mul_assoc (suc m) (up e) l ∙ ap (λ (x : ℕ). suc m * x) (up-places f e h.1) ∙ sym (mul_assoc (suc m) (2 ^ j) (down e)) in
    round_exact f s (suc m * up e) (down e) (suc m) j (down_pos e) h.0
    (lt_of_mul-lt-mul_right (down e)
    (subst (λ (x : ℕ). x < 2 ^ (low f + suc (emax f)) * down e) e1
    (lt_of_lt_of_le (mul-lt-mul_of_pos_right h.2 (pow_pos (low f)))
    (le_of_eq (mul_right_comm (2 ^ suc (emax f)) (down e) l ∙ ap (λ (x : ℕ). x * down e) (mul_comm (2 ^ suc (emax f)) l ∙ sym (pow-add 2 (low f) (suc (emax f)))))))))
    e1

pub round-back : (f : Format) (s : Bool) (m : ℕ) (e : ℤ) → T (fits f (fin s m e)) → round f s (m * up e) (down e) ≡ fin s m e
round-back f s m e t =
    unique f (round f s (m * up e) (down e)) (fin s m e) s (m * up e) (down e) (down_pos e) (round-fits f s (m * up e) (down e)) t (round-value f s m e t) (refl, refl)

-- ---- 1 x, x / 1, 0 + x and x + 0

abbrev pub one : Float
one = fin false 1 (pos 0)

abbrev pub nil : Float
nil = fin false 0 (pos 0)

pub one-times : (f : Format) (x : Float) → T (fits f x) → mul f one x ≡ x
unfolding mul
one-times f nan t = refl
one-times f (inf true) t = refl
one-times f (inf false) t = refl
one-times f (fin true m e) t = ap (λ (z : ℕ). round f true z (1 * down e)) (one-mul (m * up e)) ∙ ap (round f true (m * up e)) (one-mul (down e)) ∙ round-back f true m e t
one-times f (fin false m e) t = ap (λ (z : ℕ). round f false z (1 * down e)) (one-mul (m * up e)) ∙ ap (round f false (m * up e)) (one-mul (down e)) ∙ round-back f false m e t

pub by_one : (f : Format) (x : Float) → T (fits f x) → div f x one ≡ x
unfolding div
by_one f nan t = refl
by_one f (inf true) t = refl
by_one f (inf false) t = refl
by_one f (fin true m e) t = simp (mul-one, one-mul) (round-back f true m e t)
by_one f (fin false m e) t = simp (mul-one, one-mul) (round-back f false m e t)

pub nil_and : (f : Format) (x : Float) → NoMinus f x → add f nil x ≡ x
unfolding add sum
nil_and f nan t = refl
nil_and f (inf true) t = absurd t.0
nil_and f (inf false) t = refl
nil_and f (fin true m e) t = absurd t.0
nil_and f (fin false m e) t = rw (zero-mul, zero-add, mul-one, one-mul) (round-back f false m e t.1)

pub and_nil : (f : Format) (x : Float) → NoMinus f x → add f x nil ≡ x
unfolding add sum
and_nil f nan t = refl
and_nil f (inf true) t = absurd t.0
and_nil f (inf false) t = refl
and_nil f (fin true m e) t = absurd t.0
and_nil f (fin false m e) t = simp (zero-mul, add-zero, mul-one) (round-back f false m e t.1)
