-- A fraction below 2 ^ emax is rounded to a finite number, and so a product of small factors and a sum of small terms are finite.
use mathlib.Core.Path.{sym, ap, ◌∙◌, subst}
use mathlib.Core.Bool.{Bool, true, false, cond, ◌&&◌, beq}
use Prim.Native.Nat.{ℕ, suc, ◌+◌, ◌-◌, ◌*◌, ◌/◌, ◌%◌, ◌^◌, ◌≤◌, ◌<◌, compare}
use native.Mathlib.Nat.{le_trans, le_of_eq, lt_of_lt_of_le, lt_of_le_of_lt, mul-pos, mul-le-mul, mul-le-mul_right, mul-lt-mul_of_pos_right, mul_right_comm, mul-mul-mul_comm, mul_assoc, mul_comm, pow-suc, div-lt_iff_lt-mul, div-div-eq-div-mul, le_of_mul-le-mul_right}
use native.Mathlib.Omega.{arith}
use lib.Dec.{T, ltb}
use lib.IntN.{ℤ}
use lib.Pow.{pow-add, pow_pos, pow-lt, pow_mono}
use lib.Ieee.{Float, nan, inf, fin, Format, prec, emax, low, up, down, size, nearest, round, sum, add, mul, unlike}
use lib.Ieee.Digits.{size-le}
use lib.Ieee.Exact.{HasValue, units_val}
use lib.Ieee.Fits.{two, reach, down_pos, nearest-le, kept-lt, round_is}
use lib.Ieee.Positive.{num, den}
use lib.Ieee.Scale.{finite}

pub value-finite : (x : Float) (s : Bool) (a c : ℕ) → HasValue x s a c → T (finite x)
value-finite nan s a c h = absurd h
value-finite (inf t) s a c h = absurd h
value-finite (fin t m e) s a c h = tt

-- a value a / c of at most p
pub value-small : (x : Float) (s : Bool) (a c p : ℕ) → 0 < c → HasValue x s a c → a ≤ p * c → num x ≤ p * den x
value-small nan s a c p C h l = absurd h
value-small (inf u) s a c p C h l = absurd h
value-small (fin u m e) s a c p C h l = le_of_mul-le-mul_right (le_trans (le_of_eq h.1) (le_trans (mul-le-mul_right (down e) l) (le_of_eq (mul_right_comm p c (down e))))) C

-- a fraction below 2 ^ p, in units of the format's smallest value
module _ (f : Format) (s : Bool) (a c p : ℕ) (C : 0 < c) (h : a < 2 ^ p * c) (top : p ≤ emax f) (wide : prec f ≤ p + low f) where
  rounded : (w : ℕ) × HasValue (round f s a c) s w (2 ^ low f) × (w ≤ 2 ^ p * 2 ^ low f)
  rounded =
      (q * 2 ^ k, subst (λ (x : Float). HasValue x s (q * 2 ^ k) (2 ^ low f)) (sym (round_is f s a c)) (units_val f s q k (lt_of_le_of_lt most (pow-lt (fit p (low f) (emax f) top)))), le_trans most (le_of_eq (pow-add 2 p (low f))))
    where
      n : ℕ
      n = a * 2 ^ low f

      k : ℕ
      k = size (n / c) - prec f

      q : ℕ
      q = nearest (n / (c * 2 ^ k)) (compare (n % (c * 2 ^ k) * 2) (c * 2 ^ k))

      digits : q ≤ 2 ^ prec f
      digits =
          le_trans (nearest-le (n / (c * 2 ^ k)) (compare (n % (c * 2 ^ k) * 2) (c * 2 ^ k)))
          (subst (λ (x : ℕ). x < 2 ^ prec f) (div-div-eq-div-mul n c (2 ^ k)) (kept-lt (prec f) (n / c)))

      short : size (n / c) ≤ p + low f
      short =
          size-le (n / c) (p + low f)
          ((div-lt_iff_lt-mul C).1
          (lt_of_lt_of_le (mul-lt-mul_of_pos_right h (pow_pos (low f)))
          (le_of_eq (mul_right_comm (2 ^ p) c (2 ^ low f) ∙ ap (λ (x : ℕ). x * c) (sym (pow-add 2 p (low f)))))))

      room : (b d z : ℕ) → d ≤ b → z ≤ b → d + (z - d) ≤ b
      room b d z x y = omega arith

      fit : (p l x : ℕ) → p ≤ x → p + l < l + suc x
      fit p l x h = omega arith

      most : q * 2 ^ k ≤ 2 ^ (p + low f)
      most = le_trans (mul-le-mul_right (2 ^ k) digits) (le_trans (le_of_eq (sym (pow-add 2 (prec f) k))) (pow_mono (room (p + low f) (prec f) (size (n / c)) wide short)))

  pub round-small : num (round f s a c) ≤ 2 ^ p * den (round f s a c)
  round-small = value-small (round f s a c) s rounded.0 (2 ^ low f) (2 ^ p) (pow_pos (low f)) rounded.1 rounded.2

pub round-finite : (f : Format) (s : Bool) (a c : ℕ) → 0 < c → a < 2 ^ emax f * c → T (finite (round f s a c))
round-finite f s a c p h =
    let r = rounded f s a c (emax f) p h (least (emax f)) (room (emax f) (prec f) (two f) (reach f)) in
    value-finite (round f s a c) s r.0 (2 ^ low f) r.1
  where
    least : (x : ℕ) → x ≤ x
    least x = omega arith

    room : (x p : ℕ) → 2 ≤ p → p ≤ suc x → p ≤ x + (x + p - 2)
    room x p a b = omega arith

-- factors of at most 2 ^ p and 2 ^ q
product : (m n : ℕ) (e d : ℤ) (p q r : ℕ) → m * up e ≤ 2 ^ p * down e → n * up d ≤ 2 ^ q * down d → p + q < r → m * up e * (n * up d) < 2 ^ r * (down e * down d)
product m n e d p q r a b h =
    lt_of_le_of_lt (mul-le-mul a b)
    (lt_of_le_of_lt (le_of_eq (mul-mul-mul_comm (2 ^ p) (down e) (2 ^ q) (down d) ∙ ap (λ (x : ℕ). x * (down e * down d)) (sym (pow-add 2 p q))))
    (mul-lt-mul_of_pos_right (pow-lt h) (mul-pos (down_pos e) (down_pos d))))

module _ (f : Format) (x y : Float) (p q : ℕ) (s : T (finite x)) (t : T (finite y)) (a : num x ≤ 2 ^ p * den x) (b : num y ≤ 2 ^ q * den y) where
  pub mul-finite : p + q < emax f → T (finite (mul f x y))
  mul-finite h = go x y s t a b
    where
      go : (x y : Float) → T (finite x) → T (finite y) → num x ≤ 2 ^ p * den x → num y ≤ 2 ^ q * den y → T (finite (mul f x y))
      go nan y s t a b = absurd s
      go (inf u) y s t a b = absurd s
      go (fin u m e) nan s t a b = absurd t
      go (fin u m e) (inf v) s t a b = absurd t
      go (fin u m e) (fin v n d) s t a b = unfold mul in round-finite f (unlike u v) (m * up e * (n * up d)) (down e * down d) (mul-pos (down_pos e) (down_pos d)) (product m n e d p q (emax f) a b h)

  -- the product is at most 2 ^ r
  pub mul_small : (r : ℕ) → p + q < r → r ≤ emax f → prec f ≤ r + low f → num (mul f x y) ≤ 2 ^ r * den (mul f x y)
  mul_small r h k w = go x y s t a b
    where
      go : (x y : Float) → T (finite x) → T (finite y) → num x ≤ 2 ^ p * den x → num y ≤ 2 ^ q * den y → num (mul f x y) ≤ 2 ^ r * den (mul f x y)
      go nan y s t a b = absurd s
      go (inf u) y s t a b = absurd s
      go (fin u m e) nan s t a b = absurd t
      go (fin u m e) (inf v) s t a b = absurd t
      go (fin u m e) (fin v n d) s t a b = unfold mul in round-small f (unlike u v) (m * up e * (n * up d)) (down e * down d) r (mul-pos (down_pos e) (down_pos d)) (product m n e d p q r a b h) k w

-- terms of at most 2 ^ p
sum-finite : (f : Format) (s t : Bool) (a b c p : ℕ) → 0 < c → a ≤ 2 ^ p * c → b ≤ 2 ^ p * c → suc p < emax f → T (finite (sum f s a t b c))
unfolding sum
sum-finite f s t a b c p C x y h = go (beq s t) (ltb a b)
  where
    under : (n : ℕ) → n ≤ a + b → n < 2 ^ emax f * c
    under n l =
        lt_of_le_of_lt l
        (lt_of_le_of_lt (twice a b (2 ^ p) c x y) (lt_of_le_of_lt (le_of_eq (ap (λ (z : ℕ). z * c) (sym (pow-suc 2 p)))) (mul-lt-mul_of_pos_right (pow-lt h) C)))
      where
        twice : (a b z c : ℕ) → a ≤ z * c → b ≤ z * c → a + b ≤ z * 2 * c
        twice a b z c x y = omega (arith, x, y, mul_right_comm z 2 c)

    go : (u v : Bool) → T (finite (cond u (round f s (a + b) c) (cond v (round f t (b - a) c) (round f (s && ltb b a) (a - b) c))))
    go true v = round-finite f s (a + b) c C (under (a + b) (omega arith))
    go false true = round-finite f t (b - a) c C (under (b - a) (omega arith))
    go false false = round-finite f (s && ltb b a) (a - b) c C (under (a - b) (omega arith))

pub add-finite : (f : Format) (x y : Float) (p : ℕ) → T (finite x) → T (finite y) → num x ≤ 2 ^ p * den x → num y ≤ 2 ^ p * den y → suc p < emax f → T (finite (add f x y))
unfolding add
add-finite f nan y p s t a b h = absurd s
add-finite f (inf u) y p s t a b h = absurd s
add-finite f (fin u m e) nan p s t a b h = absurd t
add-finite f (fin u m e) (inf v) p s t a b h = absurd t
add-finite f (fin u m e) (fin v n d) p s t a b h =
    sum-finite f u v (m * up e * down d) (n * up d * down e) (down e * down d) p (mul-pos (down_pos e) (down_pos d))
    (le_trans (mul-le-mul_right (down d) a) (le_of_eq (mul_assoc (2 ^ p) (down e) (down d))))
    (le_trans (mul-le-mul_right (down e) b) (le_of_eq (mul_assoc (2 ^ p) (down d) (down e) ∙ ap (λ (z : ℕ). 2 ^ p * z) (mul_comm (down d) (down e)))))
    h
