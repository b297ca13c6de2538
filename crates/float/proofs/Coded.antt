-- The bit pattern of q * 2 ^ k smallest values of a format is k times the weight of the exponent's field, and q.
-- A format of r + 1 digits whose values lie below 2 ^ (r + M) smallest ones: binary32 has r = 23 and M = 254, binary64 r = 52 and M = 2046.
use Rattle.std.proofs.Common.{◌≡◌, ℕ, zero, suc, ◌+◌, ◌-◌, ◌*◌, ◌/◌, ◌%◌, ◌^◌, ◌<◌, ◌≤◌, min, Bool, true, false, cond, not, T, ltb, ◌⊎◌, sym, refl, ap, ◌∙◌, subst, ap₂, inl, inr, le_trans, le_of_eq, lt_of_lt_of_le, lt_of_le_of_lt, mul-le-mul_right, mod-eq_of_lt, zero-lt-suc, suc-mul, mul-le-mul, eq-or-lt_of_le, mul-lt-mul_of_pos_right, lt_of_not-le, zero-add, mul-one, not-le_of_lt, div-one, mul-div_cancel, arith, lit<, lit≤, ltb→lt, pow_pos, pow_mono, pow-add, le-ltb}
use native.Mathlib.Nat.{add-mod_left, pow-succ'}
use native.Mathlib.Decide.{dec_le}
use lib.Pow.{pow-lt}
use lib.Ieee.{Float, nan, inf, fin, Format, binary32, binary64, prec, emax, low, hid, ones, top, up, down, size, odd, units, fits, to_bits, of_bits, nan_bits}
use lib.Ieee.Bits.{of_bits-to_bits}
use lib.Ieee.Digits.{size-le}
use lib.Ieee.Exact.{HasValue, units_val}
use lib.Ieee.Fits.{down_pos, odd-fits, inf-fits}
use Rattle.float.proofs.Digits.{size_is}
use Rattle.float.proofs.Patterns.{no-nan-pattern}

-- ---- the digits of q * 2 ^ k

abbrev field : ℕ → ℕ → ℕ
field r n = (size n - suc r) * 2 ^ r + n / 2 ^ (size n - suc r)

at_size : (r n j : ℕ) → size n - suc r ≡ j → field r n ≡ j * 2 ^ r + n / 2 ^ j
at_size r n j e = ap (λ (i : ℕ). i * 2 ^ r + n / 2 ^ i) e

full : (r q k : ℕ) → 2 ^ r ≤ q → q < 2 ^ suc r → size (q * 2 ^ k) - suc r ≡ k
full r q k lo hi =
    ap (λ (x : ℕ). x - suc r) (size_is (q * 2 ^ k) (r + k) (le_trans (le_of_eq (pow-add 2 r k)) (mul-le-mul_right (2 ^ k) lo))
    (lt_of_lt_of_le (mul-lt-mul_of_pos_right hi (pow_pos k)) (le_of_eq (sym (pow-add 2 (suc r) k) ∙ ap (λ (x : ℕ). 2 ^ x) (more r k))))) ∙ less r k
  where
    more : (r k : ℕ) → suc r + k ≡ suc (r + k)
    more r k = omega arith

    less : (r k : ℕ) → suc (r + k) - suc r ≡ k
    less r k = omega arith

-- q = 2 ^ (r + 1) has one digit more
over : (r k : ℕ) → field r (2 ^ suc r * 2 ^ k) ≡ k * 2 ^ r + 2 ^ suc r
over r k =
    at_size r (2 ^ suc r * 2 ^ k) (suc k)
    (ap (λ (x : ℕ). x - suc r) (size_is (2 ^ suc r * 2 ^ k) (suc r + k) (le_of_eq (pow-add 2 (suc r) k)) (lt_of_le_of_lt (le_of_eq (sym (pow-add 2 (suc r) k))) (pow-lt (step (suc r + k))))) ∙ less r k)
    ∙ ap (λ (x : ℕ). suc k * 2 ^ r + x) (ap (λ (x : ℕ). x / 2 ^ suc k) (sym (pow-add 2 (suc r) k) ∙ ap (λ (x : ℕ). 2 ^ x) (again r k) ∙ pow-add 2 r (suc k)) ∙ mul-div_cancel (2 ^ r) (pow_pos (suc k)))
    ∙ sum (2 ^ r) (k * 2 ^ r) (suc k * 2 ^ r) (2 ^ suc r) (suc-mul k (2 ^ r)) (pow-succ' 2 r)
  where
    step : (x : ℕ) → x < suc x
    step x = omega arith

    less : (r k : ℕ) → suc (suc r + k) - suc r ≡ suc k
    less r k = omega arith

    again : (r k : ℕ) → suc r + k ≡ r + suc k
    again r k = omega arith

    sum : (p a b c : ℕ) → b ≡ a + p → c ≡ 2 * p → b + p ≡ a + c
    sum p a b c e f = omega arith

encode : (r q k : ℕ) → q ≤ 2 ^ suc r → (0 < k → 2 ^ r ≤ q) → field r (q * 2 ^ k) ≡ k * 2 ^ r + q
encode r q k h l = go k l (eq-or-lt_of_le h)
  where
    few : (z r : ℕ) → z ≤ suc r → z - suc r ≡ 0
    few z r h = omega arith

    go : (k : ℕ) → (0 < k → 2 ^ r ≤ q) → (q ≡ 2 ^ suc r) ⊎ (q < 2 ^ suc r) → field r (q * 2 ^ k) ≡ k * 2 ^ r + q
    go k l (inl e) = subst (λ (y : ℕ). field r (y * 2 ^ k) ≡ k * 2 ^ r + y) (sym e) (over r k)
    go zero l (inr h) =
        at_size r (q * 1) 0 (few (size (q * 1)) r (size-le (q * 1) (suc r) (lt_of_le_of_lt (le_of_eq (mul-one q)) h)))
        ∙ ap (λ (x : ℕ). 0 * 2 ^ r + x) (div-one (q * 1) ∙ mul-one q)
    go (suc k) l (inr h) = at_size r (q * 2 ^ suc k) (suc k) (full r q (suc k) (l (zero-lt-suc k)) h) ∙ ap (λ (x : ℕ). suc k * 2 ^ r + x) (mul-div_cancel q (pow_pos (suc k)))

-- ---- the format's range

module _ (r M q k : ℕ) (h : q ≤ 2 ^ suc r) (l : 0 < k → 2 ^ r ≤ q) (two : 2 ≤ M) where
  within : q * 2 ^ k < 2 ^ (r + M) → k * 2 ^ r + q ≡ min (k * 2 ^ r + q) (suc M * 2 ^ r)
  within b =
      let g : k < M = lt_of_not-le (λ (g : M ≤ k). not-le_of_lt b (le_trans (le_of_eq (pow-add 2 r M)) (mul-le-mul (l (lt_of_lt_of_le (lt_of_lt_of_le (lit≤ tt) two) g)) (pow_mono g)))) in
      keep (2 ^ r) (k * 2 ^ r) (M * 2 ^ r) (suc M * 2 ^ r) q (suc-mul M (2 ^ r)) (le_trans (le_of_eq (sym (suc-mul k (2 ^ r)))) (mul-le-mul_right (2 ^ r) g)) (le_trans h (le_of_eq (pow-succ' 2 r)))
    where
      keep : (p a b c q : ℕ) → c ≡ b + p → a + p ≤ b → q ≤ 2 * p → a + q ≡ min (a + q) c
      keep p a b c q e f g = omega arith

  beyond : 2 ^ (r + M) ≤ q * 2 ^ k → suc M * 2 ^ r ≡ min (k * 2 ^ r + q) (suc M * 2 ^ r)
  beyond b = go (dec_le M k)
    where
      reach : M ≤ suc k
      reach = lt-of-not-lt (λ (g : suc k < M). not-le_of_lt (lt_of_le_of_lt (le_trans (mul-le-mul_right (2 ^ k) h) (le_of_eq (sym (pow-add 2 (suc r) k)))) (pow-lt (less r k M g))) b)
        where
          less : (r k M : ℕ) → suc k < M → suc r + k < r + M
          less r k M g = omega arith

          lt-of-not-lt : (suc k < M → ⊥) → M ≤ suc k
          lt-of-not-lt n = elim (dec_le M (suc k)) [ yes g ↦ g | no g ↦ absurd (n (lt_of_not-le g)) ]

      some : 0 < k
      some = few two reach
        where
          few : {M k : ℕ} → 2 ≤ M → M ≤ suc k → 0 < k
          few a b = omega arith

      last : (M ≤ k → ⊥) → 2 ^ suc r ≤ q
      last n = elim (dec_le (2 ^ suc r) q) [
        | yes g ↦ g
        | no g ↦
            absurd (not-le_of_lt (lt_of_lt_of_le (mul-lt-mul_of_pos_right (lt_of_not-le g) (pow_pos k)) (le_trans (le_of_eq (sym (pow-add 2 (suc r) k))) (pow_mono (same r k M (lt_of_not-le n))))) b)
      ]
        where
          same : (r k M : ℕ) → k < M → suc r + k ≤ r + M
          same r k M g = omega arith

      at_last : (p a b c q : ℕ) → c ≡ b + p → b ≤ a + p → 2 * p ≤ q → c ≡ min (a + q) c
      at_last p a b c q e f g = omega arith

      past : (p a b c q : ℕ) → c ≡ b + p → b ≤ a → p ≤ q → c ≡ min (a + q) c
      past p a b c q e f g = omega arith

      go : Dec (M ≤ k) → suc M * 2 ^ r ≡ min (k * 2 ^ r + q) (suc M * 2 ^ r)
      go (yes g) = past (2 ^ r) (k * 2 ^ r) (M * 2 ^ r) (suc M * 2 ^ r) q (suc-mul M (2 ^ r)) (mul-le-mul_right (2 ^ r) g) (l some)
      go (no n) = at_last (2 ^ r) (k * 2 ^ r) (M * 2 ^ r) (suc M * 2 ^ r) q (suc-mul M (2 ^ r)) (le_trans (mul-le-mul_right (2 ^ r) reach) (le_of_eq (suc-mul k (2 ^ r)))) (le_trans (le_of_eq (sym (pow-succ' 2 r))) (last n))

-- ---- the bits

value-bits : (f : Format) (v : Float) (s : Bool) (a : ℕ) → HasValue v s a (2 ^ low f) → to_bits f v ≡ cond s (top f) 0 + ((size a - prec f) * hid f + a / 2 ^ (size a - prec f))
unfolding to_bits
value-bits f nan s a h = absurd h
value-bits f (inf t) s a h = absurd h
value-bits f (fin t m e) s a h =
    let n : m * up e * 2 ^ low f / down e ≡ a = ap (λ (x : ℕ). x / down e) h.1 ∙ mul-div_cancel a (down_pos e) in
    ap₂ (λ (b : Bool) (x : ℕ). cond b (top f) 0 + (size x - prec f) * hid f + x / 2 ^ (size x - prec f)) h.0 n ∙ assoc (cond s (top f) 0) ((size a - prec f) * hid f) (a / 2 ^ (size a - prec f))
  where
    assoc : (x y z : ℕ) → x + y + z ≡ x + (y + z)
    assoc x y z = omega arith

infinite-bits : (f : Format) (s : Bool) → to_bits f (inf s) ≡ cond s (top f) 0 + ones f * hid f
unfolding to_bits
infinite-bits f s = refl

infinite : (f : Format) (s : Bool) (q k : ℕ) → 2 ^ (low f + suc (emax f)) ≤ q * 2 ^ k → units f s q k ≡ inf s
unfolding units
infinite f s q k h = ap (λ (b : Bool). cond b (odd (suc (prec f)) s q k (low f)) (inf s)) (le-ltb (q * 2 ^ k) (2 ^ (low f + suc (emax f))) h)

-- what the formats have in common
record Form (f : Format) (r M : ℕ) : Type 0 where
  digits : prec f ≡ suc r
  weight : hid f ≡ 2 ^ r
  fields : ones f ≡ suc M
  range : low f + suc (emax f) ≡ r + M
  enough : 2 ≤ M

bits_at : (f : Format) (r M : ℕ) → Form f r M → (s : Bool) (q k : ℕ) → q ≤ 2 ^ prec f → (0 < k → hid f ≤ q) → to_bits f (units f s q k) ≡ cond s (top f) 0 + min (k * hid f + q) (ones f * hid f)
bits_at f r M w s q k h l = go (dec_le (2 ^ (low f + suc (emax f))) (q * 2 ^ k))
  where
    h' : q ≤ 2 ^ suc r
    h' = subst (λ (x : ℕ). q ≤ 2 ^ x) w.digits h

    l' : 0 < k → 2 ^ r ≤ q
    l' p = subst (λ (x : ℕ). x ≤ q) w.weight (l p)

    -- in the format's own words
    named : (n : ℕ) → n ≡ min (k * 2 ^ r + q) (suc M * 2 ^ r) → cond s (top f) 0 + n ≡ cond s (top f) 0 + min (k * hid f + q) (ones f * hid f)
    named n e = ap (λ (x : ℕ). cond s (top f) 0 + x) (e ∙ ap₂ (λ (p o : ℕ). min (k * p + q) (o * p)) (sym w.weight) (sym w.fields))

    go : Dec (2 ^ (low f + suc (emax f)) ≤ q * 2 ^ k) → to_bits f (units f s q k) ≡ cond s (top f) 0 + min (k * hid f + q) (ones f * hid f)
    go (yes b) =
        ap (to_bits f) (infinite f s q k b) ∙ infinite-bits f s
        ∙ ap₂ (λ (o p : ℕ). cond s (top f) 0 + o * p) w.fields w.weight
        ∙ named (suc M * 2 ^ r) (beyond r M q k h' l' w.enough (subst (λ (x : ℕ). 2 ^ x ≤ q * 2 ^ k) w.range b))
    go (no n) =
        let b : q * 2 ^ k < 2 ^ (low f + suc (emax f)) = lt_of_not-le n in
        value-bits f (units f s q k) s (q * 2 ^ k) (units_val f s q k b)
        ∙ ap₂ (λ (z p : ℕ). cond s (top f) 0 + ((size (q * 2 ^ k) - z) * p + q * 2 ^ k / 2 ^ (size (q * 2 ^ k) - z))) w.digits w.weight
        ∙ ap (λ (x : ℕ). cond s (top f) 0 + x) (encode r q k h' l')
        ∙ named (k * 2 ^ r + q) (within r M q k h' l' w.enough (subst (λ (x : ℕ). q * 2 ^ k < 2 ^ x) w.range b))

pub coded : (f : Format) (s : Bool) (q k : ℕ) → q ≤ 2 ^ prec f → (0 < k → hid f ≤ q) → to_bits f (units f s q k) ≡ cond s (top f) 0 + min (k * hid f + q) (ones f * hid f)
coded binary32 = bits_at binary32 23 254 (record { digits = refl; weight = refl; fields = refl; range = refl; enough = lit≤ tt })
coded binary64 = bits_at binary64 52 2046 (record { digits = refl; weight = refl; fields = refl; range = refl; enough = lit≤ tt })

-- q * 2 ^ k is held by the format, or is an infinity
pub units-fits : (f : Format) (s : Bool) (q k : ℕ) → q ≤ 2 ^ prec f → T (fits f (units f s q k))
unfolding units
units-fits f s q k h = go (ltb (q * 2 ^ k) (2 ^ (low f + suc (emax f)))) (ltb→lt (q * 2 ^ k) (2 ^ (low f + suc (emax f))))
  where
    few : q < 2 ^ suc (prec f)
    few = lt_of_le_of_lt h (pow-lt (step (prec f)))
      where
        step : (x : ℕ) → x < suc x
        step x = omega arith

    go : (b : Bool) → (T b → q * 2 ^ k < 2 ^ (low f + suc (emax f))) → T (fits f (cond b (odd (suc (prec f)) s q k (low f)) (inf s)))
    go true l = odd-fits f (suc (prec f)) s q k few h (l tt)
    go false l = inf-fits f s

pub read-coded : (f : Format) (s : Bool) (q k : ℕ) → q ≤ 2 ^ prec f → (0 < k → hid f ≤ q) → of_bits f (cond s (top f) 0 + min (k * hid f + q) (ones f * hid f)) ≡ units f s q k
read-coded f s q k h l = ap (of_bits f) (sym (coded f s q k h l)) ∙ of_bits-to_bits f (units f s q k) (units-fits f s q k h)

-- no such pattern is a NaN's
pub no-nan-coded : (f : Format) (s : Bool) (n : ℕ) → n ≤ ones f * hid f → T (not (nan_bits f (cond s (top f) 0 + n)))
no-nan-coded f s n h = no-nan-pattern f (cond s (top f) 0 + n) (le_trans (le_of_eq (below s)) h)
  where
    small : n < top f
    small = lt_of_le_of_lt h (room f)
      where
        room : (f : Format) → ones f * hid f < top f
        room binary32 = lit< tt
        room binary64 = lit< tt

    below : (s : Bool) → (cond s (top f) 0 + n) % top f ≡ n
    below true = add-mod_left (top f) n ∙ mod-eq_of_lt small
    below false = ap (λ (x : ℕ). x % top f) (zero-add n) ∙ mod-eq_of_lt small
