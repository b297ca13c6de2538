-- The digits that `io::decimal` gives are those of `decimal`, and no number has more than 20 of them.
use Rattle.std.proofs.Common.{◌≡◌, ℕ, zero, suc, ◌+◌, ◌-◌, ◌/◌, ◌%◌, ◌^◌, ◌<◌, ◌≤◌, [], ◌∷◌, length, sym, refl, ap, pow-suc, lt_of_not-le, arith, length-append, le-ltb, lt-ltb}
use native.Mathlib.Nat.{one-le-pow, pow-le-pow_right}
use native.Mathlib.Decide.{dec_le}
use Rattle.io.specs.Digits.{hex_digit_ascii, last_digits, IsDigitCount}
use Rattle.line_text.specs.Line.{digits_within, decimal}

pub digits-length : (k n : ℕ) → length (digits_within k n) ≤ k
unfolding digits_within
digits-length zero n = omega arith
digits-length (suc k) n = elim (dec_le 10 n) [
  | yes h ↦ rw (le-ltb n 10 h) (omega (arith, length-append (digits_within k (n / 10)) ((48 + n % 10) ∷ []), digits-length k (n / 10)))
  | no h ↦ rw (lt-ltb n 10 (lt_of_not-le h)) (omega arith)
]

pub decimal-length : (n : ℕ) → length (decimal n) ≤ 20
unfolding decimal
decimal-length n = digits-length 20 n

-- ---- the fewest digits

glyph_last : (n : ℕ) → hex_digit_ascii (n % 10) ≡ 48 + n % 10
glyph_last n = rw (lt-ltb (n % 10) 10 (omega arith))

one_less : (r : ℕ) → 10 ^ (suc r - 1) ≡ 10 ^ r
one_less r = ap (λ (k : ℕ). 10 ^ k) (omega arith)

small : (r n : ℕ) → n < 10 → IsDigitCount 10 1 n (suc r) → r ≡ 0
small zero n h f = refl
small (suc r) n h f =
    absurd (omega (arith, f.2 (omega arith), one_less (suc r), pow-suc 10 r, one-le-pow r 10 (omega arith)))

tenth : (r n : ℕ) → 10 ≤ n → IsDigitCount 10 1 n (suc r) → IsDigitCount 10 1 (n / 10) r
tenth zero n h f = absurd (omega (arith, f.1))
tenth (suc r) n h f = (omega arith, omega (arith, f.1, pow-suc 10 (suc r)), λ g. omega (arith, f.2 (omega arith), one_less r, one_less (suc r), pow-suc 10 r))

pub digits-within : (k r n : ℕ) → r ≤ k → IsDigitCount 10 1 n r → digits_within k n ≡ last_digits 10 r n
unfolding digits_within
digits-within k zero n h f = absurd (omega (arith, f.0))
digits-within zero (suc r) n h f = absurd (omega arith)
digits-within (suc k) (suc r) n h f = elim (dec_le 10 n) [
  | yes g ↦ rw (le-ltb n 10 g, digits-within k r (n / 10) (omega arith) (tenth r n g f), glyph_last n)
  | no g ↦ rw (lt-ltb n 10 (lt_of_not-le g), small r n (lt_of_not-le g) f, glyph_last n)
]

at-most_20 : (r n : ℕ) → n < 2 ^ 64 → (1 < r → 10 ^ (r - 1) ≤ n) → r ≤ 20
at-most_20 r n h fewest = elim (dec_le r 20) [
  | yes g ↦ g
  | no g ↦
      let b : 20 ≤ r - 1 = omega arith in
      let a : 10 ^ 20 ≤ 10 ^ (r - 1) = pow-le-pow_right (omega arith) b in
      absurd (omega (arith, fewest (omega arith), a))
]

pub decimal-digits : (r n : ℕ) → n < 2 ^ 64 → IsDigitCount 10 1 n r → last_digits 10 r n ≡ decimal n
unfolding decimal
decimal-digits r n h f = sym (digits-within 20 r n (at-most_20 r n h f.2) f)
