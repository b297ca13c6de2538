-- What the bits of an f64 tell of its kind, and what its kind tells of it.
use Rattle.std.proofs.Common.{◌≡◌, ℕ, zero, suc, ◌+◌, ◌-◌, ◌*◌, ◌/◌, ◌%◌, ◌^◌, ◌<◌, ◌≤◌, Bool, true, false, cond, not, T, leb, ℤ, sym, refl, ap, ◌∙◌, subst, ap₂, lt_of_lt_of_le, lt_irrefl, mod-eq_of_lt, zero-lt-suc, lt_of_not-le, zero-add, arith, lit<, lit≤, true≢false, eq-eqb, ne_eqb, le-leb}
use native.Mathlib.Decide.{dec_le}
use native.Mathlib.Nat.{div-eq_of_lt}
use borrow.Author.Tests.{lt-leb}
use lib.Ieee.{Float, nan, inf, fin, binary64, size, fits, is_nan, to_bits}
use Rattle.float.specs.Units.{units_of}
use Rattle.float.specs.Kind.{parts, parts_of, kind_of, field_parts}
use Rattle.float.specs.declared.Parts.{Parts}
use Rattle.float.specs.declared.Kind.TheVariants.{NotANumber, Infinite, Finite}
use Rattle.float.proofs.Units.{Split, split}

-- ---- from the bits to the kind

pub no_number : (x : Float) → is_nan x ≡ true → NotANumber ≡ kind_of x
unfolding kind_of is_nan
no_number nan h = refl
no_number (inf s) h = absurd (true≢false (sym h))
no_number (fin s m e) h = absurd (true≢false (sym h))

-- the sign and what is below it
abbrev sign : Bool → ℕ
sign s = cond s (2 ^ 63) 0

above : (s : Bool) (a b : ℕ) → b ≡ sign s + a → a < 2 ^ 63 → (leb (2 ^ 63) b ≡ s) × (b % 2 ^ 63 ≡ a)
above true a b e h = (le-leb (2 ^ 63) b (omega arith), omega arith)
above false a b e h = (lt-leb (2 ^ 63) b (omega arith), omega arith)

abbrev coded : ℕ → ℕ
coded n = (size n - 53) * 2 ^ 52 + n / 2 ^ (size n - 53)

bits_are : (s : Bool) (m : ℕ) (e : ℤ) → to_bits binary64 (fin s m e) ≡ sign s + coded (units_of (fin s m e))
unfolding to_bits units_of
bits_are s m e = assoc (sign s) ((size n - 53) * 2 ^ 52) (n / 2 ^ (size n - 53))
  where
    n : ℕ
    n = units_of (fin s m e)

    assoc : (x y z : ℕ) → x + y + z ≡ x + (y + z)
    assoc x y z = omega arith

fields_are : (s : Bool) (q k a : ℕ) → a ≡ k * 2 ^ 52 + q → q < 2 ^ 53 → (0 < k → 2 ^ 52 ≤ q) → field_parts s a ≡ parts s q k
unfolding field_parts
fields_are s q k a e h l = elim (dec_le (2 ^ 52) a) [
  | yes g ↦
      let r : 2 ^ 52 ≤ q = reach q k a e g l in
      ap (λ (b : Bool). cond b low high) (ne_eqb (a / 2 ^ 52) 0 (some a g)) ∙ ap₂ (parts s) (digits q k a e r h) (field q k a e r h)
  | no n ↦
      let g : a < 2 ^ 52 = lt_of_not-le n in
      let z : k ≡ 0 = none q k a e g in
      ap (λ (b : Bool). cond b low high) (eq-eqb (a / 2 ^ 52) 0 (div-eq_of_lt g)) ∙ ap₂ (parts s) (mod-eq_of_lt g ∙ e ∙ ap (λ (x : ℕ). x * 2 ^ 52 + q) z ∙ zero-add q) (sym z)
]
  where
    low : Parts
    low = parts s (a % 2 ^ 52) 0

    high : Parts
    high = parts s (2 ^ 52 + a % 2 ^ 52) (a / 2 ^ 52 - 1)

    none : (q k a : ℕ) → a ≡ k * 2 ^ 52 + q → a < 2 ^ 52 → k ≡ 0
    none q k a e g = omega arith

    some : (a : ℕ) → 2 ^ 52 ≤ a → a / 2 ^ 52 ≡ 0 → ⊥
    some a g z = omega arith

    reach : (q k a : ℕ) → a ≡ k * 2 ^ 52 + q → 2 ^ 52 ≤ a → (0 < k → 2 ^ 52 ≤ q) → 2 ^ 52 ≤ q
    reach q zero a e g l = omega arith
    reach q (suc k) a e g l = l (zero-lt-suc k)

    digits : (q k a : ℕ) → a ≡ k * 2 ^ 52 + q → 2 ^ 52 ≤ q → q < 2 ^ 53 → 2 ^ 52 + a % 2 ^ 52 ≡ q
    digits q k a e r h = omega arith

    field : (q k a : ℕ) → a ≡ k * 2 ^ 52 + q → 2 ^ 52 ≤ q → q < 2 ^ 53 → a / 2 ^ 52 - 1 ≡ k
    field q k a e r h = omega arith

-- the bits of a finite value below the sign
coded-lt : (s : Bool) (m : ℕ) (e : ℤ) → T (fits binary64 (fin s m e)) → coded (units_of (fin s m e)) < 2047 * 2 ^ 52
coded-lt s m e t = let p = split s m e t in sum p.short p.range
  where
    sum : {q k : ℕ} → q < 2 ^ 53 → k < 2046 → k * 2 ^ 52 + q < 2047 * 2 ^ 52
    sum h l = omega arith

finite-bits : (s : Bool) (m : ℕ) (e : ℤ) → T (fits binary64 (fin s m e)) → (leb (2 ^ 63) (to_bits binary64 (fin s m e)) ≡ s) × (to_bits binary64 (fin s m e) % 2 ^ 63 ≡ coded (units_of (fin s m e)))
finite-bits s m e t = above s (coded (units_of (fin s m e))) (to_bits binary64 (fin s m e)) (bits_are s m e) (lt_of_lt_of_le (coded-lt s m e t) (lit≤ tt))

infinite-bits : (s : Bool) → (leb (2 ^ 63) (to_bits binary64 (inf s)) ≡ s) × (to_bits binary64 (inf s) % 2 ^ 63 ≡ 2047 * 2 ^ 52)
unfolding to_bits
infinite-bits s = above s (2047 * 2 ^ 52) (to_bits binary64 (inf s)) refl (lit< tt)

pub infinite : (x : Float) → T (fits binary64 x) → T (not (is_nan x)) → to_bits binary64 x % 2 ^ 63 ≡ 2047 * 2 ^ 52 → Infinite (leb (2 ^ 63) (to_bits binary64 x)) ≡ kind_of x
unfolding kind_of is_nan
infinite nan t n h = absurd n
infinite (inf s) t n h = ap Infinite (infinite-bits s).0
infinite (fin s m e) t n h = absurd (lt_irrefl (2047 * 2 ^ 52) (subst (λ (a : ℕ). a < 2047 * 2 ^ 52) (sym (finite-bits s m e t).1 ∙ h) (coded-lt s m e t)))

pub finite : (x : Float) → T (fits binary64 x) → T (not (is_nan x)) → (to_bits binary64 x % 2 ^ 63 ≡ 2047 * 2 ^ 52 → ⊥) → Finite (field_parts (leb (2 ^ 63) (to_bits binary64 x)) (to_bits binary64 x % 2 ^ 63)) ≡ kind_of x
unfolding kind_of is_nan parts_of
finite nan t n h = absurd n
finite (inf s) t n h = absurd (h (infinite-bits s).1)
finite (fin s m e) t n h =
    let u = units_of (fin s m e) in
    let p = split s m e t in
    ap Finite (ap (λ (b : Bool). field_parts b (to_bits binary64 (fin s m e) % 2 ^ 63)) (finite-bits s m e t).0
    ∙ fields_are s (u / 2 ^ (size u - 53)) (size u - 53) (to_bits binary64 (fin s m e) % 2 ^ 63) (finite-bits s m e t).1 p.short p.normal)

-- ---- from the kind to the value

apart : ◌≡◌ {A = ℕ} 0 1 → ⊥
apart e = omega arith

pub is-nan : (x : Float) → kind_of x ≡ NotANumber → x ≡ nan
unfolding kind_of
is-nan nan h = refl
is-nan (inf s) h = absurd (apart (cc))
is-nan (fin s m e) h = absurd (apart (cc))

pub is-infinite : (x : Float) (s : Bool) → kind_of x ≡ Infinite s → x ≡ inf s
unfolding kind_of
is-infinite nan s h = absurd (apart (cc))
is-infinite (inf t) s h = let e : t ≡ s = cc in ap inf e
is-infinite (fin t m e) s h = absurd (apart (cc))

-- A finite x is p's sign and p's units, and a function g of sign and units that equals F at every finite value equals it at x.
pub record IsFinite (x : Float) (p : Parts) : Type 1 where
  pub parts_of : Split (units_of x) p.sig p.exp
  pub by_units : {A : Type 0} (F : Float → A) (g : Bool → ℕ → A) → ((s : Bool) (m : ℕ) (e : ℤ) → F (fin s m e) ≡ g s (units_of (fin s m e))) → g p.negative (p.sig * 2 ^ p.exp) ≡ F x

own-parts : (s : Bool) (m : ℕ) (e : ℤ) → T (fits binary64 (fin s m e)) → IsFinite (fin s m e) (parts_of s (units_of (fin s m e)))
unfolding parts_of
own-parts s m e t = let w = split s m e t in record { parts_of = w; by_units = λ F g h. ap (g s) w.whole ∙ sym (h s m e) }

pub is_finite : (x : Float) (p : Parts) → T (fits binary64 x) → kind_of x ≡ Finite p → IsFinite x p
unfolding kind_of
is_finite nan p t h = absurd (apart (cc))
is_finite (inf s) p t h = absurd (apart (cc))
is_finite (fin s m e) p t h = let i : parts_of s (units_of (fin s m e)) ≡ p = cc in subst (λ (p : Parts). IsFinite (fin s m e) p) i (own-parts s m e t)
