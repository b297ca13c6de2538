-- Laws of words that stand in a list, of rules, and of one value as a word: what is written is read back, and a good value is read.
use mathlib.Core.Path.{◌≡◌, refl, sym, ap, ◌∙◌}
use mathlib.Core.Bool.{Bool, true, false, not, ◌&&◌, cond}
use mathlib.Core.List.{List, ◌∷◌, ◌++◌}
use Prim.Native.Nat.{ℕ, zero, suc, ◌+◌, ◌*◌, ◌/◌, ◌%◌, ◌^◌, ◌≤◌, ◌<◌, suc-le-suc, zero-le}
use native.Mathlib.Nat.{zero-add, add-zero}
use native.Mathlib.Omega.{arith}
use borrow.Author.Tests.{lt-ltb, le-ltb, ltb-true, eqb-true, eqb-false}
use mir.Val.{bool_byte}
use lib.Dec.{T, ltb, leb, eqb, lit<}
use lib.ListN.{length, get_or, length-append, get_or-append}
use lib.Seq.{get_or-append-add}
use lib.Ieee.{Float, nan, inf, Format, binary32, binary64, prec, low, hid, ones, top, odd, of_fields, of_bits, to_bits}
use lib.Ieee.Bits.{is_true, of_bits-to_bits, of_bits-fits, to_bits-lt}
use lib.Ieee.Scale.{finite}
use Rattle.float.specs.Valid.{Num}
use Rattle.codec.specs.Fields.{infinite, zero_of, num_of, capped, flag_bits, ruled}
use Rattle.codec.specs.Codec.{Here}

-- ---- words that stand in a list

pub here-all : (l : List ℕ) → Here l 0 l
here-all l = record { at = λ k h. rw zero-add }

pub here-head : {l : List ℕ} {i x : ℕ} {xs : List ℕ} → Here l i (x ∷ xs) → get_or l i 0 ≡ x
here-head {l} {i} {x} {xs} h = rw add-zero at (h.at 0 (suc-le-suc zero-le))

pub here-front : {l : List ℕ} {i : ℕ} (xs ys : List ℕ) → Here l i (xs ++ ys) → Here l i xs
here-front xs ys h = record { at = λ k b. h.at k (rw length-append (omega arith)) ∙ get_or-append xs ys 0 k b }

pub here-rest : {l : List ℕ} {i n : ℕ} (xs ys : List ℕ) → length xs ≡ n → Here l i (xs ++ ys) → Here l (i + n) ys
here-rest {l} {i} {n} xs ys e h = record {
  at = λ k b.
      let p : i + n + k ≡ i + (length xs + k) = omega arith in
      rw p (h.at (length xs + k) (rw length-append (omega arith)) ∙ get_or-append-add xs ys k 0);
}

-- ---- rules

pub true-T : {b : Bool} → b ≡ true → T b
true-T {b} e = rw e tt

pub ruled-same : {A : Type 0} (p : A → Bool) (d a : A) → T (p a) → ruled p d a ≡ a
unfolding ruled
ruled-same p d a t = rw (is_true (p a) t)

pub ruled-other : {A : Type 0} (p : A → Bool) (d a : A) → p a ≡ false → ruled p d a ≡ d
unfolding ruled
ruled-other p d a e = rw e

pub ruled_ok : {A : Type 0} (P : A → Type 0) (p : A → Bool) (d a : A) → P d → T (p d) → P a → P (ruled p d a) × T (p (ruled p d a))
unfolding ruled
ruled_ok {A} P p d a pd td pa = go (p a) refl
  where
    go : (b : Bool) → p a ≡ b → P (cond b a d) × T (p (cond b a d))
    go true e = (pa, true-T e)
    go false e = (pd, td)

-- ---- a number below n

pub capped_same : (n w : ℕ) → w < n → capped n w ≡ w
unfolding capped
capped_same n w h = rw (lt-ltb w n h)

pub capped-lt : (n w : ℕ) → 0 < n → capped n w < n
unfolding capped
capped-lt n w p = go (ltb w n) refl
  where
    go : (b : Bool) → ltb w n ≡ b → cond b w 0 < n
    go true e = ltb-true w n e
    go false e = p

-- ---- a flag

-- `u64::from` of a flag
pub flag-from : (b : Bool) → bool_byte b ≡ flag_bits b
flag-from true = refl
flag-from false = refl

pub flag-back : (b : Bool) → Unit {0} → eqb (flag_bits b) 1 ≡ b
flag-back true u = refl
flag-back false u = refl

pub flag_small : (b : Bool) → Unit {0} → flag_bits b < 2 ^ 64
flag_small true u = lit< tt
flag_small false u = lit< tt

-- ---- a finite float

odd-finite : (d : ℕ) (s : Bool) (q k l : ℕ) → finite (odd d s q k l) ≡ true
unfolding odd
odd-finite d s zero k l = refl
odd-finite d s (suc q) k l = refl

fields-finite : (a b : Bool) (s : Bool) (v : Float) → finite v ≡ true → finite (cond a (cond b (inf s) nan) v) ≡ not a
fields-finite true true s v h = refl
fields-finite true false s v h = refl
fields-finite false b s v h = h

of_fields-finite : (f : Format) (s : Bool) (x t : ℕ) → finite (of_fields f s x t) ≡ not (eqb x (ones f))
unfolding of_fields
of_fields-finite binary32 s zero t = odd-finite (prec binary32) s t 0 (low binary32)
of_fields-finite binary64 s zero t = odd-finite (prec binary64) s t 0 (low binary64)
of_fields-finite binary32 s (suc x) t = fields-finite (eqb (suc x) (ones binary32)) (eqb t 0) s (odd (prec binary32) s (hid binary32 + t) x (low binary32)) (odd-finite (prec binary32) s (hid binary32 + t) x (low binary32))
of_fields-finite binary64 s (suc x) t = fields-finite (eqb (suc x) (ones binary64)) (eqb t 0) s (odd (prec binary64) s (hid binary64 + t) x (low binary64)) (odd-finite (prec binary64) s (hid binary64 + t) x (low binary64))

not_eqb : (x o r p : ℕ) → (x ≡ o → p ≤ r) → ((x ≡ o → ⊥) → r < p) → not (eqb x o) ≡ ltb r p
not_eqb x o r p a b = go (eqb x o) refl
  where
    go : (z : Bool) → eqb x o ≡ z → not z ≡ ltb r p
    go true e = sym (le-ltb r p (a (eqb-true x o e)))
    go false e = sym (lt-ltb r p (b (eqb-false x o e)))

-- a pattern stands for a finite number where its exponent's field is not all ones
pub of_bits-finite : (f : Format) (w : ℕ) → finite (of_bits f w) ≡ ltb (w % top f) (infinite f)
unfolding of_bits
of_bits-finite binary32 w =
    of_fields-finite binary32 (leb (top binary32) w) (w % top binary32 / hid binary32) (w % hid binary32)
    ∙ not_eqb (w % top binary32 / hid binary32) (ones binary32) (w % top binary32) (infinite binary32) (λ e. omega arith) (λ e. omega arith)
of_bits-finite binary64 w =
    of_fields-finite binary64 (leb (top binary64) w) (w % top binary64 / hid binary64) (w % hid binary64)
    ∙ not_eqb (w % top binary64 / hid binary64) (ones binary64) (w % top binary64) (infinite binary64) (λ e. omega arith) (λ e. omega arith)

pub zero-num : (f : Format) → Num f (zero_of f)
zero-num binary32 = (true-T (of_bits-finite binary32 0), of_bits-fits binary32 0)
zero-num binary64 = (true-T (of_bits-finite binary64 0), of_bits-fits binary64 0)

-- what is written is read back
pub num_of-back : (f : Format) (x : Float) → Num f x → num_of f (to_bits f x) ≡ x
unfolding num_of
num_of-back f x h =
    let e : of_bits f (to_bits f x) ≡ x = of_bits-to_bits f x h.1 in
    let a : ltb (to_bits f x % top f) (infinite f) ≡ true = sym (of_bits-finite f (to_bits f x)) ∙ ap finite e ∙ is_true (finite x) h.0 in
    rw (a, lt-ltb (to_bits f x) (2 * top f) (to_bits-lt f x h.1)) e

-- whatever the word, a finite number is read
pub num_of-num : (f : Format) (w : ℕ) → Num f (num_of f w)
unfolding num_of
num_of-num f w = go (ltb (w % top f) (infinite f)) (ltb w (2 * top f)) refl
  where
    go : (a b : Bool) → ltb (w % top f) (infinite f) ≡ a → Num f (cond (a && b) (of_bits f w) (zero_of f))
    go true true e = (true-T (of_bits-finite f w ∙ e), of_bits-fits f w)
    go true false e = zero-num f
    go false true e = zero-num f
    go false false e = zero-num f

pub bits_fit : (f : Format) (x : Float) → Num f x → to_bits f x < 2 ^ 64
bits_fit binary32 x h = omega (arith, to_bits-lt binary32 x h.1)
bits_fit binary64 x h = omega (arith, to_bits-lt binary64 x h.1)
