-- Newest first: what the Rust's `iter().rev().take(n)` sees, and that the newest of a count's places are some, and then those further down.
use Prim.Native.Nat.{ℕ, zero, suc, ◌+◌, ◌-◌, ◌≤◌, ◌<◌, min}
use native.Mathlib.Numerals.{sub-one}
use native.Mathlib.Nat.{zero-add, suc-add}
use native.Mathlib.Omega.{arith}
use mathlib.Core.Path.{◌≡◌, refl, ap, sym, ◌∙◌}
use mathlib.Core.List.{List, [], ◌∷◌, ◌++◌, reverse, reverse-append, reverse-reverse}
use lib.ListN.{length, get_or, take, drop, length-take, length-drop, length-reverse, take-append-drop}
use lib.Seq.{drop_at, take-suc, take-nil, take-take}
use Rattle.sequence.specs.History.{latest, newest, held}

module _ {A : Type 0} where
  pub newest-length : (n : ℕ) (xs : List A) → length (newest n xs) ≡ min n (length xs)
  unfolding newest
  newest-length n xs = length-take n (reverse xs) ∙ ap (min n) (length-reverse xs)

  -- ---- down from place c, with k values to take

  newest-more : (d : A) (places : List A) (c k : ℕ) → c < length places
      → newest (suc k) (held (suc c) places) ≡ get_or places c d ∷ newest k (held c places)
  unfolding newest
  newest-more d places c k h =
      ap (λ (l : List A). take (suc k) (reverse l)) (take-suc places c d h)
      ∙ ap (take (suc k)) (reverse-append (take c places) (get_or places c d ∷ []))

  pub newest-turn : (d : A) (places : List A) (c k : ℕ) → 0 < c → c ≤ length places → 0 < k
      → newest k (held c places) ≡ get_or places (c - 1) d ∷ newest (k - 1) (held (c - 1) places)
  newest-turn d places zero k p h q = absurd (omega arith)
  newest-turn d places (suc c) zero p h q = absurd (omega arith)
  newest-turn d places (suc c) (suc k) p h q = rw (sub-one, sub-one) (newest-more d places c k (omega arith))

  -- no place is left, or no value is wanted
  pub newest-none : (places : List A) (c k : ℕ) → c ≡ 0 → newest k (held c places) ≡ []
  unfolding newest
  newest-none places zero k h = take-nil k
  newest-none places (suc c) k h = absurd (omega arith)

  pub newest-enough : (xs : List A) (k : ℕ) → k ≡ 0 → newest k xs ≡ []
  unfolding newest
  newest-enough xs zero h = refl
  newest-enough xs (suc k) h = absurd (omega arith)

  -- m values, then k more from m places further down
  pub newest-add : (d : A) (places : List A) (c m k : ℕ) → c ≤ length places
      → newest (m + k) (held c places) ≡ newest m (held c places) ++ newest k (held (c - m) places)
  newest-add d places c zero k h =
      let e : c ≡ c - 0 = omega arith in
      ap (λ (n : ℕ). newest n (held c places)) (zero-add k)
      ∙ ap (λ (n : ℕ). newest k (held n places)) e
      ∙ ap (λ (l : List A). l ++ newest k (held (c - 0) places)) (sym (newest-enough (held c places) 0 refl))
  newest-add d places zero (suc m) k h =
      newest-none places 0 (suc m + k) refl
      ∙ sym (ap (λ (l : List A). l ++ newest k (held (0 - suc m) places)) (newest-none places 0 (suc m) refl) ∙ newest-none places (0 - suc m) k (omega arith))
  newest-add d places (suc c) (suc m) k h =
      let e : c - m ≡ suc c - suc m = omega arith in
      ap (λ (n : ℕ). newest n (held (suc c) places)) (suc-add m k)
      ∙ newest-more d places c (m + k) h
      ∙ ap {B = List A} (λ (l : List A). get_or places c d ∷ l) (newest-add d places c m k (omega arith))
      ∙ ap (λ (n : ℕ). get_or places c d ∷ newest m (held c places) ++ newest k (held n places)) e
      ∙ ap (λ (l : List A). l ++ newest k (held (suc c - suc m) places)) (sym (newest-more d places c m h))

  -- ---- the latest n, newest first

  pub latest-reverse : (n : ℕ) (xs : List A) → latest n (reverse xs) ≡ reverse (take n xs)
  unfolding latest
  latest-reverse n xs =
      ap (λ (l : List A). drop (length (reverse xs) - n) (reverse l)) (sym (take-append-drop n xs))
      ∙ ap (drop (length (reverse xs) - n)) (reverse-append (take n xs) (drop n xs))
      ∙ drop_at (reverse (drop n xs)) (reverse (take n xs)) (length (reverse xs) - n) (simp (length-reverse, length-drop))

  pub newest-latest : (n : ℕ) (xs : List A) → newest n xs ≡ reverse (latest n xs)
  unfolding newest
  newest-latest n xs =
      sym (reverse-reverse (take n (reverse xs)))
      ∙ ap reverse (sym (latest-reverse n (reverse xs)) ∙ ap (latest n) (reverse-reverse xs))

  -- of a deque that holds the latest m of what stands newest first in xs
  pub newest-of-latest : (n m : ℕ) (xs : List A) → n ≤ m → newest n (latest m (reverse xs)) ≡ take n xs
  unfolding newest
  newest-of-latest n m xs h =
      ap (λ (l : List A). take n (reverse l)) (latest-reverse m xs)
      ∙ ap (take n) (reverse-reverse (take m xs))
      ∙ take-take n m xs h
