-- A part of a slice that may end with it, and an array's places one by one.
use Prim.Native.Nat.{ℕ, zero, suc, ◌+◌, ◌-◌, ◌≤◌, min}
use native.Mathlib.Omega.{arith}
use mathlib.Core.Path.{◌≡◌, refl, ap, sym, ◌∙◌}
use mathlib.Core.List.{List, [], ◌∷◌}
use lib.Dec.{leb}
use mathlib.Core.Bool.{Bool, true, false}
use lib.ListN.{length, take, drop, get_or, length-drop, drop_of_length-le}
use lib.Seq.{take_all, take-nil, drop-cons}
use borrow.Author.Tests.{leb-true, leb-false}

module _ {A : Type 0} (xs : List A) (s n : ℕ) where
  -- from s on n values, or as many as there are
  pub cut : take (min (min s (length xs) + n) (length xs) - min s (length xs)) (drop (min s (length xs)) xs) ≡ take n (drop s xs)
  cut = go (leb s (length xs)) refl
    where
      inside : s ≤ length xs → (b : Bool) → leb (s + n) (length xs) ≡ b → take (min (s + n) (length xs) - s) (drop s xs) ≡ take n (drop s xs)
      inside h true e =
          let l = leb-true (s + n) (length xs) e in
          let m : min (s + n) (length xs) - s ≡ n = omega arith in
          rw m
      inside h false e =
          let l = leb-false (s + n) (length xs) e in
          take_all (min (s + n) (length xs) - s) (drop s xs) (omega (arith, length-drop s xs)) ∙ sym (take_all n (drop s xs) (omega (arith, length-drop s xs)))

      go : (b : Bool) → leb s (length xs) ≡ b → take (min (min s (length xs) + n) (length xs) - min s (length xs)) (drop (min s (length xs)) xs) ≡ take n (drop s xs)
      go true e =
          let l = leb-true s (length xs) e in
          let m : min s (length xs) ≡ s = omega arith in
          rw m (inside l (leb (s + n) (length xs)) refl)
      go false e =
          let l = leb-false s (length xs) e in
          let k = min (min s (length xs) + n) (length xs) - min s (length xs) in
          ap (take k) (drop_of_length-le xs {i = min s (length xs)} (omega arith))
          ∙ take-nil k
          ∙ sym (ap (take n) (drop_of_length-le xs {i = s} (omega arith)) ∙ take-nil n)

-- ---- an array's places, one by one

module _ {A : Type 0} (d : A) where
  abbrev pub places : List A → ℕ → ℕ → List A
  places l k zero = []
  places l k (suc n) = get_or l k d ∷ places l (suc k) n

  pub places-from : (n k : ℕ) (l : List A) → length l ≡ k + n → places l k n ≡ drop k l
  places-from zero k l e = sym (drop_of_length-le l {i = k} (omega (arith, e)))
  places-from (suc n) k l e =
      ap (λ (r : List A). get_or l k d ∷ r) (places-from n (suc k) l (omega (arith, e))) ∙ sym (drop-cons l k d (omega (arith, e)))
