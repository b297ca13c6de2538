-- The laws that a loop cites which stops at the first element that fails a test, what `iter().all` answers, and what the test of all says of each.
-- Over any element.
use Prim.Native.Nat.{ℕ, zero, suc, ◌+◌, ◌≤◌, ◌<◌}
use native.Mathlib.Numerals.{add-one}
use native.Mathlib.Omega.{arith}
use mathlib.Core.Bool.{Bool, true, false, ◌&&◌}
use mathlib.Core.Path.{◌≡◌, refl}
use mathlib.Core.List.{List, [], ◌∷◌}
use lib.Dec.{T}
use lib.ListN.{length, drop, get_or, drop_of_length-le}
use lib.Seq.{drop-cons}
use lib.Ieee.Fits.{and_i, and_l, and_r}
use Rattle.std.specs.Bool.{MatchBool}
use Rattle.std.specs.List.{AllWithin, HoldsAt}
use Rattle.sequence.specs.All.{all}

module _ {A : Type 0} (p : A → Bool) where
  -- one turn, which tests the element at i; d is what `get_or` answers past the end
  module _ (d : A) (xs : List A) (i : ℕ) (b : Bool) (e : b ≡ p (get_or xs i d)) where
    pub all-turn : b ≡ true → i < length xs → all p (drop (i + 1) xs) ≡ all p (drop i xs)
    all-turn t h = rw (add-one, drop-cons xs i d, ← e, t)

    pub all-stop : b ≡ false → i < length xs → false ≡ all p (drop i xs)
    all-stop t h = rw (drop-cons xs i d, ← e, t)

  -- nothing is left
  pub all_end : (xs : List A) (i : ℕ) → length xs ≤ i → true ≡ all p (drop i xs)
  all_end xs i h = rw (drop_of_length-le xs h)

  -- what `cases_from_all` of the library says of the answer of `iter().all`
  pub all-told : (xs : List A) (r : Bool)
      → MatchBool r (AllWithin (λ x. p x ≡ true) xs 0 (length xs)) ((k : ℕ) × (k < length xs) × HoldsAt (λ x. p x ≡ false) xs k)
      → r ≡ all p xs
  all-told [] true h = refl
  all-told [] false (k, l, e) = absurd (omega arith)
  all-told (x ∷ xs) true h = rw (h 0 x (omega arith) (omega arith)) (all-told xs true (λ k d l m. h (suc k) d (omega arith) (omega arith)))
  all-told (x ∷ xs) false (zero, l, e) = rw (e x)
  all-told (x ∷ xs) false (suc k, l, e) = rw (← all-told xs false (k, omega arith, e)) (none (p x))
    where
      none : (b : Bool) → false ≡ b && false
      none true = refl
      none false = refl

  -- each, also past the end where d passes
  pub all-holds : (d : A) (xs : List A) → T (all p xs) → T (p d) → (k : ℕ) → T (p (get_or xs k d))
  all-holds d [] t h k = h
  all-holds d (x ∷ xs) t h zero = and_l (p x) (all p xs) t
  all-holds d (x ∷ xs) t h (suc k) = all-holds d xs (and_r (p x) (all p xs) t) h k

  -- and all of them
  pub holds-all : (d : A) (xs : List A) → ((k : ℕ) → k < length xs → T (p (get_or xs k d))) → T (all p xs)
  holds-all d [] h = tt
  holds-all d (x ∷ xs) h = and_i (p x) (all p xs) (h 0 (omega arith)) (holds-all d xs (λ k m. h (suc k) (omega arith)))
