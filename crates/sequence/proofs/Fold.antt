-- Folds over a slice. What a chain's `fold` gives is a `foldl`; and the two laws that a loop cites: what is left, from the state that it has, comes to
-- the same. Over any state and element.
use Prim.Native.Nat.{ℕ, ◌+◌, ◌≤◌, ◌<◌}
use native.Mathlib.Numerals.{add-one}
use mathlib.Core.Path.{◌≡◌, refl}
use mathlib.Core.List.{List, [], ◌∷◌, foldl}
use lib.ListN.{length, drop, get_or, drop_of_length-le}
use lib.Seq.{drop-cons}
use Rattle.std.specs.List.{fold}

module _ {S A : Type 0} (f : S → A → S) where
  pub fold_is : (s : S) (xs : List A) → fold f s xs ≡ foldl f s xs
  fold_is s [] = refl
  fold_is s (x ∷ xs) = fold_is (f s x) xs

  -- one turn, which takes the element at i; d is what `get_or` answers past the end
  pub fold-turn : (d : A) (s next : S) (xs : List A) (i : ℕ) → next ≡ f s (get_or xs i d) → i < length xs
      → foldl f next (drop (i + 1) xs) ≡ foldl f s (drop i xs)
  fold-turn d s next xs i e h = rw (e, add-one, drop-cons xs i d)

  -- nothing is left
  pub fold_end : (s : S) (xs : List A) (i : ℕ) → length xs ≤ i → s ≡ foldl f s (drop i xs)
  fold_end s xs i h = rw (drop_of_length-le xs h)
