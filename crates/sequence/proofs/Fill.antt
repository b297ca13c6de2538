-- The two laws that a loop cites which fills an array place by place. Over any element.
use Prim.Native.Nat.{ℕ, ◌+◌, ◌≤◌, ◌<◌}
use native.Mathlib.Numerals.{add-one}
use mathlib.Core.Path.{◌≡◌, sym, ◌∙◌}
use mathlib.Core.List.{List}
use lib.ListN.{length, take, get_or, set}
use lib.Seq.{take-suc-set, take-suc, take_all}

module _ {A : Type 0} where
  -- place i of the array v gets what the list xs has there
  pub fill-turn : (d : A) (v xs : List A) (a : A) (i : ℕ) → take i v ≡ take i xs → a ≡ get_or xs i d → i < length v → i < length xs
      → take (i + 1) (set v i a) ≡ take (i + 1) xs
  fill-turn d v xs a i e f h k = rw (add-one, take-suc-set, take-suc xs i d, e, f)

  -- every place is filled
  pub fill_end : (v xs : List A) (i : ℕ) → take i v ≡ take i xs → length v ≤ i → length xs ≤ i → v ≡ xs
  fill_end v xs i e h k = sym (take_all i v h) ∙ e ∙ take_all i xs k
