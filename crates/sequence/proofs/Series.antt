-- Lists of n values, each made of its first value and the list of the rest: the first k of n values are the list of the lesser number.
use Prim.Native.Nat.{ℕ, zero, suc, min}
use native.Mathlib.Nat.{zero-min, min-zero, suc-min-suc}
use mathlib.Core.Path.{◌≡◌, ap, sym, ◌∙◌}
use mathlib.Core.List.{List, [], ◌∷◌}
use lib.ListN.{take}

module _ {A S : Type 0} (first : S → A) (rest : S → S) (list : ℕ → S → List A)
    (none : (s : S) → list 0 s ≡ []) (more : (n : ℕ) (s : S) → list (suc n) s ≡ first s ∷ list n (rest s)) where
  pub series_take : (k n : ℕ) (s : S) → take k (list n s) ≡ list (min k n) s
  series_take zero n s = sym (ap (λ (m : ℕ). list m s) (zero-min n) ∙ none s)
  series_take (suc k) zero s = ap (take (suc k)) (none s) ∙ sym (ap (λ (m : ℕ). list m s) (min-zero (suc k)) ∙ none s)
  series_take (suc k) (suc n) s =
      ap (take (suc k)) (more n s)
      ∙ ap (λ (l : List A). first s ∷ l) (series_take k n (rest s))
      ∙ sym (ap (λ (m : ℕ). list m s) (suc-min-suc k n) ∙ more (min k n) s)
