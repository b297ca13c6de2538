-- The two laws that a loop cites which fills the first places of an array, the rest of which stays. Over any element.
use Rattle.std.proofs.Common.{◌≡◌, ℕ, ◌+◌, List, ◌++◌, length, take, drop, set, sym, ap, ◌∙◌, ap₂, arith, take-append-drop, drop-drop, drop-set-lt}
use Rattle.sequence.specs.History.{laid}

module _ {A : Type 0} where
  -- place i is filled
  pub rest-turn : (v before : List A) (a : A) (i : ℕ) → drop i v ≡ drop i before → drop (i + 1) (set v i a) ≡ drop (i + 1) before
  rest-turn v before a i e =
      drop-set-lt (i + 1) v i a (omega arith)
      ∙ sym (drop-drop 1 i v)
      ∙ ap (drop 1) e
      ∙ drop-drop 1 i before

  -- the first n places are filled with l
  pub laid_end : (v before l : List A) (n : ℕ) → take n v ≡ l → length l ≡ n → drop n v ≡ drop n before → v ≡ laid l before
  laid_end v before l n e f g =
      sym (take-append-drop n v) ∙ ap₂ ◌++◌ e (g ∙ ap (λ (k : ℕ). drop k before) (sym f))
