-- The laws that a loop cites which fills the first places of an array with what a function makes of a list's values; and what a list in the first of
-- n places comes to. Over any elements.
use Prim.Native.Nat.{ℕ, zero, suc, ◌+◌, ◌-◌, ◌≤◌, ◌<◌}
use native.Mathlib.Numerals.{add-one}
use native.Mathlib.Omega.{arith}
use mathlib.Core.Bool.{Bool, true, false}
use mathlib.Core.Path.{◌≡◌, refl, ap, sym, ◌∙◌}
use mathlib.Core.List.{List, [], ◌∷◌, ◌++◌, map, map-append}
use lib.Dec.{ltb}
use lib.ListN.{length, take, drop, get_or, set, replicate, length-take, length-drop, length-append, length-map, length-replicate, get_or-append, get_or-eq_default}
use lib.Seq.{drop-cons, take-suc, set_at, append_snoc, get_or-append-add, get_or-drop}
use borrow.Author.Tests.{ltb-true, ltb-false}
use Rattle.sequence.specs.History.{laid, filled}

module _ {A B : Type 0} (f : A → B) (xs : List A) (v : List B) (i : ℕ) where
  pub front_length : i ≤ length xs → length (map f (take i xs)) ≡ i
  front_length h = length-map (take i xs) f ∙ length-take i xs ∙ omega arith

  pub laid-length : i ≤ length xs → i ≤ length v → length (laid (map f (take i xs)) v) ≡ length v
  laid-length h k =
      length-append (map f (take i xs)) (drop (length (map f (take i xs))) v)
      ∙ omega (arith, front_length h, length-drop (length (map f (take i xs))) v)

  -- one turn, which fills place i; d and e are what `get_or` answers past the end
  pub laid-turn : (d : A) (e : B) → i < length xs → i < length v → set (laid (map f (take i xs)) v) i (f (get_or xs i d)) ≡ laid (map f (take (i + 1) xs)) v
  laid-turn d e h k =
      let p = map f (take i xs) in
      let x = f (get_or xs i d) in
      let n : length p ≡ i = front_length (omega arith) in
      let next : map f (take (suc i) xs) ≡ p ++ x ∷ [] = ap (map f) (take-suc xs i d h) ∙ map-append f (take i xs) (get_or xs i d ∷ []) in
      let size : length (p ++ x ∷ []) ≡ suc i = length-append p (x ∷ []) ∙ omega arith in
      ap (λ (j : ℕ). set (p ++ drop j v) i x) n
      ∙ ap (λ (r : List B). set (p ++ r) i x) (drop-cons v i e k)
      ∙ set_at p (get_or v i e) (drop (suc i) v) x i n
      ∙ sym (append_snoc p x (drop (suc i) v))
      ∙ ap (λ (j : ℕ). (p ++ x ∷ []) ++ drop j v) (sym size)
      ∙ ap (λ (l : List B). laid l v) (sym next)
      ∙ ap (λ (j : ℕ). laid (map f (take j xs)) v) (sym (add-one i))

pub all-blank : {A : Type 0} (blank : A) (n k : ℕ) → get_or (replicate n blank) k blank ≡ blank
all-blank blank zero k = refl
all-blank blank (suc n) zero = refl
all-blank blank (suc n) (suc k) = all-blank blank n k

module _ {A : Type 0} (blank : A) (n : ℕ) (xs : List A) where
  pub filled-length : length xs ≤ n → length (filled blank n xs) ≡ n
  unfolding filled
  filled-length h = length-append xs (drop (length xs) (replicate n blank)) ∙ omega (arith, length-drop (length xs) (replicate n blank), length-replicate n blank)

  -- past the list everything is blank
  pub filled_at : (k : ℕ) → get_or (filled blank n xs) k blank ≡ get_or xs k blank
  unfolding filled
  filled_at k = go (ltb k (length xs)) refl
    where
      go : (b : Bool) → ltb k (length xs) ≡ b → get_or (laid xs (replicate n blank)) k blank ≡ get_or xs k blank
      go true e = get_or-append xs (drop (length xs) (replicate n blank)) blank k (ltb-true k (length xs) e)
      go false e =
          let h : length xs ≤ k = ltb-false k (length xs) e in
          let j = k - length xs in
          let at : k ≡ length xs + j = omega arith in
          ap (λ (i : ℕ). get_or (laid xs (replicate n blank)) i blank) at
          ∙ get_or-append-add xs (drop (length xs) (replicate n blank)) j blank
          ∙ get_or-drop (length xs) (replicate n blank) j blank
          ∙ all-blank blank n (length xs + j)
          ∙ sym (get_or-eq_default xs blank {n = k} h)
