-- Runs of words, one after another.
use Rattle.std.specs.Prelude.{Option, Some, None}
use mathlib.Core.Path.{◌≡◌, refl, sym, ap, ◌∙◌, subst}
use mathlib.Core.List.{List, [], ◌∷◌, ◌++◌, map, append-nil, append_assoc}
use Prim.Native.Nat.{ℕ, suc, ◌+◌, ◌*◌, ◌<◌}
use native.Mathlib.Numerals.{add-one}
use native.Mathlib.Omega.{arith}
use lib.ListN.{length, get_or, take, length-append, length-map}
use lib.Seq.{take-suc, take_all}
use Rattle.blocks.specs.Lists.{Laid}
use Rattle.blocks.proofs.Lists.{none_yet, next}
use Rattle.codec.specs.Run.{Run}
use Rattle.codec.specs.Codec.{Cell, maybe_enc, rows_enc}

-- a run, and another right behind it
pub then : {l l₁ l₂ xs ys : List ℕ} {i n j m : ℕ} → Run l i n xs l₁ → i + n ≡ j → Run l₁ j m ys l₂ → Run l i (n + m) (xs ++ ys) l₂
then {l} {l₁} {l₂} {xs} {ys} {i} {n} {j} {m} p e q = record {
  over = next p.over p.size e q.over;
  size = length-append xs ys ∙ (λ k. p.size k + q.size k);
}

-- one word
pub single : {l l' : List ℕ} {i v : ℕ} → Laid l i (v ∷ []) l' → Run l i 1 (v ∷ []) l'
single p = record { over = p; size = refl }

-- as many as there are
pub these : {l l' xs : List ℕ} {i : ℕ} (n : ℕ) → length xs ≡ n → Laid l i xs l' → Run l i n xs l'
these n e p = record { over = p; size = e }

-- a value or none
pub optional : {A : Type 0} (c : Cell A) (x : Option A) {l l' : List ℕ} {i : ℕ} → Laid l i (maybe_enc c x) l' → Run l i 2 (maybe_enc c x) l'
optional c None p = record { over = p; size = refl }
optional c (Some x) p = record { over = p; size = refl }

-- a counted list of n places
pub listed : {A : Type 0} (f : A → ℕ) (xs : List A) {l l' : List ℕ} {i m : ℕ} (n : ℕ) → length xs ≡ n → Laid l i (m ∷ map f xs) l' → Run l i (suc n) (m ∷ map f xs) l'
listed f xs n e p = record { over = p; size = ap suc (length-map xs f ∙ e) }

-- a loop that writes the values xs, each by f as s words
module _ {A : Type 0} (f : A → List ℕ) where
  rows_append : (xs ys : List A) → rows_enc f (xs ++ ys) ≡ rows_enc f xs ++ rows_enc f ys
  unfolding rows_enc
  rows_append [] ys = refl
  rows_append (x ∷ xs) ys = ap (λ (z : List ℕ). f x ++ z) (rows_append xs ys) ∙ sym (append_assoc (f x) (rows_enc f xs) (rows_enc f ys))

  rows-single : (x : A) → rows_enc f (x ∷ []) ≡ f x
  unfolding rows_enc
  rows-single x = append-nil (f x)

  pub rows_none : (s : ℕ) (xs : List A) (l : List ℕ) (i : ℕ) → Run l i (s * 0) (rows_enc f (take 0 xs)) l
  unfolding rows_enc
  rows_none s xs l i = record { over = none_yet l i; size = omega arith }

  -- one value more; d is what `get_or` answers past the end
  pub rows-turn : (s : ℕ) (xs : List A) (d : A) {l l₁ l₂ : List ℕ} {i k j : ℕ} → Run l i (s * k) (rows_enc f (take k xs)) l₁ → k < length xs → i + s * k ≡ j → Run l₁ j s (f (get_or xs k d)) l₂
      → Run l i (s * (k + 1)) (rows_enc f (take (k + 1) xs)) l₂
  rows-turn s xs d {l} {l₁} {l₂} {i} {k} {j} p h q r =
      let x = get_or xs k d in
      let e : rows_enc f (take (k + 1) xs) ≡ rows_enc f (take k xs) ++ f x =
      ap (λ (m : ℕ). rows_enc f (take m xs)) (add-one k) ∙ ap (rows_enc f) (take-suc xs k d h) ∙ rows_append (take k xs) (x ∷ []) ∙ ap (λ (z : List ℕ). rows_enc f (take k xs) ++ z) (rows-single x) in
      let n : s * (k + 1) ≡ s * k + s = omega arith in
      rw (n, e) (then p q r)

  pub rows_end : (s n : ℕ) (xs : List A) {l l₁ : List ℕ} {i k : ℕ} → Run l i (s * k) (rows_enc f (take k xs)) l₁ → k ≡ n → length xs ≡ n → Run l i (s * n) (rows_enc f xs) l₁
  rows_end s n xs {l} {l₁} {i} {k} p e h =
      subst (λ (m : ℕ). Run l i (s * m) (rows_enc f xs) l₁) e
      (subst (λ (z : List A). Run l i (s * k) (rows_enc f z) l₁) (take_all k xs (omega arith)) p)
