-- The laws of values that move down by k places, from the first upward: in a loop, and of a slide by one place by `copy_within`. Over any element.
use Prim.Native.Nat.{ℕ, suc, ◌+◌, ◌-◌, ◌≤◌, ◌<◌}
use native.Mathlib.Numerals.{add-one}
use native.Mathlib.Omega.{arith}
use mathlib.Core.Path.{◌≡◌, refl, ap, sym, ◌∙◌}
use mathlib.Core.List.{List, [], ◌∷◌, ◌++◌}
use lib.ListN.{length, take, drop, get_or, set, length-take, length-drop, length-append, drop_of_length-le}
use lib.Seq.{drop-cons, take-suc, set_at, get_or-append-add, get_or-drop, append_snoc, take_all, drop-append-le}
use Rattle.std.specs.List.{copy_within}
use Rattle.std.proofs.lemmas.List.Edits.{paste_all}
use Rattle.sequence.specs.History.{slid}

module _ {A : Type 0} where
  -- i values are moved, and the rest is as it was
  abbrev pub moved : ℕ → List A → ℕ → List A
  moved k xs i = take i (drop k xs) ++ drop i xs

  module _ (d : A) (k : ℕ) (xs : List A) (i : ℕ) (h : i + k < length xs) where
    head-length : length (take i (drop k xs)) ≡ i
    head-length = simp (length-take, length-drop) (omega arith)

    pub moved_length : length (moved k xs i) ≡ length xs
    moved_length = simp (length-append, length-take, length-drop) (omega arith)

    -- what is read has not been written yet
    read : get_or (moved k xs i) (i + k) d ≡ get_or xs (i + k) d
    read =
        ap (λ (j : ℕ). get_or (moved k xs i) (j + k) d) (sym head-length)
        ∙ get_or-append-add (take i (drop k xs)) (drop i xs) k d
        ∙ get_or-drop i xs k d

    write : set (moved k xs i) i (get_or xs (i + k) d) ≡ moved k xs (i + 1)
    write =
        ap (λ (r : List A). set (take i (drop k xs) ++ r) i (get_or xs (i + k) d)) (drop-cons xs i d (omega arith))
        ∙ set_at (take i (drop k xs)) (get_or xs i d) (drop (suc i) xs) (get_or xs (i + k) d) i head-length
        ∙ ap (λ (a : A). take i (drop k xs) ++ a ∷ drop (suc i) xs) (ap (λ (j : ℕ). get_or xs j d) (omega arith) ∙ sym (get_or-drop k xs i d))
        ∙ sym (append_snoc (take i (drop k xs)) (get_or (drop k xs) i d) (drop (suc i) xs))
        ∙ ap (λ (r : List A). r ++ drop (suc i) xs) (sym (take-suc (drop k xs) i d (simp length-drop (omega arith))))
        ∙ ap (λ (j : ℕ). moved k xs j) (sym (add-one i))

    -- one turn: v[i] = v[i + k]
    pub shift-turn : (v : List A) → v ≡ moved k xs i → set v i (get_or v (i + k) d) ≡ moved k xs (i + 1)
    shift-turn v e = rw (e, read) write

  -- all are moved: the first k are gone, and the last k stand where they stood
  pub shift-end : (k : ℕ) (xs : List A) (i : ℕ) → length xs ≤ i + k → moved k xs i ≡ drop k xs ++ drop i xs
  shift-end k xs i h = ap (λ (l : List A). l ++ drop i xs) (take_all i (drop k xs) (simp length-drop (omega arith)))

  -- all are moved by one place, and x is stored in the last
  pub slide-end : (d : A) (xs v : List A) (x : A) (i last : ℕ) → v ≡ moved 1 xs i → i ≡ last → last + 1 ≡ length xs → set v last x ≡ slid xs x
  slide-end d xs v x i last e f h =
      rw (e, f, shift-end 1 xs last (omega arith))
      (ap (λ (l : List A). set (drop 1 xs ++ l) last x) (drop-cons xs last d (omega arith))
      ∙ set_at (drop 1 xs) (get_or xs last d) (drop (suc last) xs) x last (simp length-drop (omega arith))
      ∙ ap (λ (l : List A). drop 1 xs ++ x ∷ l) (drop_of_length-le xs {i = suc last} (omega arith))
      ∙ sym (drop-append-le 1 xs (x ∷ []) (omega arith)))

  -- `copy_within` has moved all down by one place, and x is stored in the last
  pub slide-copied : (xs v : List A) (x : A) (last : ℕ) → v ≡ copy_within xs 1 (length xs) 0 → last + 1 ≡ length xs → set v last x ≡ slid xs x
  slide-copied xs v x last e h =
      rw (e, paste_all xs 0 (drop 1 xs) (length xs - 1) (sym (length-drop 1 xs)))
      (ap (λ (j : ℕ). set (drop 1 xs ++ drop j xs) last x) (omega arith)
      ∙ ap (λ (l : List A). set (drop 1 xs ++ l) last x) (drop-cons xs last x (omega arith))
      ∙ set_at (drop 1 xs) (get_or xs last x) (drop (suc last) xs) x last (simp length-drop (omega arith))
      ∙ ap (λ (l : List A). drop 1 xs ++ x ∷ l) (drop_of_length-le xs {i = suc last} (omega arith))
      ∙ sym (drop-append-le 1 xs (x ∷ []) (omega arith)))

  pub slide_none : (xs : List A) (x : A) → length xs ≡ 0 → xs ≡ slid xs x
  slide_none [] x h = refl
  slide_none (y ∷ xs) x h = absurd (omega (arith, h))
