-- The Rust's deque holds the latest values, and a shorter deque the latest of those. Over any capacity and element.
use Prim.Native.Nat.{ℕ, ◌+◌, ◌-◌, ◌≤◌, ◌<◌}
use native.Mathlib.Omega.{arith}
use mathlib.Core.Bool.{Bool, true, false}
use mathlib.Core.Path.{◌≡◌, refl, ap, sym, ◌∙◌}
use mathlib.Core.List.{List, [], ◌∷◌, ◌++◌, append_assoc, append-nil, foldl}
use lib.Dec.{eqb}
use lib.ListN.{length, drop, length-drop, length-append}
use lib.Seq.{drop-append-le, drop-drop}
use borrow.Author.Tests.{eqb-true, eqb-false}
use Rattle.sequence.specs.History.{latest, pushed}

module _ {A : Type 0} where
  -- ---- the last n of a list

  pub drop_as : (j k : ℕ) (xs : List A) → j ≡ k → drop j xs ≡ drop k xs
  drop_as j k xs e = rw e

  pub latest-size : (n : ℕ) (xs : List A) → length (latest n xs) ≡ length xs - (length xs - n)
  unfolding latest
  latest-size n xs = length-drop (length xs - n) xs

  pub latest-length : (n : ℕ) (xs : List A) → length (latest n xs) ≤ n
  latest-length n xs = omega (arith, latest-size n xs)

  pub latest-all : (n : ℕ) (xs : List A) → length xs ≤ n → latest n xs ≡ xs
  unfolding latest
  latest-all n xs h = drop_as (length xs - n) 0 xs (omega arith)

  -- what is too old makes no difference
  pub latest-drop : (n k : ℕ) (xs : List A) → k ≤ length xs - n → latest n (drop k xs) ≡ latest n xs
  unfolding latest
  latest-drop n k xs h =
      drop-drop (length (drop k xs) - n) k xs
      ∙ drop_as (k + (length (drop k xs) - n)) (length xs - n) xs (simp length-drop (omega arith))

  pub latest-latest : (m n : ℕ) (xs : List A) → m ≤ n → latest m (latest n xs) ≡ latest m xs
  latest-latest m n xs h = unfold latest in latest-drop m (length xs - n) xs (omega arith)

  -- more values, to the latest or to all
  pub latest_append : (n : ℕ) (xs ys : List A) → latest n (latest n xs ++ ys) ≡ latest n (xs ++ ys)
  latest_append n xs ys =
      unfold latest in ap (latest n) (sym (drop-append-le (length xs - n) xs ys (omega arith)))
      ∙ latest-drop n (length xs - n) (xs ++ ys) (simp length-append (omega arith))

  -- ---- the deque

  pub pushed-is : (n : ℕ) (xs : List A) (x : A) → 0 < n → length xs ≤ n → pushed n xs x ≡ latest n (xs ++ x ∷ [])
  unfolding pushed latest
  pushed-is n xs x p h = go (eqb (length xs) n) refl
    where
      size : length (xs ++ x ∷ []) ≡ length xs + 1
      size = length-append xs (x ∷ [])

      go : (b : Bool) → eqb (length xs) n ≡ b → pushed n xs x ≡ latest n (xs ++ x ∷ [])
      go true e =
          rw e
          (sym
          (drop_as (length (xs ++ x ∷ []) - n) 1 (xs ++ x ∷ []) (omega (arith, size, eqb-true (length xs) n e))
          ∙ drop-append-le 1 xs (x ∷ []) (omega (arith, eqb-true (length xs) n e))))
      go false e = rw e (sym (drop_as (length (xs ++ x ∷ []) - n) 0 (xs ++ x ∷ []) (omega (arith, size, eqb-false (length xs) n e))))

  -- one push to a deque that holds the latest
  pub pushed-latest : (n : ℕ) (xs : List A) (x : A) → 0 < n → pushed n (latest n xs) x ≡ latest n (xs ++ x ∷ [])
  pushed-latest n xs x p = pushed-is n (latest n xs) x p (latest-length n xs) ∙ latest_append n xs (x ∷ [])

  -- any list of pushes to it
  pub pushes_latest : (n : ℕ) (old xs : List A) → 0 < n → foldl (pushed n) (latest n old) xs ≡ latest n (old ++ xs)
  pushes_latest n old [] p = ap (latest n) (sym (append-nil old))
  pushes_latest n old (x ∷ xs) p =
      ap (λ (l : List A). foldl (pushed n) l xs) (pushed-latest n old x p)
      ∙ pushes_latest n (old ++ x ∷ []) xs p
      ∙ ap (latest n) (append_assoc old (x ∷ []) xs)

  -- a block of pushes at once
  pub pushes_block : (n : ℕ) (old xs : List A) → 0 < n → length old ≤ n → foldl (pushed n) old xs ≡ latest n (old ++ xs)
  pushes_block n old xs p h = ap (λ (l : List A). foldl (pushed n) l xs) (sym (latest-all n old h)) ∙ pushes_latest n old xs p

  pub pushes_fresh : (n : ℕ) (xs : List A) → 0 < n → foldl (pushed n) [] xs ≡ latest n xs
  pushes_fresh n xs p = pushes_block n [] xs p (omega arith)

  -- ---- a shorter deque suffices: it holds the latest of a longer one, after a push, a block, or all since it was empty

  pub shorter-push : (m n : ℕ) (xs : List A) (x : A) → 0 < m → m ≤ n → length xs ≤ n → latest m (pushed n xs x) ≡ pushed m (latest m xs) x
  shorter-push m n xs x p h l =
      ap (latest m) (pushed-is n xs x (omega arith) l)
      ∙ latest-latest m n (xs ++ x ∷ []) h
      ∙ sym (pushed-latest m xs x p)

  pub shorter_block : (m n : ℕ) (old xs : List A) → 0 < m → m ≤ n → length old ≤ n
      → latest m (foldl (pushed n) old xs) ≡ foldl (pushed m) (latest m old) xs
  shorter_block m n old xs p h l =
      ap (latest m) (pushes_block n old xs (omega arith) l)
      ∙ latest-latest m n (old ++ xs) h
      ∙ sym (pushes_latest m old xs p)

  pub shorter : (m n : ℕ) (xs : List A) → 0 < m → m ≤ n → latest m (foldl (pushed n) [] xs) ≡ foldl (pushed m) [] xs
  shorter m n xs p h = shorter_block m n [] xs p h (omega arith) ∙ ap (λ (l : List A). foldl (pushed m) l xs) (latest-all m [] (omega arith))
