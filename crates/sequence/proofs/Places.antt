-- A count and its places against the Rust's deque: a push, a block of pushes, on any count.
use Prim.Native.Nat.{ℕ, suc, ◌+◌, ◌-◌, ◌≤◌, ◌<◌, min}
use native.Mathlib.Omega.{arith}
use mathlib.Core.Path.{◌≡◌, ap, sym, ◌∙◌}
use mathlib.Core.List.{List, [], ◌∷◌, ◌++◌, foldl, append_assoc, append-nil}
use lib.ListN.{length, take, drop, set, length-take, length-drop, length-append}
use lib.Seq.{take_all, take_at, set_split, drop-length}
use Rattle.sequence.specs.History.{latest, pushed, held, laid, count_after, places_after, slid}
use Rattle.sequence.proofs.Deque.{drop_as, latest-size, latest-length, latest-all, pushes_block}

pub count-within : (n count k : ℕ) → count_after n count k ≤ n
unfolding count_after
count-within n count k = omega arith

module _ {A : Type 0} where
  pub held-length : (count : ℕ) (places : List A) → length (held count places) ≡ min count (length places)
  held-length count places = length-take count places

  module _ (count : ℕ) (places xs : List A) where
    -- what the places hold after the values xs more
    unfoldable pub kept : List A
    kept = latest (length places) (held count places ++ xs)

    pub kept-length : length kept ≡ count_after (length places) count (length xs)
    unfolding kept count_after
    kept-length =
        latest-size (length places) (held count places ++ xs)
        ∙ simp (length-append, length-take) (omega arith)

    pub places-length : length (places_after count places xs) ≡ length places
    unfolding places_after
    places-length = simp (length-append, length-drop) (omega (arith, latest-length (length places) (held count places ++ xs)))

    -- the count and the places hold the latest
    pub held_after : held (count_after (length places) count (length xs)) (places_after count places xs) ≡ latest (length places) (held count places ++ xs)
    unfolding places_after kept
    held_after = take_at kept (drop (length kept) places) (count_after (length places) count (length xs)) kept-length

    -- so they are the deque after these pushes
    pub held_pushes : 0 < length places
        → held (count_after (length places) count (length xs)) (places_after count places xs) ≡ foldl (pushed (length places)) (held count places) xs
    held_pushes p = held_after ∙ sym (pushes_block (length places) (held count places) xs p (omega (arith, held-length count places)))

  -- ---- one value more, as the code stores it

  pub store_free : (count : ℕ) (places : List A) (x : A) → count < length places → set places count x ≡ places_after count places (x ∷ [])
  unfolding places_after
  store_free count places x h =
      let l = held count places ++ x ∷ [] in
      let size : length l ≡ suc count = length-append (held count places) (x ∷ []) ∙ omega (arith, held-length count places) in
      let all : latest (length places) l ≡ l = latest-all (length places) l (omega (arith, size)) in
      rw all
      (set_split places count x h
      ∙ sym (append_assoc (take count places) (x ∷ []) (drop (suc count) places))
      ∙ ap (λ (n : ℕ). l ++ drop n places) (sym size))

  pub store-full : (count : ℕ) (places : List A) (x : A) → length places ≤ count → slid places x ≡ places_after count places (x ∷ [])
  unfolding places_after latest
  store-full count places x h =
      let all : held count places ≡ places = take_all count places h in
      let l = places ++ x ∷ [] in
      let size : length l ≡ length places + 1 = length-append places (x ∷ []) in
      let len : length (drop 1 l) ≡ length places = length-drop 1 l ∙ omega (arith, size) in
      rw all
      (sym
      (ap (λ (m : List A). laid m places) (drop_as (length l - length places) 1 l (omega (arith, size)))
      ∙ ap (λ (n : ℕ). drop 1 l ++ drop n places) len
      ∙ ap (λ (r : List A). drop 1 l ++ r) (drop-length places)
      ∙ append-nil (drop 1 l)))
