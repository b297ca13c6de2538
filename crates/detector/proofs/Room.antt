-- A block of values more in a count and its places, as the code stores it: behind what is held, or after that is moved down. Over any element.
use Rattle.std.proofs.Common.{◌≡◌, ℕ, ◌+◌, ◌-◌, ◌≤◌, min, List, ◌++◌, length, take, drop, sym, refl, ap, ◌∙◌, ap₂, arith, length-append, length-drop, drop_of_length-le, length-take, take_all, take-add, drop_at}
use lib.Seq.{paste, take-append-le, drop-append-le}
use Rattle.sequence.specs.History.{latest, held, laid, places_after}
use Rattle.sequence.proofs.Deque.{latest-all, drop_as}
use Rattle.sequence.proofs.Held.{held-capped}

module _ {A : Type 0} (count : ℕ) (places ys : List A) (n : ℕ) (held-n : n ≡ min count (length places)) where
  capped : take n places ≡ held count places
  capped = ap (λ (k : ℕ). take k places) held-n ∙ held-capped count (length places) places refl

  size : length (take n places) ≡ n
  size = length-take n places ∙ omega arith

  all-size : length (take n places ++ ys) ≡ n + length ys
  all-size = length-append (take n places) ys ∙ ap (λ (k : ℕ). k + length ys) size

  -- there is room for all of them
  pub stored-behind : n + length ys ≤ length places → paste places n ys (length ys) ≡ places_after count places ys
  unfolding places_after
  stored-behind h =
      let l = take n places ++ ys in
      let kept : latest (length places) l ≡ l = latest-all (length places) l (omega (arith, all-size)) in
      ap (λ (r : List A). take n places ++ r ++ drop (n + length ys) places) (take_all (length ys) ys (omega arith))
      ∙ ap (λ (k : ℕ). l ++ drop k places) (sym all-size)
      ∙ ap (λ (m : List A). laid m places) (sym kept)
      ∙ ap (λ (m : List A). laid (latest (length places) (m ++ ys)) places) capped

  -- the oldest k go first
  module _ (k at : ℕ) (h : length ys ≤ length places) (over : n + length ys ≡ length places + k) (there : at + length ys ≡ length places) where
    abbrev down : List A
    down = drop k places ++ drop (length places - k) places

    moved : take at down ≡ drop k (take n places)
    moved =
        let few : at ≤ length (drop k places) = simp length-drop (omega arith) in
        let e : n ≡ k + at = omega arith in
        let f : length (take k places) ≡ k = length-take k places ∙ omega arith in
        take-append-le at (drop k places) (drop (length places - k) places) few
        ∙ sym (drop_at (take k places) (take at (drop k places)) k f)
        ∙ ap (drop k) (sym (take-add k at places) ∙ ap (λ (j : ℕ). take j places) (sym e))

    kept : latest (length places) (take n places ++ ys) ≡ drop k (take n places) ++ ys
    unfolding latest
    kept =
        drop_as (length (take n places ++ ys) - length places) k (take n places ++ ys) (omega (arith, all-size))
        ∙ drop-append-le k (take n places) ys (omega (arith, size))

    kept-size : length (drop k (take n places) ++ ys) ≡ length places
    kept-size = simp (length-append, length-drop, length-take) (omega arith)

    down-size : length down ≡ length places
    down-size = simp (length-append, length-drop) (omega arith)

    pub stored_moved : paste down at ys (length ys) ≡ places_after count places ys
    unfolding places_after
    stored_moved =
        ap₂ (λ (a b : List A). a ++ b ++ drop (at + length ys) down) moved (take_all (length ys) ys (omega arith))
        ∙ ap (λ (r : List A). drop k (take n places) ++ ys ++ r)
        (drop_of_length-le down {i = at + length ys} (omega (arith, down-size))
        ∙ sym (drop_of_length-le places {i = length (drop k (take n places) ++ ys)} (omega (arith, kept-size))))
        ∙ ap (λ (m : List A). laid m places) (sym kept)
        ∙ ap (λ (m : List A). laid (latest (length places) (m ++ ys)) places) capped
