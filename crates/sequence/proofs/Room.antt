-- Values more in a count and its places, as `Latest::keep` stores them: as many of the oldest go as there is no room for, what is left is moved down
-- by `copy_within`, and the new values stand behind it. Over any element.
use Rattle.std.proofs.Common.{◌≡◌, ℕ, ◌+◌, ◌-◌, min, List, ◌++◌, length, take, drop, sym, ap, ◌∙◌, ap₂, lt_of_not-le, arith, length-append, length-drop, drop_of_length-le, length-take, take-add, drop_at, take_at, drop-drop, append_assoc, take_all}
use native.Mathlib.Decide.{dec_le}
use borrow.Rule.Slice.PartMut.{put_mid}
use Rattle.std.specs.List.{copy_within}
use lib.Seq.{drop-append-le, drop-append-add}
use Rattle.sequence.specs.History.{latest, held, laid, count_after, places_after}
use Rattle.sequence.proofs.Held.{held-capped}

-- h values are held, s of the new ones have no place, and g of those held go
module _ {A : Type 0} (count n : ℕ) (places xs : List A) (size : length places ≡ n) (h s g : ℕ) (held-h : h ≡ min count n) (skip : s ≡ length xs - n)
    (go : g ≡ length (take (length xs - s) (drop s xs)) - (n - h)) where
  abbrev pub new : List A
  new = take (length xs - s) (drop s xs)

  abbrev old : List A
  old = take h places

  old-size : length old ≡ h
  old-size = length-take h places ∙ omega (arith, size, held-h)

  new-is : new ≡ drop s xs
  new-is = take_all (length xs - s) (drop s xs) (omega (arith, length-drop s xs))

  new-size : length new ≡ min (length xs) n
  new-size = ap length new-is ∙ length-drop s xs ∙ omega (arith, skip)

  pub count-is : h - g + length new ≡ count_after n count (length xs)
  unfolding count_after
  count-is = omega (arith, new-size, held-h, go)

  -- the latest of both
  abbrev both : List A
  both = drop g old ++ new

  both-is : latest (length places) (held count places ++ xs) ≡ both
  unfolding latest
  both-is =
      ap₂ (λ (k : ℕ) (l : List A). drop (length (l ++ xs) - k) (l ++ xs)) size (sym (ap (λ (k : ℕ). take k places) held-h ∙ held-capped count n places size))
      ∙ elim (dec_le (length xs) n) [
        | yes l ↦
            let at : length (old ++ xs) - n ≡ g = omega (arith, length-append old xs, old-size, new-size, go) in
            let none : 0 ≡ s = omega (arith, skip) in
            ap (λ (k : ℕ). drop k (old ++ xs)) at
            ∙ drop-append-le g old xs (omega (arith, old-size, new-size, go, held-h))
            ∙ ap (λ (k : ℕ). drop g old ++ drop k xs) none
        | no l ↦
            let m = lt_of_not-le l in
            let at : length (old ++ xs) - n ≡ length old + s = omega (arith, length-append old xs, old-size, skip) in
            ap (λ (k : ℕ). drop k (old ++ xs)) at
            ∙ drop-append-add old xs s
            ∙ ap (λ (l : List A). l ++ drop s xs) (sym (drop_of_length-le old {i = g} (omega (arith, old-size, new-size, go, held-h))))
      ]
      ∙ ap (λ (l : List A). drop g old ++ l) (sym new-is)

  both-size : length both ≡ h - g + length new
  both-size = length-append (drop g old) new ∙ omega (arith, length-drop g old, old-size)

  -- what stays, moved down, and the places behind it
  abbrev front : List A
  front = take (h - g) (drop g places)

  front-size : length front ≡ h - g
  front-size = length-take (h - g) (drop g places) ∙ omega (arith, length-drop g places, size, held-h)

  front-is : front ≡ drop g old
  front-is =
      let e : h ≡ g + (h - g) = omega (arith, new-size, go, held-h) in
      sym (drop_at (take g places) front g (length-take g places ∙ omega (arith, size, new-size, go, held-h)))
      ∙ ap (drop g) (sym (take-add g (h - g) places) ∙ ap (λ (k : ℕ). take k places) (sym e))

  abbrev down : List A
  down = copy_within places g h 0

  down-rest : drop (length new) (drop (h - g) down) ≡ drop (length both) places
  down-rest =
      ap (drop (length new)) (drop_at front (drop (0 + (h - g)) places) (h - g) front-size)
      ∙ drop-drop (length new) (0 + (h - g)) places
      ∙ ap (λ (k : ℕ). drop k places) (omega (arith, both-size))

  pub stored : (v w : List A) (m : ℕ) → v ≡ down → w ≡ new → m ≡ length new → put_mid (h - g) m v w ≡ places_after count places xs
  unfolding places_after
  stored v w m ev ew em =
      ap₂ (λ (l r : List A). put_mid (h - g) m l r) ev ew
      ∙ ap (λ (j : ℕ). put_mid (h - g) j down new) em
      ∙ ap₂ (λ (l r : List A). l ++ (new ++ r)) (take_at front (drop (0 + (h - g)) places) (h - g) front-size ∙ front-is) down-rest
      ∙ sym (append_assoc (drop g old) new (drop (length both) places))
      ∙ ap (λ (l : List A). laid l places) (sym both-is)
