-- A fresh history is valid, and good values more keep it so. Its places are what it holds, and blanks.
use Prim.Native.Nat.{ℕ, zero, suc, ◌+◌, ◌-◌, ◌≤◌, ◌<◌}
use native.Mathlib.Omega.{arith}
use mathlib.Core.Bool.{Bool, true, false}
use mathlib.Core.Path.{◌≡◌, refl, ap, sym, subst, ◌∙◌}
use mathlib.Core.List.{List, ◌∷◌, ◌++◌}
use lib.Dec.{ltb}
use lib.ListN.{length, get_or, drop, replicate, length-replicate, length-append, length-drop, get_or-append, get_or-eq_default}
use lib.Seq.{ext_get_or, get_or-append-add, get_or-drop, get_or-take}
use borrow.Author.Tests.{ltb-true, ltb-false}
use Rattle.sequence.specs.History.{latest, held, filled, count_after, places_after}
use Rattle.sequence.specs.Counted.{Counted}
use Rattle.sequence.proofs.Filled.{all-blank, filled-length, filled_at}
use Rattle.sequence.proofs.Places.{count-within, kept, kept-length, held-length, places-length}

module _ {A : Type 0} (Good : A → Type 0) (blank : A) (n : ℕ) where
  pub counted_none : Counted Good blank n 0 (replicate n blank)
  counted_none = record {
    within = omega arith;
    size = length-replicate n blank;
    good = λ k h. absurd (omega arith);
    rest = λ k h. all-blank blank n k;
  }

  module _ (count : ℕ) (places : List A) (ok : Counted Good blank n count places) where
    pub counted-length : length (held count places) ≡ count
    counted-length = held-length count places ∙ omega (arith, ok.within, ok.size)

    held_at : (k : ℕ) → get_or (held count places) k blank ≡ get_or places k blank
    held_at k = go (ltb k count) refl
      where
        go : (b : Bool) → ltb k count ≡ b → get_or (held count places) k blank ≡ get_or places k blank
        go true e = get_or-take count places k blank (ltb-true k count e)
        go false e =
            let h : count ≤ k = ltb-false k count e in
            get_or-eq_default (held count places) blank {n = k} (omega (arith, counted-length)) ∙ sym (ok.rest k h)

    -- the places are what they hold, and blanks
    pub counted-filled : filled blank n (held count places) ≡ places
    counted-filled =
        ext_get_or blank (filled blank n (held count places)) places
        (filled-length blank n (held count places) (omega (arith, counted-length, ok.within)) ∙ sym ok.size)
        (λ k h. filled_at blank n (held count places) k ∙ held_at k)

  -- a list in the first of n places, where it is no longer than the count
  pub filled-counted : (count : ℕ) (xs : List A) → length xs ≤ count → count ≤ n → ((k : ℕ) → k < count → Good (get_or xs k blank))
      → Counted Good blank n count (filled blank n xs)
  filled-counted count xs l h g = record {
    within = h;
    size = filled-length blank n xs (omega arith);
    good = λ k m. subst Good (sym (filled_at blank n xs k)) (g k m);
    rest = λ k m. filled_at blank n xs k ∙ get_or-eq_default xs blank {n = k} (omega arith);
  }

  -- one value more in front of all, and without the first
  pub counted_cons : (x : A) (count : ℕ) (places : List A) → Good x → Counted Good blank n count places → Counted Good blank (suc n) (suc count) (x ∷ places)
  counted_cons x count places g ok = record {
    within = omega (arith, ok.within);
    size = ap suc ok.size;
    good = first;
    rest = last;
  }
    where
      first : (k : ℕ) → k < suc count → Good (get_or (x ∷ places) k blank)
      first zero h = g
      first (suc k) h = ok.good k (omega arith)

      last : (k : ℕ) → suc count ≤ k → get_or (x ∷ places) k blank ≡ blank
      last zero h = absurd (omega arith)
      last (suc k) h = ok.rest k (omega arith)

  pub counted-rest : (count : ℕ) (places : List A) → Counted Good blank (suc n) (suc count) places → Counted Good blank n count (drop 1 places)
  counted-rest count places ok = record {
    within = omega (arith, ok.within);
    size = length-drop 1 places ∙ omega (arith, ok.size);
    good = λ k h. subst Good (sym (get_or-drop 1 places k blank)) (ok.good (1 + k) (omega arith));
    rest = λ k h. get_or-drop 1 places k blank ∙ ok.rest (1 + k) (omega arith);
  }

  module _ (count : ℕ) (places xs : List A) (ok : Counted Good blank n count places) (new : (k : ℕ) → k < length xs → Good (get_or xs k blank)) where
    -- each value is good, of those held and those new
    all-good : (k : ℕ) → k < length (held count places ++ xs) → Good (get_or (held count places ++ xs) k blank)
    all-good k h = go (ltb k (length (held count places))) refl
      where
        size : length (held count places) ≡ count
        size = counted-length count places ok

        go : (b : Bool) → ltb k (length (held count places)) ≡ b → Good (get_or (held count places ++ xs) k blank)
        go true e =
            let l : k < count = omega (arith, size, ltb-true k (length (held count places)) e) in
            rw (get_or-append (held count places) xs blank k (ltb-true k (length (held count places)) e), get_or-take count places k blank l) (ok.good k l)
        go false e =
            let j = k - length (held count places) in
            let at : k ≡ length (held count places) + j = omega (arith, ltb-false k (length (held count places)) e) in
            rw (at, get_or-append-add (held count places) xs j blank) (new j (omega (arith, length-append (held count places) xs)))

    kept-good : (k : ℕ) → k < length (kept count places xs) → Good (get_or (kept count places xs) k blank)
    unfolding kept latest
    kept-good k h =
        let l = held count places ++ xs in
        let j = length l - length places in
        rw (get_or-drop j l k blank) (all-good (j + k) (omega (arith, length-drop j l)))

    pub counted-more : Counted Good blank n (count_after n count (length xs)) (places_after count places xs)
    unfolding places_after kept count_after
    counted-more = record {
      within = count-within n count (length xs);
      size = places-length count places xs ∙ ok.size;
      good = λ k h. rw (get_or-append (kept count places xs) (drop (length (kept count places xs)) places) blank k (omega (arith, size))) (kept-good k (omega (arith, size)));
      rest = λ k h. last k (omega (arith, size, h));
    }
      where
        size : length (kept count places xs) ≡ count_after n count (length xs)
        size = kept-length count places xs ∙ ap (λ (m : ℕ). count_after m count (length xs)) ok.size

        last : (k : ℕ) → length (kept count places xs) ≤ k → get_or (places_after count places xs) k blank ≡ blank
        last k h =
            let j = k - length (kept count places xs) in
            let at : k ≡ length (kept count places xs) + j = omega arith in
            rw at
            (get_or-append-add (kept count places xs) (drop (length (kept count places xs)) places) j blank
            ∙ get_or-drop (length (kept count places xs)) places j blank
            ∙ ok.rest (length (kept count places xs) + j) (omega (arith, size, ok.within)))
