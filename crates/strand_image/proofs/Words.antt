-- The words of a strand are read and written again exactly where the specification's rules hold of them.
use mathlib.Core.Path.{◌≡◌, refl, sym, ap, ◌∙◌, subst}
use mathlib.Core.Bool.{Bool, true, false, not, ◌||◌}
use mathlib.Core.List.{List, [], ◌∷◌}
use Prim.Native.Nat.{ℕ, ◌+◌, ◌≤◌, ◌<◌}
use native.Mathlib.Omega.{arith}
use borrow.Author.Tests.{eq-eqb, eqb-true}
use lib.Dec.{T, eqb, lit<, lit≤}
use lib.ListN.{get_or, replicate}
use lib.Ieee.{binary32, binary64, of_bits, to_bits}
use lib.Ieee.Bits.{is_true}
use Rattle.blocks.specs.Lists.{Words}
use Rattle.codec.specs.Fields.{zero_of, num_of, capped, flag_bits}
use Rattle.codec.specs.Codec.{Codec}
use Rattle.codec.proofs.Kept.{here-head, here-rest, zero-num, true-T, capped_same}
use Rattle.codec.specs.Forms.{f64, f32, below, flag, one, fixed, pair, counted, maybe}
use Rattle.strand_image.specs.Strand.{state, filters, powers, decimated, latest, minima, history, window_rule, window, floor, counts_rule, counts, decision, front, strand}
use Rattle.strand_image.specs.Words.{Finite64, Finite32, Flag, FilterWords, ListWords, OptionalWords, StrandWords}
use Rattle.codec.proofs.Forms.{f64-laws, below_laws, flag-laws, one_laws, pair-laws, maybe-laws}
use Rattle.strand_image.proofs.Codecs.{state-laws, filters-laws, decimated-laws, history-laws, zero_bits, window-blank, frames-laws, window-laws, floor-laws, tally_laws, parts_laws, counts-laws, front-laws}
use Rattle.codec.proofs.Again.{Iff, Reads, here_cons, here-none, reads-one, reads-pair, reads-also, reads-counted, reads-maybe, kept-float, kept-below, kept-flag}

module _ (l : List ℕ) (s : Words l) where
  abbrev word : ℕ → ℕ
  word k = get_or l k 0

  -- ---- one word

  pub number : (k : ℕ) → Iff (Reads (one f64) l k) (Finite64 (word k))
  number k =
      let a = reads-one f64 l k in
      let b = kept-float binary64 (word k) in
      ((λ h. (b.0 (a.0 h)).1), λ h. a.1 (b.1 (omega (arith, s k), h)))

  pub flagged : (k : ℕ) → Iff (Reads (one flag) l k) (Flag (word k))
  flagged k =
      let a = reads-one flag l k in
      let b = kept-flag (word k) in
      ((λ h. b.0 (a.0 h)), λ h. a.1 (b.1 h))

  pub limited : (n : ℕ) → 0 < n → (k : ℕ) → Iff (Reads (one (below n)) l k) (word k < n)
  limited n p k =
      let a = reads-one (below n) l k in
      let b = kept-below n (word k) p in
      ((λ h. b.0 (a.0 h)), λ h. a.1 (b.1 h))

  -- ---- filters

  abbrev two : Codec (Unit {0})
  two = fixed (replicate 2 0)

  pub state-words : (i : ℕ) → Iff (Reads state l i) (FilterWords l i)
  unfolding state
  state-words i =
      let a = reads-pair (one_laws f64-laws) (pair (one f64) two) l i 1 (i + 1) refl refl in
      let b = reads-pair (one_laws f64-laws) two l (i + 1) 1 (i + 2) refl (omega arith) in
      let e : i + 2 + 1 ≡ i + 3 = omega arith in (
        (λ h.
            let p = a.0 h in
            let q = b.0 p.1 in
            record {
              z1 = (number i).0 p.0;
              z2 = (number (i + 1)).0 q.0;
              unused = here-head q.1;
              unused' = ap (λ (m : ℕ). get_or l m 0) (sym e) ∙ here-head (here-rest (0 ∷ []) (0 ∷ []) refl q.1);
            }),
        λ r.
            a.1 (
              (number i).1 r.z1,
              b.1 (
                (number (i + 1)).1 r.z2,
                here_cons r.unused (here_cons (ap (λ (m : ℕ). get_or l m 0) e ∙ r.unused') (here-none l (i + 2 + 1 + 1))),
              ),
            ),
      )

  filters-words : (i : ℕ) → Iff (Reads filters l i) (FilterWords l i × FilterWords l (i + 4) × FilterWords l (i + 8) × FilterWords l (i + 12))
  unfolding filters state
  filters-words i =
      let w : (j : ℕ) → Iff (Reads state l j) (FilterWords l j) = λ j. (unfold state in state-words j) in
      let a = reads-pair state-laws (pair state (pair state state)) l i 4 (i + 4) refl refl in
      let b = reads-pair state-laws (pair state state) l (i + 4) 4 (i + 8) refl (omega arith) in
      let c = reads-pair state-laws state l (i + 8) 4 (i + 12) refl (omega arith) in (
        (λ h.
            let p = a.0 h in
            let q = b.0 p.1 in
            let r = c.0 q.1 in
            ((w i).0 p.0, (w (i + 4)).0 q.0, (w (i + 8)).0 r.0, (w (i + 12)).0 r.1)),
        λ f. a.1 ((w i).1 f.0, b.1 ((w (i + 4)).1 f.1, c.1 ((w (i + 8)).1 f.2, (w (i + 12)).1 f.3))),
      )

  -- ---- lists

  list-words : (n i : ℕ) → Iff (Reads (counted f64 n) l i) (ListWords Finite64 n l i)
  list-words n i =
      let a = reads-counted f64 n l i in (
        (λ h.
            let r = a.0 h in
            record {
              count = r.count;
              values = λ k b. ((kept-float binary64 (word (i + 1 + k))).0 (r.values k b)).1;
              unused = λ k b g. r.rest k b g ∙ zero_bits;
            }),
        λ w.
            a.1
            (record {
              count = w.count;
              values = λ k b. (kept-float binary64 (word (i + 1 + k))).1 (omega (arith, s (i + 1 + k)), w.values k b);
              rest = λ k b g. w.unused k b g ∙ sym zero_bits;
            }),
      )

  zero_bits32 : to_bits binary32 (zero_of binary32) ≡ 0
  unfolding to_bits of_bits
  zero_bits32 = refl

  list_words32 : (n i : ℕ) → Iff (Reads (counted f32 n) l i) (ListWords Finite32 n l i)
  list_words32 n i =
      let a = reads-counted f32 n l i in (
        (λ h.
            let r = a.0 h in
            record {
              count = r.count;
              values = λ k b. let z = (kept-float binary32 (word (i + 1 + k))).0 (r.values k b) in (omega (arith, z.0), z.1);
              unused = λ k b g. r.rest k b g ∙ zero_bits32;
            }),
        λ w.
            a.1
            (record {
              count = w.count;
              values = λ k b. (kept-float binary32 (word (i + 1 + k))).1 (omega (arith, (w.values k b).0), (w.values k b).1);
              rest = λ k b g. w.unused k b g ∙ sym zero_bits32;
            }),
      )

  -- ---- a value or none

  optional_words : (i : ℕ) → Iff (Reads (maybe f64) l i) (OptionalWords l i)
  optional_words i =
      let a = reads-maybe f64 l i in (
        (λ h.
            let r = a.0 h in
            record { flag = r.flag; value = λ e. ((kept-float binary64 (word (i + 1))).0 (r.value e)).1; none = r.none }),
        λ w. a.1 (record { flag = w.flag; value = λ e. (kept-float binary64 (word (i + 1))).1 (omega (arith, s (i + 1)), w.value e); none = w.none }),
      )

  -- ---- the window of the noise floor

  abbrev WindowWords : ℕ → Type 0
  WindowWords i = Finite64 (word i) × (word (i + 1) ≤ 24) × (word (i + 1) ≡ 0 → word i ≡ 0)

  -- the rule of an empty window, as a test on two words and as a fact
  empty_of : (v w : ℕ) → T (not (eqb v 0) || eqb w 0) → v ≡ 0 → w ≡ 0
  empty_of v w t e = eqb-true w 0 (is_true (eqb w 0) (rw (eq-eqb v 0 e) at t))

  of-empty : (v w : ℕ) → (v ≡ 0 → w ≡ 0) → T (not (eqb v 0) || eqb w 0)
  of-empty v w h = go (eqb v 0) refl
    where
      go : (z : Bool) → eqb v 0 ≡ z → T (not z || eqb w 0)
      go true e = true-T (eq-eqb w 0 (h (eqb-true v 0 e)))
      go false e = tt

  window-words : (i : ℕ) → Iff (Reads window l i) (WindowWords i)
  unfolding window
  window-words i =
      let a = reads-also window_rule (zero_of binary64, 0) (pair-laws (one_laws f64-laws) (one_laws frames-laws)) (zero-num binary64, lit< tt) window-blank l i in
      let b = reads-pair (one_laws f64-laws) (one (below 25)) l i 1 (i + 1) refl refl in
      let c = limited 25 (lit< tt) (i + 1) in (
        (λ h.
            let p = a.0 h in
            let q = b.0 p.0 in
            let x : to_bits binary64 (num_of binary64 (word i)) ≡ word i = (reads-one f64 l i).0 q.0 in
            let y : capped 25 (word (i + 1)) ≡ word (i + 1) = (reads-one (below 25) l (i + 1)).0 q.1 in (
              (number i).0 q.0,
              omega (arith, c.0 q.1),
              empty_of (word (i + 1)) (word i) (rw (x, y) at p.1),
            )),
        λ w.
            let m : Reads (one f64) l i = (number i).1 w.0 in
            let n : Reads (one (below 25)) l (i + 1) = c.1 (omega (arith, w.1)) in
            let x : to_bits binary64 (num_of binary64 (word i)) ≡ word i = (reads-one f64 l i).0 m in
            let y : capped 25 (word (i + 1)) ≡ word (i + 1) = (reads-one (below 25) l (i + 1)).0 n in
            a.1 (b.1 (m, n), (rw (x, y) (of-empty (word (i + 1)) (word i) w.2))),
      )

  -- ---- the counts of the decision

  abbrev CountWords : ℕ → Type 0
  CountWords i = Flag (word i) × Finite64 (word (i + 1)) × (word (i + 2) ≤ 4294967295) × (word (i + 2) ≡ word (i + 3) + word i)

  counts-words : (i : ℕ) → Iff (Reads counts l i) (CountWords i)
  unfolding counts
  counts-words i =
      let tally = below 4294967296 in
      let a = reads-also counts_rule (false, (zero_of binary64, (0, 0))) parts_laws (tt, (zero-num binary64, (lit< tt, lit< tt))) tt l i in
      let b = reads-pair (one_laws flag-laws) (pair (one f64) (pair (one tally) (one tally))) l i 1 (i + 1) refl refl in
      let c = reads-pair (one_laws f64-laws) (pair (one tally) (one tally)) l (i + 1) 1 (i + 2) refl (omega arith) in
      let d = reads-pair (one_laws tally_laws) (one tally) l (i + 2) 1 (i + 3) refl (omega arith) in
      let m = limited 4294967296 (lit< tt) in
      let e2 : i + 1 + 1 ≡ i + 2 = omega arith in
      let e3 : i + 1 + 1 + 1 ≡ i + 3 = omega arith in
      let at : (j k : ℕ) → j ≡ k → word k < 4294967296 → capped 4294967296 (word j) ≡ word k =
      λ j k e h. ap (λ (z : ℕ). capped 4294967296 (word z)) e ∙ capped_same 4294967296 (word k) h in (
        (λ h.
            let p = a.0 h in
            let q = b.0 p.0 in
            let r = c.0 q.1 in
            let t = d.0 r.1 in
            let on = at (i + 1 + 1) (i + 2) e2 ((m (i + 2)).0 t.0) in
            let off = at (i + 1 + 1 + 1) (i + 3) e3 ((m (i + 3)).0 t.1) in
            let f : flag_bits (eqb (word i) 1) ≡ word i = (reads-one flag l i).0 q.0 in (
              (flagged i).0 q.0,
              (number (i + 1)).0 r.0,
              omega (arith, (m (i + 2)).0 t.0),
              eqb-true (word (i + 2)) (word (i + 3) + word i) (is_true _ (subst T (λ k. eqb (on k) (off k + f k)) p.1)),
            )),
        λ w.
            let lo : word (i + 2) < 4294967296 = omega (arith, w.2) in
            let hi : word (i + 3) < 4294967296 = omega (arith, w.2, w.3) in
            let on = at (i + 1 + 1) (i + 2) e2 lo in
            let off = at (i + 1 + 1 + 1) (i + 3) e3 hi in
            let g : Reads (one flag) l i = (flagged i).1 w.0 in
            let f : flag_bits (eqb (word i) 1) ≡ word i = (reads-one flag l i).0 g in
            a.1 (
              b.1 (g, c.1 ((number (i + 1)).1 w.1, d.1 ((m (i + 2)).1 lo, (m (i + 3)).1 hi))),
              subst T (λ k. eqb (sym on k) (sym off k + sym f k)) (true-T (eq-eqb (word (i + 2)) (word (i + 3) + word i) w.3)),
            ),
      )

  -- ---- the parts of a strand

  floor-words : (i : ℕ) → Iff (Reads floor l i) (OptionalWords l i × WindowWords (i + 2) × ListWords Finite64 8 l (i + 4))
  unfolding floor window latest
  floor-words i =
      let a = reads-pair (maybe-laws f64-laws) (pair window minima) l i 2 (i + 2) refl refl in
      let b = reads-pair window-laws minima l (i + 2) 2 (i + 4) refl (omega arith) in
      let x : Iff (Reads (maybe f64) l i) (OptionalWords l i) = optional_words i in
      let y : Iff (Reads window l (i + 2)) (WindowWords (i + 2)) = unfold window in window-words (i + 2) in
      let z : Iff (Reads minima l (i + 4)) (ListWords Finite64 8 l (i + 4)) = list-words 8 (i + 4) in (
        (λ h. let p = a.0 h in let q = b.0 p.1 in (x.0 p.0, y.0 q.0, z.0 q.1)),
        λ w. a.1 (x.1 w.0, b.1 (y.1 w.1, z.1 w.2)),
      )

  decision-words : (i : ℕ) → Iff (Reads decision l i) (CountWords i × (word (i + 4) ≤ 6000) × OptionalWords l (i + 5))
  unfolding decision counts
  decision-words i =
      let hold = below 6001 in
      let a = reads-pair counts-laws (pair (one hold) (maybe f64)) l i 4 (i + 4) refl refl in
      let b = reads-pair (one_laws (below_laws 6001 (lit< tt) (lit≤ tt))) (maybe f64) l (i + 4) 1 (i + 5) refl (omega arith) in
      let x : Iff (Reads counts l i) (CountWords i) = unfold counts in counts-words i in
      let y = limited 6001 (lit< tt) (i + 4) in
      let z : Iff (Reads (maybe f64) l (i + 5)) (OptionalWords l (i + 5)) = optional_words (i + 5) in (
        (λ h. let p = a.0 h in let q = b.0 p.1 in (x.0 p.0, omega (arith, y.0 q.0), z.0 q.1)),
        λ w. a.1 (x.1 w.0, b.1 (y.1 (omega (arith, w.1)), z.1 w.2)),
      )

  abbrev FrontWords : ℕ → Type 0
  FrontWords i =
      FilterWords l i × FilterWords l (i + 4) × (FilterWords l (i + 8) × FilterWords l (i + 8 + 4) × FilterWords l (i + 8 + 8) × FilterWords l (i + 8 + 12))
      × Finite64 (word (i + 24)) × ListWords Finite64 300 l (i + 25)

  front-words : (i : ℕ) → Iff (Reads front l i) (FrontWords i)
  unfolding front state filters latest
  front-words i =
      let a = reads-pair state-laws (pair state (pair filters (pair (one f64) powers))) l i 4 (i + 4) refl refl in
      let b = reads-pair state-laws (pair filters (pair (one f64) powers)) l (i + 4) 4 (i + 8) refl (omega arith) in
      let c = reads-pair filters-laws (pair (one f64) powers) l (i + 8) 16 (i + 24) refl (omega arith) in
      let d = reads-pair (one_laws f64-laws) powers l (i + 24) 1 (i + 25) refl (omega arith) in
      let w : (j : ℕ) → Iff (Reads state l j) (FilterWords l j) = λ j. (unfold state in state-words j) in
      let x : Iff (Reads filters l (i + 8)) (FilterWords l (i + 8) × FilterWords l (i + 8 + 4) × FilterWords l (i + 8 + 8) × FilterWords l (i + 8 + 12)) =
      unfold filters state in filters-words (i + 8) in
      let z : Iff (Reads powers l (i + 25)) (ListWords Finite64 300 l (i + 25)) = list-words 300 (i + 25) in (
        (λ h.
            let p = a.0 h in
            let q = b.0 p.1 in
            let r = c.0 q.1 in
            let t = d.0 r.1 in
            ((w i).0 p.0, (w (i + 4)).0 q.0, x.0 r.0, (number (i + 24)).0 t.0, z.0 t.1)),
        λ f. a.1 ((w i).1 f.0, b.1 ((w (i + 4)).1 f.1, c.1 (x.1 f.2, d.1 ((number (i + 24)).1 f.3, z.1 f.4)))),
      )

  -- ---- the strand

  size-front : front.size ≡ 326
  unfolding front state filters latest
  size-front = refl

  size-decimated : decimated.size ≡ 241
  unfolding latest
  size-decimated = refl

  size-floor : floor.size ≡ 13
  unfolding floor window latest
  size-floor = refl

  size-history : history.size ≡ 41
  unfolding latest
  size-history = refl

  abbrev Parts : ℕ → Type 0
  Parts i = Reads front l i × Reads decimated l (i + 326) × Reads floor l (i + 567) × Reads history l (i + 580) × Reads decision l (i + 621)

  strand-parts : (i : ℕ) → Iff (Reads strand l i) (Parts i)
  unfolding strand
  strand-parts i =
      let a = reads-pair front-laws (pair decimated (pair floor (pair history decision))) l i 326 (i + 326) size-front refl in
      let b = reads-pair decimated-laws (pair floor (pair history decision)) l (i + 326) 241 (i + 567) size-decimated (omega arith) in
      let c = reads-pair floor-laws (pair history decision) l (i + 567) 13 (i + 580) size-floor (omega arith) in
      let d = reads-pair history-laws decision l (i + 580) 41 (i + 621) size-history (omega arith) in (
        (λ h. let p = a.0 h in let q = b.0 p.1 in let r = c.0 q.1 in let t = d.0 r.1 in (p.0, q.0, r.0, t.0, t.1)),
        λ w. a.1 (w.0, b.1 (w.1, c.1 (w.2, d.1 (w.3, w.4)))),
      )

  decimated-words : (i : ℕ) → Iff (Reads decimated l i) (ListWords Finite32 240 l i)
  unfolding latest
  decimated-words i = list_words32 240 i

  history-words : (i : ℕ) → Iff (Reads history l i) (ListWords Finite64 40 l i)
  unfolding latest
  history-words i = list-words 40 i

  module _ (i : ℕ) where
    e12 : i + 8 + 4 ≡ i + 12
    e12 = omega arith

    e16 : i + 8 + 8 ≡ i + 16
    e16 = omega arith

    e20 : i + 8 + 12 ≡ i + 20
    e20 = omega arith

    e569 : i + 567 + 2 ≡ i + 569
    e569 = omega arith

    e570 : i + 567 + 2 + 1 ≡ i + 570
    e570 = omega arith

    e571 : i + 567 + 4 ≡ i + 571
    e571 = omega arith

    e622 : i + 621 + 1 ≡ i + 622
    e622 = omega arith

    e623 : i + 621 + 2 ≡ i + 623
    e623 = omega arith

    e624 : i + 621 + 3 ≡ i + 624
    e624 = omega arith

    e625 : i + 621 + 4 ≡ i + 625
    e625 = omega arith

    e626 : i + 621 + 5 ≡ i + 626
    e626 = omega arith

    -- the words of the window and of the counts, at the places that the specification counts from the strand's first
    window-at : Iff (WindowWords (i + 567 + 2)) (Finite64 (word (i + 569)) × (word (i + 570) ≤ 24) × (word (i + 570) ≡ 0 → word (i + 569) ≡ 0))
    window-at =
        let p : ◌≡◌ {A = Type 0} (WindowWords (i + 567 + 2)) (Finite64 (word (i + 569)) × (word (i + 570) ≤ 24) × (word (i + 570) ≡ 0 → word (i + 569) ≡ 0)) =
        λ k. Finite64 (word (e569 k)) × (word (e570 k) ≤ 24) × (word (e570 k) ≡ 0 → word (e569 k) ≡ 0) in
        ((λ w. subst (λ (A : Type 0). A) p w), λ w. subst (λ (A : Type 0). A) (sym p) w)

    abbrev Counted_at : Type 0
    Counted_at = Flag (word (i + 621)) × Finite64 (word (i + 622)) × (word (i + 623) ≤ 4294967295) × (word (i + 623) ≡ word (i + 624) + word (i + 621))

    counts-at : Iff (CountWords (i + 621)) Counted_at
    counts-at =
        let p : ◌≡◌ {A = Type 0} (CountWords (i + 621)) Counted_at =
        λ k. Flag (word (i + 621)) × Finite64 (word (e622 k)) × (word (e623 k) ≤ 4294967295) × (word (e623 k) ≡ word (e624 k) + word (i + 621)) in
        ((λ w. subst (λ (A : Type 0). A) p w), λ w. subst (λ (A : Type 0). A) (sym p) w)

    from_parts : Parts i → StrandWords l i
    from_parts p =
        let f = (front-words i).0 p.0 in
        let g = (floor-words (i + 567)).0 p.2 in
        let w = window-at.0 g.1 in
        let d = (decision-words (i + 621)).0 p.4 in
        let n = counts-at.0 d.0 in
        record {
          shelf = f.0;
          high_pass = f.1;
          band = f.2.0;
          band' = subst (FilterWords l) e12 f.2.1;
          pitch = subst (FilterWords l) e16 f.2.2;
          pitch' = subst (FilterWords l) e20 f.2.3;
          fast = f.3;
          powers = f.4;
          decimated = (decimated-words (i + 326)).0 p.1;
          smoothed = g.0;
          window_minimum = w.0;
          window_frames = w.1;
          window_empty = w.2;
          minima = subst (ListWords Finite64 8 l) e571 g.2;
          history = (history-words (i + 580)).0 p.3;
          active = n.0;
          probability = n.1;
          onsets = n.2;
          offsets = n.3;
          hold = subst (λ (m : ℕ). word m ≤ 6000) e625 d.1;
          speech_power = subst (OptionalWords l) e626 d.2;
        }

    to-parts : StrandWords l i → Parts i
    to-parts r = (
      (front-words i).1 (
        r.shelf,
        r.high_pass,
        (r.band, subst (FilterWords l) (sym e12) r.band', subst (FilterWords l) (sym e16) r.pitch, subst (FilterWords l) (sym e20) r.pitch'),
        r.fast,
        r.powers,
      ),
      (decimated-words (i + 326)).1 r.decimated,
      (floor-words (i + 567)).1
          (r.smoothed, window-at.1 (r.window_minimum, r.window_frames, r.window_empty), subst (ListWords Finite64 8 l) (sym e571) r.minima),
      (history-words (i + 580)).1 r.history,
      (decision-words (i + 621)).1 (
        counts-at.1 (r.active, r.probability, r.onsets, r.offsets),
        subst (λ (m : ℕ). word m ≤ 6000) (sym e625) r.hold,
        subst (OptionalWords l) (sym e626) r.speech_power,
      ),
    )

    pub strand-words : Iff (Reads strand l i) (StrandWords l i)
    strand-words = let a = strand-parts i in ((λ h. from_parts (a.0 h)), λ r. a.1 (to-parts r))
