-- The words of a bed's channels are read and written again exactly where the rules hold of them.
use mathlib.Core.Path.{◌≡◌, refl, ap, subst, sym}
use mathlib.Core.Bool.{Bool, true, false, cond, ◌&&◌, ◌||◌}
use mathlib.Core.Logic.{inl, inr}
use mathlib.Core.List.{List}
use Prim.Native.Nat.{ℕ, ◌+◌, ◌-◌, ◌*◌, ◌^◌, ◌≤◌, ◌<◌}
use native.Mathlib.Omega.{arith}
use borrow.Author.Tests.{lt-ltb, le-ltb, le-leb}
use lib.Dec.{T, eqb, ltb, lit<}
use lib.ListN.{get_or, replicate}
use lib.Ieee.{to_bits, of_bits}
use Rattle.blocks.specs.Lists.{Words}
use Rattle.codec.specs.Fields.{capped}
use Rattle.codec.specs.Forms.{f64, below, one, pair, rows}
use Rattle.codec.proofs.Kept.{here-head, true-T, ruled-same}
use Rattle.codec.proofs.Forms.{one_laws}
use Rattle.codec.proofs.Again.{Iff, Reads, Kept, reads-one, reads-pair, reads-also}
use Rattle.codec.proofs.Rows.{reads-pair-by, reads-rows}
use Rattle.strand_image.specs.Strand.{state}
use Rattle.strand_image.specs.Words.{FilterWords}
use Rattle.strand_image.proofs.Codecs.{state-laws}
use Rattle.strand_image.proofs.Words.{number, limited, state-words}
use Rattle.layout.specs.Layout.{size_of, blank}
use Rattle.channels.specs.Channels.{resting}
use Rattle.surround_image.specs.Surround.{angle_rule, angle, place_rule, place, channel, count, count_rule, parts, surround}
use Rattle.surround_image.specs.Words.{AngleWord, PlaceWords, ChannelWords, SurroundWords}
use Rattle.surround_image.proofs.Codecs.{angle-laws, azimuth-laws, elevation-laws, place-parts, ahead_ok, place-laws, blank_ok, place-size, channel-laws, resting_ok, channel-size, number-laws, count_in, in_count, count-laws, count-size, places-laws}
use Rattle.surround_image.proofs.Valid.{rule_angles, angles_rule}

-- ---- an angle

-- at most m degrees from 0, as a fact on its word
size-angle : (m w : ℕ) → m < 2 ^ 63 → w < 2 ^ 64 → Iff (size_of w ≤ m) (AngleWord m w)
unfolding size_of
size-angle m w q h = (to (ltb w (2 ^ 63)) refl, from)
  where
    to : (a : Bool) → ltb w (2 ^ 63) ≡ a → cond a w (cond (ltb w (2 ^ 64)) (2 ^ 64 - w) w) ≤ m → AngleWord m w
    to true e k = inl k
    to false e k = let z : 2 ^ 64 - w ≤ m = rw (lt-ltb w (2 ^ 64) h) at k in inr (omega arith)

    from : AngleWord m w → cond (ltb w (2 ^ 63)) w (cond (ltb w (2 ^ 64)) (2 ^ 64 - w) w) ≤ m
    from (inl a) = rw (lt-ltb w (2 ^ 63) (omega arith)) a
    from (inr a) = rw (le-ltb w (2 ^ 63) (omega arith), lt-ltb w (2 ^ 64) h) (omega arith)

kept-angle : (m w : ℕ) → m < 2 ^ 63 → w < 2 ^ 64 → Iff (Kept (angle m) w) (AngleWord m w)
kept-angle m w q h =
    let a = size-angle m w q h in (
      (λ e. a.0 (subst (λ (x : ℕ). size_of x ≤ m) e ((angle-laws m q).read_good w))),
      λ b. ruled-same (angle_rule m) 0 w (true-T (le-leb (size_of w) m (a.1 b))),
    )

-- ---- the parts

module _ (l : List ℕ) (s : Words l) where
  abbrev word : ℕ → ℕ
  word k = get_or l k 0

  turned : (m : ℕ) → m < 2 ^ 63 → (k : ℕ) → Iff (Reads (one (angle m)) l k) (AngleWord m (word k))
  turned m q k =
      let a = reads-one (angle m) l k in
      let b = kept-angle m (word k) q (s k) in
      ((λ h. b.0 (a.0 h)), λ h. a.1 (b.1 h))

  place-words : (i : ℕ) → Iff (Reads place l i) (PlaceWords l i)
  unfolding place
  place-words i =
      let a = reads-also place_rule (0, (0, 0)) place-parts ahead_ok tt l i in
      let b = reads-pair (one_laws azimuth-laws) (pair (one (angle 90)) (one (below 2))) l i 1 (i + 1) refl refl in
      let c = reads-pair (one_laws elevation-laws) (one (below 2)) l (i + 1) 1 (i + 2) refl (omega arith) in
      let i2 : i + 1 + 1 ≡ i + 2 = omega arith in
      let f = limited l s 2 (lit< tt) (i + 2) in (
        (λ h.
            let p = a.0 h in
            let q = b.0 p.0 in
            let r = c.0 q.1 in
            let x : (angle 180).read (word i) ≡ word i = (reads-one (angle 180) l i).0 q.0 in
            let y : (angle 90).read (word (i + 1)) ≡ word (i + 1) = (reads-one (angle 90) l (i + 1)).0 r.0 in
            let z : capped 2 (word (i + 2)) ≡ word (i + 2) = (reads-one (below 2) l (i + 2)).0 r.1 in
            let t : (word (i + 2) ≡ 0 → ⊥) → (word i ≡ 0) × (word (i + 1) ≡ 0) = rule_angles (word i) (word (i + 1)) (word (i + 2)) (rw (i2, x, y, z) at p.1) in
            record {
              azimuth = (turned 180 (lit< tt) i).0 q.0;
              elevation = (turned 90 (lit< tt) (i + 1)).0 r.0;
              lfe = f.0 r.1;
              lfe_azimuth = λ e. (t (λ n. omega arith)).0;
              lfe_elevation = λ e. (t (λ n. omega arith)).1;
            }),
        λ w.
            let u : Reads (one (angle 180)) l i = (turned 180 (lit< tt) i).1 w.azimuth in
            let v : Reads (one (angle 90)) l (i + 1) = (turned 90 (lit< tt) (i + 1)).1 w.elevation in
            let o : Reads (one (below 2)) l (i + 2) = f.1 w.lfe in
            let x : (angle 180).read (word i) ≡ word i = (reads-one (angle 180) l i).0 u in
            let y : (angle 90).read (word (i + 1)) ≡ word (i + 1) = (reads-one (angle 90) l (i + 1)).0 v in
            let z : capped 2 (word (i + 2)) ≡ word (i + 2) = (reads-one (below 2) l (i + 2)).0 o in
            let t : T (eqb (word (i + 2)) 0 || eqb (word i) 0 && eqb (word (i + 1)) 0) =
            angles_rule (word i) (word (i + 1)) (word (i + 2))
            (λ n. let e : word (i + 2) ≡ 1 = omega (arith, w.lfe) in (w.lfe_azimuth e, w.lfe_elevation e)) in
            a.1 (b.1 (u, c.1 (v, o)), (rw (i2, x, y, z) t)),
      )

  channel-words : (i : ℕ) → Iff (Reads channel l i) (ChannelWords l i)
  unfolding channel state
  channel-words i =
      let w : (j : ℕ) → Iff (Reads state l j) (FilterWords l j) = λ j. (unfold state in state-words l s j) in
      let a = reads-pair state-laws (pair state (one f64)) l i 4 (i + 4) refl refl in
      let b = reads-pair state-laws (one f64) l (i + 4) 4 (i + 8) refl (omega arith) in (
        (λ h.
            let p = a.0 h in
            let q = b.0 p.1 in
            record { shelf = (w i).0 p.0; high_pass = (w (i + 4)).0 q.0; fast = (number l s (i + 8)).0 q.1 }),
        λ r. a.1 ((w i).1 r.shelf, b.1 ((w (i + 4)).1 r.high_pass, (number l s (i + 8)).1 r.fast)),
      )

  count_word : (i : ℕ) → Iff (Reads count l i) ((1 ≤ word i) × (word i ≤ 8))
  unfolding count
  count_word i =
      let a = reads-also count_rule 1 number-laws (lit< tt) tt l i in
      let b = limited l s 9 (lit< tt) i in
      let c = reads-one (below 9) l i in (
        (λ h.
            let p = a.0 h in
            let e : capped 9 (word i) ≡ word i = c.0 p.0 in
            count_in (word i) (unfold count in (b.0 p.0, (rw e at p.1)))),
        λ w.
            let o = in_count (word i) w.0 w.1 in
            let p : Reads (one (below 9)) l i = b.1 (omega (arith, w.1)) in
            let e : capped 9 (word i) ≡ word i = c.0 p in
            a.1 (p, (rw e o.1)),
      )

  count_same : (i : ℕ) → Reads count l i → count.dec l i ≡ word i
  unfolding count
  count_same i h = sym (here-head h)

  -- ---- the rows of m channels

  blank-words : place.enc blank ≡ replicate 3 0
  unfolding place
  blank-words = refl

  resting-words : channel.enc resting ≡ replicate 9 0
  unfolding channel state to_bits of_bits
  resting-words = refl

  pub record PartsWords (m i : ℕ) : Type 0 where
    pub places : (k : ℕ) → k < m → PlaceWords l (i + 1 + 3 * k)
    pub unused_places : (j : ℕ) → 3 * m ≤ j → j < 24 → word (i + 1 + j) ≡ 0
    pub others : (k : ℕ) → k < m - 1 → ChannelWords l (i + 25 + 9 * k)
    pub unused_others : (j : ℕ) → 9 * (m - 1) ≤ j → j < 63 → word (i + 25 + j) ≡ 0

  parts-words : (m i : ℕ) → m ≤ 8 → Iff (Reads (parts m) l (i + 1)) (PartsWords m i)
  parts-words m i b =
      let w : m - 1 ≤ 7 = omega arith in
      let a = reads-pair (places-laws m b) (rows channel resting 7 (m - 1)) l (i + 1) 24 (i + 25) (ap (λ (z : ℕ). z * 8) place-size) (omega arith) in
      let p = reads-rows place-laws blank blank_ok 8 m b l (i + 1) 3 place-size (lit< tt) blank-words in
      let q = reads-rows channel-laws resting resting_ok 7 (m - 1) w l (i + 25) 9 channel-size (lit< tt) resting-words in (
        (λ h.
            let x = p.0 (a.0 h).0 in
            let y = q.0 (a.0 h).1 in
            record {
              places = λ k g. (place-words (i + 1 + 3 * k)).0 (x.values k g);
              unused_places = x.unused;
              others = λ k g. (channel-words (i + 25 + 9 * k)).0 (y.values k g);
              unused_others = y.unused;
            }),
        λ r.
            a.1 (
              p.1 (record { values = λ k g. (place-words (i + 1 + 3 * k)).1 (r.places k g); unused = r.unused_places }),
              q.1 (record { values = λ k g. (channel-words (i + 25 + 9 * k)).1 (r.others k g); unused = r.unused_others }),
            ),
      )

  -- ---- all of them

  pub surround-words : (i : ℕ) → Iff (Reads surround l i) (SurroundWords l i)
  unfolding surround
  surround-words i =
      let a = reads-pair-by count-laws 87 parts l i (i + 1) (ap (λ (z : ℕ). i + z) count-size) in
      let n = count_word i in (
        (λ h.
            let p = a.0 h in
            let o = n.0 p.0 in
            let r = (parts-words (word i) i o.1).0 (subst (λ (m : ℕ). Reads (parts m) l (i + 1)) (count_same i p.0) p.1) in
            record {
              some = o.0;
              most = o.1;
              places = r.places;
              unused_places = r.unused_places;
              others = λ k g. r.others k (omega arith);
              unused_others = r.unused_others;
            }),
        λ w.
            let c = n.1 (w.some, w.most) in
            let r : PartsWords (word i) i =
            record { places = w.places; unused_places = w.unused_places; others = λ k g. w.others k (omega arith); unused_others = w.unused_others } in
            a.1 (c, subst (λ (m : ℕ). Reads (parts m) l (i + 1)) (sym (count_same i c)) ((parts-words (word i) i w.most).1 r)),
      )
