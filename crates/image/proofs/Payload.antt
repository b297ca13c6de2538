-- A payload of either edition is read and written again as it is exactly where the specification's rules hold of its words.
use mathlib.Core.Path.{◌≡◌, refl, sym, ap, ◌∙◌, subst}
use mathlib.Core.Bool.{Bool, true, false, not, cond, ◌&&◌, ◌||◌, beq, true≢false, false≢true}
use mathlib.Core.List.{List}
use Prim.Native.Nat.{ℕ, zero, suc, ◌+◌, ◌-◌, ◌*◌, ◌%◌, ◌^◌, ◌≤◌, ◌<◌}
use native.Mathlib.Nat.{mul-pos}
use native.Mathlib.Omega.{arith}
use borrow.Author.Tests.{eq-eqb, ne_eqb, ltb-true, not-true}
use lib.Dec.{T, eqb, lit<}
use lib.IntN.{ℤ, pos}
use lib.ListN.{get_or, replicate, length-replicate, get_or-replicate}
use lib.Ieee.{Float, nan, inf, fin, binary64, up, down, top, lt, eq, fits, of_bits, to_bits}
use lib.Ieee.Bits.{is_true, of_bits-fits}
use lib.Ieee.Fits.{up_pos}
use lib.Ieee.Scale.{finite}
use Rattle.sequence.proofs.Tests.{neither, both}
use Rattle.float.specs.Arithmetic.{zero64}
use Rattle.blocks.specs.Lists.{Words}
use Rattle.codec.specs.Fields.{infinite, num_of}
use Rattle.codec.specs.Codec.{Here}
use Rattle.codec.proofs.Kept.{here-head, of_bits-finite}
use Rattle.codec.specs.Forms.{f64, flag, one, fixed, pair}
use Rattle.codec.proofs.Forms.{f64-laws, flag-laws, one_laws}
use Rattle.codec.proofs.Numbers.{num_of_in}
use Rattle.settings.specs.declared.Range.{Range}
use Rattle.settings.specs.Settings.{image_ranges, outside_of, outside_strand, outside_duck, outside_settings, fresh_settings}
use Rattle.strand_image.specs.Strand.{strand}
use Rattle.strand_image.specs.Words.{Finite64, Flag}
use Rattle.codec.proofs.Again.{Iff, Reads, here_cons, here-none, reads-pair, reads-also, kept-float}
use Rattle.strand_image.proofs.Codecs.{strand-laws}
use Rattle.strand_image.proofs.Words.{number, flagged, strand-words}
use Rattle.surround_image.specs.Surround.{surround}
use Rattle.surround_image.proofs.Codecs.{surround-size, surround-laws}
use Rattle.surround_image.proofs.Words.{surround-words}
use Rattle.image.specs.Layout.{body_words, after_body, edition, surround_words, first_unused, unused_words, payload_words}
use Rattle.image.specs.Chain.{strand_settings, duck, signed_of, signed_strand, signed_duck, signed_settings, settings_rule, numbers, settings, loops, body, chain}
use Rattle.image.specs.Edition1.{base}
use Rattle.image.specs.Edition1 as first
use Rattle.settings.proofs.Zero.{zero_exponent}
use Rattle.image.specs.Words.{SettingWord, BodyWords, PayloadWordsOne, PayloadWords}
use Rattle.image.proofs.Valid.{false_or}
use Rattle.image.proofs.Codecs.{size-strand-settings, size-settings, size-strand, size-body, strand-settings-laws, numbers-laws, fresh-numbers, fresh_rule, settings-laws, body-laws, edition-laws}

-- ---- negative zero

abbrev minus : ℕ
minus = 0x8000000000000000

-- the two zeros by their bits
zero_of : (s : Bool) → to_bits binary64 (fin s 0 (pos 0)) ≡ cond s minus 0
unfolding to_bits
zero_of true = refl
zero_of false = refl

other : (s : Bool) (m : ℕ) (e : ℤ) → eq (fin s (suc m) e) zero64 ≡ false
unfolding eq of_bits
other s m e =
    let a = suc m * up e * 1 in
    let b = 0 * 1 * down e in
    let l : 0 < suc m * up e = mul-pos (omega arith) (up_pos e) in
    let z : b ≡ 0 = omega arith in
    ap (λ (t : Bool). t && (beq s false || eqb a 0)) (ne_eqb a b (λ q. omega (arith, q, z, l)))

-- a number that equals zero is one of the two
zeros : (x : Float) → T (fits binary64 x) → eq x zero64 ≡ true → (to_bits binary64 x ≡ minus → ⊥) → to_bits binary64 x ≡ 0
zeros nan f h n = absurd (unfold eq in false≢true h)
zeros (inf s) f h n = absurd (unfold eq of_bits in false≢true h)
zeros (fin s (suc m) e) f h n = absurd (false≢true (sym (other s m e) ∙ h))
zeros (fin s zero e) f h n =
    let p : to_bits binary64 (fin s 0 e) ≡ cond s minus 0 = ap (λ (k : ℤ). to_bits binary64 (fin s 0 k)) (zero_exponent s e f) ∙ zero_of s in
    go s p
  where
    go : (t : Bool) → to_bits binary64 (fin s 0 e) ≡ cond t minus 0 → to_bits binary64 (fin s 0 e) ≡ 0
    go true q = absurd (n q)
    go false q = q

minus-signed : signed_of (of_bits binary64 minus) ≡ true
unfolding signed_of eq of_bits to_bits
minus-signed = refl

-- ---- one setting

module _ (r : Range) (w : ℕ) (small : w < 2 ^ 64) where
  abbrev x : Float
  x = of_bits binary64 w

  is_x : Finite64 w → num_of binary64 w ≡ x
  is_x f = num_of_in binary64 w (ltb-true (w % top binary64) (infinite binary64) (sym (of_bits-finite binary64 w) ∙ is_true (finite x) f)) (omega arith)

  bits-x : Finite64 w → to_bits binary64 x ≡ w
  bits-x f = ap (to_bits binary64) (sym (is_x f)) ∙ (kept-float binary64 w).1 (omega arith, f)

  inside-parts : (f a b : Bool) → cond f (a || b) true ≡ false → (a ≡ false) × (b ≡ false)
  inside-parts true a b h = neither a b h
  inside-parts false a b h = absurd (true≢false h)

  setting_from : Finite64 w → outside_of r (num_of binary64 w) ≡ false → signed_of (num_of binary64 w) ≡ false → SettingWord r w
  setting_from f o g =
      let p = inside-parts (finite x) (lt x r.low) (lt r.high x) (unfold outside_of in (sym (ap (λ (y : Float). cond (finite y) (lt y r.low || lt r.high y) true) (is_x f)) ∙ o)) in
      record {
        finite = f;
        low = p.0;
        high = p.1;
        plain = λ e. true≢false (sym (ap (λ (m : ℕ). signed_of (of_bits binary64 m)) e ∙ minus-signed) ∙ sym (ap signed_of (is_x f)) ∙ g);
      }

  setting_outside : SettingWord r w → outside_of r (num_of binary64 w) ≡ false
  unfolding outside_of
  setting_outside v = rw (is_x v.finite, is_true (finite x) v.finite, v.low, v.high)

  setting_signed : SettingWord r w → signed_of (num_of binary64 w) ≡ false
  unfolding signed_of
  setting_signed v = rw (is_x v.finite) (go (eq x zero64) refl)
    where
      go : (t : Bool) → eq x zero64 ≡ t → cond t (not (eqb (to_bits binary64 x) 0)) false ≡ false
      go false e = refl
      go true e =
          let b = bits-x v.finite in
          rw (eq-eqb (to_bits binary64 x) 0 (zeros x (of_bits-fits binary64 w) e (λ q. v.plain (sym b ∙ q))))

-- ---- the parts of a payload

three-false : (a b c : Bool) → ((a || b) || c) ≡ false → (a ≡ false) × (b ≡ false) × (c ≡ false)
three-false a b c e = let p = neither (a || b) c e in let q = neither a b p.0 in (q.0, q.1, p.1)

four-false : (a b c d : Bool) → (((a || b) || c) || d) ≡ false → (a ≡ false) × (b ≡ false) × (c ≡ false) × (d ≡ false)
four-false a b c d e = let p = neither ((a || b) || c) d e in let q = three-false a b c p.0 in (q.0, q.1, q.2, p.1)

module _ (p : List ℕ) (s : Words p) where
  abbrev word : ℕ → ℕ
  word k = get_or p k 0

  abbrev num : ℕ → Float
  num k = num_of binary64 (word k)

  -- ---- settings

  three-words : (i : ℕ) → Iff (Reads strand_settings p i) (Finite64 (word i) × Finite64 (word (i + 1)) × Finite64 (word (i + 2)))
  unfolding strand_settings
  three-words i =
      let a = reads-pair (one_laws f64-laws) (pair (one f64) (one f64)) p i 1 (i + 1) refl refl in
      let b = reads-pair (one_laws f64-laws) (one f64) p (i + 1) 1 (i + 2) refl (omega arith) in (
        (λ h. let q = a.0 h in let r = b.0 q.1 in ((number p s i).0 q.0, (number p s (i + 1)).0 r.0, (number p s (i + 2)).0 r.1)),
        λ w. a.1 ((number p s i).1 w.0, b.1 ((number p s (i + 1)).1 w.1, (number p s (i + 2)).1 w.2)),
      )

  duck-words : Iff (Reads duck p 7) (Flag (word 7) × Finite64 (word 8) × Finite64 (word 9) × Finite64 (word 10) × Finite64 (word 11) × Flag (word 12))
  unfolding duck
  duck-words =
      let a = reads-pair (one_laws flag-laws) (pair (one f64) (pair (one f64) (pair (one f64) (pair (one f64) (one flag))))) p 7 1 8 refl refl in
      let b = reads-pair (one_laws f64-laws) (pair (one f64) (pair (one f64) (pair (one f64) (one flag)))) p 8 1 9 refl refl in
      let c = reads-pair (one_laws f64-laws) (pair (one f64) (pair (one f64) (one flag))) p 9 1 10 refl refl in
      let d = reads-pair (one_laws f64-laws) (pair (one f64) (one flag)) p 10 1 11 refl refl in
      let e = reads-pair (one_laws f64-laws) (one flag) p 11 1 12 refl refl in (
        (λ h.
            let q = a.0 h in
            let r = b.0 q.1 in
            let t = c.0 r.1 in
            let u = d.0 t.1 in
            let v = e.0 u.1 in (
              (flagged p s 7).0 q.0,
              (number p s 8).0 r.0,
              (number p s 9).0 t.0,
              (number p s 10).0 u.0,
              (number p s 11).0 v.0,
              (flagged p s 12).0 v.1,
            )),
        λ w.
            a.1 (
              (flagged p s 7).1 w.0,
              b.1 (
                (number p s 8).1 w.1,
                c.1 ((number p s 9).1 w.2, d.1 ((number p s 10).1 w.3, e.1 ((number p s 11).1 w.4, (flagged p s 12).1 w.5))),
              ),
            ),
      )

  numbers-words : Iff (Reads numbers p 1) (Reads strand_settings p 1 × Reads strand_settings p 4 × Reads duck p 7)
  unfolding numbers
  numbers-words =
      let a = reads-pair strand-settings-laws (pair strand_settings duck) p 1 3 4 size-strand-settings refl in
      let b = reads-pair strand-settings-laws duck p 4 3 7 size-strand-settings refl in
      ((λ h. let q = a.0 h in let r = b.0 q.1 in (q.0, r.0, r.1)), λ w. a.1 (w.0, b.1 (w.1, w.2)))

  -- in range, and no negative zero
  abbrev Fine : Range → ℕ → Type 0
  Fine r k = (outside_of r (num k) ≡ false) × (signed_of (num k) ≡ false)

  abbrev AllFine : Type 0
  AllFine =
      (Fine image_ranges.threshold 1 × Fine image_ranges.hold_ms 2 × Fine image_ranges.gate_lufs 3)
      × (Fine image_ranges.threshold 4 × Fine image_ranges.hold_ms 5 × Fine image_ranges.gate_lufs 6)
      × (Fine image_ranges.ratio_lu 8 × Fine image_ranges.ratio_lu 9 × Fine image_ranges.max_reduction_db 10 × Fine image_ranges.speed 11)

  rule_words : Iff (T (settings_rule (numbers.dec p 1))) AllFine
  unfolding numbers strand_settings duck outside_settings outside_strand outside_duck signed_settings signed_strand signed_duck
  rule_words =
      let r = image_ranges in
      let o : Range → ℕ → Bool = λ q k. outside_of q (num k) in
      let g : ℕ → Bool = λ k. signed_of (num k) in
      let ok = (o r.threshold 1 || o r.hold_ms 2) || o r.gate_lufs 3 in
      let ob = (o r.threshold 4 || o r.hold_ms 5) || o r.gate_lufs 6 in
      let od = ((o r.ratio_lu 8 || o r.ratio_lu 9) || o r.max_reduction_db 10) || o r.speed 11 in
      let gk = (g 1 || g 2) || g 3 in
      let gb = (g 4 || g 5) || g 6 in
      let gd = ((g 8 || g 9) || g 10) || g 11 in (
        (λ t.
            let b = both (not ((ok || ob) || od)) (not ((gk || gb) || gd)) (is_true _ t) in
            let x = three-false ok ob od (not-true ((ok || ob) || od) b.0) in
            let y = three-false gk gb gd (not-true ((gk || gb) || gd) b.1) in
            let xk = three-false (o r.threshold 1) (o r.hold_ms 2) (o r.gate_lufs 3) x.0 in
            let xb = three-false (o r.threshold 4) (o r.hold_ms 5) (o r.gate_lufs 6) x.1 in
            let xd = four-false (o r.ratio_lu 8) (o r.ratio_lu 9) (o r.max_reduction_db 10) (o r.speed 11) x.2 in
            let yk = three-false (g 1) (g 2) (g 3) y.0 in
            let yb = three-false (g 4) (g 5) (g 6) y.1 in
            let yd = four-false (g 8) (g 9) (g 10) (g 11) y.2 in (
              ((xk.0, yk.0), (xk.1, yk.1), (xk.2, yk.2)),
              ((xb.0, yb.0), (xb.1, yb.1), (xb.2, yb.2)),
              ((xd.0, yd.0), (xd.1, yd.1), (xd.2, yd.2), (xd.3, yd.3)),
            )),
        λ f.
            let k = f.0 in
            let b = f.1 in
            let d = f.2 in
            let x : ((ok || ob) || od) ≡ false =
            false_or
            (false_or (false_or (false_or k.0.0 k.1.0) k.2.0) (false_or (false_or b.0.0 b.1.0) b.2.0))
            (false_or (false_or (false_or d.0.0 d.1.0) d.2.0) d.3.0) in
            let y : ((gk || gb) || gd) ≡ false =
            false_or
            (false_or (false_or (false_or k.0.1 k.1.1) k.2.1) (false_or (false_or b.0.1 b.1.1) b.2.1))
            (false_or (false_or (false_or d.0.1 d.1.1) d.2.1) d.3.1) in
            subst T (λ z. not (sym x z) && not (sym y z)) tt,
      )

  settings-parts : Iff (Reads settings p 1) ((Reads strand_settings p 1 × Reads strand_settings p 4 × Reads duck p 7) × AllFine)
  unfolding settings
  settings-parts =
      let a = reads-also settings_rule fresh_settings numbers-laws fresh-numbers fresh_rule p 1 in (
        (λ h. let q = a.0 h in (numbers-words.0 q.0, rule_words.0 q.1)),
        λ w. a.1 (numbers-words.1 w.0, rule_words.1 w.1),
      )

  -- ---- loops and unused words

  loops-words : Iff (Reads loops p 1269) (Finite64 (word 1269) × Finite64 (word 1270) × Finite64 (word 1271) × Finite64 (word 1272))
  unfolding loops
  loops-words =
      let a = reads-pair (one_laws f64-laws) (pair (one f64) (pair (one f64) (one f64))) p 1269 1 1270 refl refl in
      let b = reads-pair (one_laws f64-laws) (pair (one f64) (one f64)) p 1270 1 1271 refl refl in
      let c = reads-pair (one_laws f64-laws) (one f64) p 1271 1 1272 refl refl in (
        (λ h.
            let q = a.0 h in
            let r = b.0 q.1 in
            let t = c.0 r.1 in
            ((number p s 1269).0 q.0, (number p s 1270).0 r.0, (number p s 1271).0 t.0, (number p s 1272).0 t.1)),
        λ w. a.1 ((number p s 1269).1 w.0, b.1 ((number p s 1270).1 w.1, c.1 ((number p s 1271).1 w.2, (number p s 1272).1 w.3))),
      )

  -- n zeros from place i on
  unused-words : (i n m : ℕ) → i + n ≡ m → Iff (Here p i (replicate n 0)) ((k : ℕ) → i ≤ k → k < m → word k ≡ 0)
  unused-words i n m e = (
    (λ h k b g.
        let f : i + (k - i) ≡ k = omega arith in
        let o : k - i < n = omega arith in
        ap (λ (x : ℕ). get_or p x 0) (sym f) ∙ h.at (k - i) (omega (arith, length-replicate {A = ℕ} n 0)) ∙ get_or-replicate n (k - i) 0 0 o),
    λ u. record {
      at = λ k b.
          let o : k < n = omega (arith, length-replicate {A = ℕ} n 0) in
          u (i + k) (omega arith) (omega arith) ∙ sym (get_or-replicate n k 0 0 o);
    },
  )

  -- ---- the body

  body-parts : Iff (Reads body p 1) (Reads settings p 1 × Reads strand p 13 × Reads strand p 641 × Reads loops p 1269)
  unfolding body
  body-parts =
      let a = reads-pair settings-laws (pair strand (pair strand loops)) p 1 12 13 size-settings refl in
      let b = reads-pair strand-laws (pair strand loops) p 13 628 641 size-strand refl in
      let c = reads-pair strand-laws loops p 641 628 1269 size-strand refl in (
        (λ h. let q = a.0 h in let r = b.0 q.1 in let t = c.0 r.1 in (q.0, r.0, t.0, t.1)),
        λ w. a.1 (w.0, b.1 (w.1, c.1 (w.2, w.3))),
      )

  from-body : Reads body p 1 → BodyWords p
  from-body h =
      let c = body-parts.0 h in
      let q = settings-parts.0 c.0 in
      let k = (three-words 1).0 q.0.0 in
      let b = (three-words 4).0 q.0.1 in
      let d = duck-words.0 q.0.2 in
      let fk = q.1.0 in
      let fb = q.1.1 in
      let fd = q.1.2 in
      let l = loops-words.0 c.3 in
      let r = image_ranges in
      record {
        key_threshold = setting_from r.threshold (word 1) (s 1) k.0 fk.0.0 fk.0.1;
        key_hold_ms = setting_from r.hold_ms (word 2) (s 2) k.1 fk.1.0 fk.1.1;
        key_gate_lufs = setting_from r.gate_lufs (word 3) (s 3) k.2 fk.2.0 fk.2.1;
        bed_threshold = setting_from r.threshold (word 4) (s 4) b.0 fb.0.0 fb.0.1;
        bed_hold_ms = setting_from r.hold_ms (word 5) (s 5) b.1 fb.1.0 fb.1.1;
        bed_gate_lufs = setting_from r.gate_lufs (word 6) (s 6) b.2 fb.2.0 fb.2.1;
        enabled = d.0;
        target_lu = setting_from r.ratio_lu (word 8) (s 8) d.1 fd.0.0 fd.0.1;
        overvoice_lu = setting_from r.ratio_lu (word 9) (s 9) d.2 fd.1.0 fd.1.1;
        max_reduction_db = setting_from r.max_reduction_db (word 10) (s 10) d.3 fd.2.0 fd.2.1;
        speed = setting_from r.speed (word 11) (s 11) d.4 fd.3.0 fd.3.1;
        bed_voice = d.5;
        key = (strand-words p s 13).0 c.1;
        bed = (strand-words p s 641).0 c.2;
        slow = l.0;
        mid = l.1;
        fast = l.2;
        hold_remaining = l.3;
      }

  to-body : BodyWords p → Reads body p 1
  to-body w =
      let r = image_ranges in
      let fine : (q : Range) (k : ℕ) → SettingWord q (word k) → Fine q k = λ q k v. (setting_outside q (word k) (s k) v, setting_signed q (word k) (s k) v) in
      body-parts.1 (
        settings-parts.1 (
          (
            (three-words 1).1 (w.key_threshold.finite, w.key_hold_ms.finite, w.key_gate_lufs.finite),
            (three-words 4).1 (w.bed_threshold.finite, w.bed_hold_ms.finite, w.bed_gate_lufs.finite),
            duck-words.1 (w.enabled, w.target_lu.finite, w.overvoice_lu.finite, w.max_reduction_db.finite, w.speed.finite, w.bed_voice),
          ),
          (
            (fine r.threshold 1 w.key_threshold, fine r.hold_ms 2 w.key_hold_ms, fine r.gate_lufs 3 w.key_gate_lufs),
            (fine r.threshold 4 w.bed_threshold, fine r.hold_ms 5 w.bed_hold_ms, fine r.gate_lufs 6 w.bed_gate_lufs),
            (
              fine r.ratio_lu 8 w.target_lu,
              fine r.ratio_lu 9 w.overvoice_lu,
              fine r.max_reduction_db 10 w.max_reduction_db,
              fine r.speed 11 w.speed,
            ),
          ),
        ),
        (strand-words p s 13).1 w.key,
        (strand-words p s 641).1 w.bed,
        loops-words.1 (w.slow, w.mid, w.fast, w.hold_remaining),
      )

  -- the words from 1 on are those of some body exactly where they keep the rules
  pub body-words : Iff (Reads body p 1) (BodyWords p)
  body-words = (from-body, to-body)

  -- ---- the whole payload: it is read and written again as it is exactly where its words keep the rules

  pub base-words : Iff (Reads base p 0) (PayloadWordsOne p)
  unfolding base
  base-words =
      let last = fixed (replicate first.unused_words 0) in
      let a = reads-pair (edition-laws first.edition (lit< tt)) (pair body last) p 0 1 1 refl refl in
      let b = reads-pair body-laws last p 1 body_words after_body size-body refl in
      let u = unused-words after_body first.unused_words first.payload_words refl in (
        (λ h.
            let q = a.0 h in
            let r = b.0 q.1 in
            record { edition = here-head q.0; body = body-words.0 r.0; unused = u.0 r.1 }),
        λ w. a.1 (here_cons w.edition (here-none p 1), b.1 (body-words.1 w.body, u.1 w.unused)),
      )

  pub chain-words : Iff (Reads chain p 0) (PayloadWords p)
  unfolding chain
  chain-words =
      let last = fixed (replicate unused_words 0) in
      let a = reads-pair (edition-laws edition (lit< tt)) (pair body (pair surround last)) p 0 1 1 refl refl in
      let b = reads-pair body-laws (pair surround last) p 1 body_words after_body size-body refl in
      let c = reads-pair surround-laws last p after_body surround_words first_unused surround-size refl in
      let u = unused-words first_unused unused_words payload_words refl in (
        (λ h.
            let q = a.0 h in
            let r = b.0 q.1 in
            let t = c.0 r.1 in
            record { edition = here-head q.0; body = body-words.0 r.0; surround = (surround-words p s after_body).0 t.0; unused = u.0 t.1 }),
        λ w.
            a.1 (
              here_cons w.edition (here-none p 1),
              b.1 (body-words.1 w.body, c.1 ((surround-words p s after_body).1 w.surround, u.1 w.unused)),
            ),
      )
