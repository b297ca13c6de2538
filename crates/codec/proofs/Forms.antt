-- The laws of each form of a codec.
use Rattle.std.specs.Prelude.{Option, Some, None}
use mathlib.Core.Path.{◌≡◌, refl, sym, ap, ◌∙◌, subst}
use mathlib.Core.Bool.{Bool, true, false, cond}
use mathlib.Core.List.{List, [], ◌∷◌, map}
use Prim.Native.Nat.{ℕ, suc, ◌+◌, ◌^◌, ◌≤◌, ◌<◌}
use native.Mathlib.Nat.{le_trans}
use native.Mathlib.Omega.{arith}
use borrow.Author.Tests.{lt-ltb, le-ltb, ltb-true, ltb-false}
use lib.Dec.{T, ltb, eqb, lit<}
use lib.ListN.{length, get_or, length-append, length-map, get_or-eq_default}
use lib.Seq.{ext_get_or}
use lib.Ieee.{Format, binary32, binary64}
use Rattle.sequence.specs.Counted.{Counted}
use Rattle.blocks.specs.Lists.{table, Words}
use Rattle.blocks.proofs.Lists.{length-table, get_d_table, get_d_map, below-nil, below_cons, below_append, below-map}
use Rattle.codec.specs.Fields.{capped, ruled}
use Rattle.codec.specs.Codec.{Here, Cell, CellLaws, Codec, CodecLaws, value_at, maybe_enc, MaybeOk, maybe_of}
use Rattle.codec.specs.Forms.{float, f64, f32, below, flag, one, fixed, pair, as_a, also, counted, maybe}
use Rattle.codec.proofs.Kept.{here-head, here-front, here-rest, ruled-same, ruled_ok, capped_same, capped-lt, flag-back, flag_small, zero-num, num_of-back, num_of-num, bits_fit}

-- ---- one word

pub float_laws : (f : Format) → CellLaws (float f)
float_laws f = record { read_bits = num_of-back f; read_good = num_of-num f; blank_good = zero-num f; bits_small = bits_fit f }

pub f64-laws : CellLaws f64
f64-laws = float_laws binary64

pub f32-laws : CellLaws f32
f32-laws = float_laws binary32

-- n is above 0
pub below_laws : (n : ℕ) → 0 < n → n ≤ 2 ^ 64 → CellLaws (below n)
below_laws n p q = record { read_bits = capped_same n; read_good = λ w. capped-lt n w p; blank_good = p; bits_small = λ x h. le_trans h q }

pub flag-laws : CellLaws flag
flag-laws = record { read_bits = flag-back; read_good = λ w. tt; blank_good = tt; bits_small = flag_small }

-- ---- words in a row

pub one_laws : {A : Type 0} {c : Cell A} → CellLaws c → CodecLaws (one c)
one_laws {A} {c} q = record {
  size_is = λ a ok. refl;
  back = λ a l i ok h. ap c.read (here-head h) ∙ q.read_bits a ok;
  sound = λ l i. q.read_good (get_or l i 0);
  small = λ a ok. below_cons (2 ^ 64) (c.bits a) [] (q.bits_small a ok) (below-nil (2 ^ 64) (lit< tt));
}

pub fixed_laws : (ws : List ℕ) → Words ws → CodecLaws (fixed ws)
fixed_laws ws q = record { size_is = λ u ok. refl; back = λ u l i ok h. refl; sound = λ l i. tt; small = λ u ok. q }

pub pair-laws : {A B : Type 0} {c : Codec A} {d : Codec B} → CodecLaws c → CodecLaws d → CodecLaws (pair c d)
pair-laws {A} {B} {c} {d} p q = record {
  size_is = λ x ok. length-append (c.enc x.0) (d.enc x.1) ∙ (λ k. p.size_is x.0 ok.0 k + q.size_is x.1 ok.1 k);
  back = λ x l i ok h. λ k. (
    p.back x.0 l i ok.0 (here-front (c.enc x.0) (d.enc x.1) h) k,
    q.back x.1 l (i + c.size) ok.1 (here-rest (c.enc x.0) (d.enc x.1) (p.size_is x.0 ok.0) h) k,
  );
  sound = λ l i. (p.sound l i, q.sound l (i + c.size));
  small = λ x ok. below_append (2 ^ 64) (c.enc x.0) (d.enc x.1) (p.small x.0 ok.0) (q.small x.1 ok.1);
}

-- f and g undo each other
pub as_a-laws : {A B : Type 0} (f : B → A) (g : A → B) → ((a : A) → f (g a) ≡ a) → ((b : B) → g (f b) ≡ b) → {c : Codec A} → CodecLaws c → CodecLaws (as_a f g c)
as_a-laws {A} {B} f g fg gf {c} p = record {
  size_is = λ b ok. p.size_is (f b) ok;
  back = λ b l i ok h. ap g (p.back (f b) l i ok h) ∙ gf b;
  sound = λ l i. subst c.Ok (sym (fg (c.dec l i))) (p.sound l i);
  small = λ b ok. p.small (f b) ok;
}

-- d is good and meets the rule
pub also-laws : {A : Type 0} (r : A → Bool) (d : A) {c : Codec A} → CodecLaws c → c.Ok d → T (r d) → CodecLaws (also r d c)
also-laws {A} r d {c} p okd td = record {
  size_is = λ a ok. p.size_is a ok.0;
  back = λ a l i ok h. ap (ruled r d) (p.back a l i ok.0 h) ∙ ruled-same r d a ok.1;
  sound = λ l i. ruled_ok c.Ok r d (c.dec l i) okd td (p.sound l i);
  small = λ a ok. p.small a ok.0;
}

-- ---- a count, and that many values in n places

module _ {A : Type 0} (c : Cell A) (l : List ℕ) (i m k : ℕ) where
  pub value_in : k < m → value_at c l i m k ≡ c.read (get_or l (i + k) 0)
  unfolding value_at
  value_in h = rw (lt-ltb k m h)

  pub value_out : m ≤ k → value_at c l i m k ≡ c.blank
  unfolding value_at
  value_out h = rw (le-ltb k m h)

module _ {A : Type 0} (c : Cell A) (q : CellLaws c) (n m : ℕ) where
  counted_back : (xs : List A) (l : List ℕ) (i : ℕ) → Counted c.Good c.blank n m xs → Here l i (map c.bits xs) → table (value_at c l i m) n ≡ xs
  counted_back xs l i ok h =
      ext_get_or c.blank (table (value_at c l i m) n) xs (length-table (value_at c l i m) n ∙ sym ok.size)
      (λ k b. let kn : k < n = rw length-table at b in get_d_table (value_at c l i m) n k c.blank kn ∙ go k kn (ltb k m) refl)
    where
      go : (k : ℕ) → k < n → (t : Bool) → ltb k m ≡ t → value_at c l i m k ≡ get_or xs k c.blank
      go k kn true e =
          value_in c l i m k (ltb-true k m e)
          ∙ ap c.read (h.at k (rw (length-map xs c.bits, ok.size) kn) ∙ get_d_map c.bits xs k c.blank (rw ok.size kn))
          ∙ q.read_bits (get_or xs k c.blank) (ok.good k (ltb-true k m e))
      go k kn false e = value_out c l i m k (ltb-false k m e) ∙ sym (ok.rest k (ltb-false k m e))

  counted-sound : (l : List ℕ) (i : ℕ) → m ≤ n → Counted c.Good c.blank n m (table (value_at c l i m) n)
  counted-sound l i h = record {
    within = h;
    size = length-table (value_at c l i m) n;
    good = λ k b. subst c.Good (sym (get_d_table (value_at c l i m) n k c.blank (omega arith) ∙ value_in c l i m k b)) (q.read_good (get_or l (i + k) 0));
    rest = λ k b. go k b (ltb k n) refl;
  }
    where
      go : (k : ℕ) → m ≤ k → (t : Bool) → ltb k n ≡ t → get_or (table (value_at c l i m) n) k c.blank ≡ c.blank
      go k b true e = get_d_table (value_at c l i m) n k c.blank (ltb-true k n e) ∙ value_out c l i m k b
      go k b false e = get_or-eq_default (table (value_at c l i m) n) c.blank (rw length-table (ltb-false k n e))

  counted-at : (xs : List A) (l : List ℕ) (i : ℕ) → Counted c.Good c.blank n m xs → Here l i (m ∷ map c.bits xs)
      → ◌≡◌ {A = ℕ × List A} (capped (suc n) (get_or l i 0), table (value_at c l (i + 1) (capped (suc n) (get_or l i 0))) n) (m, xs)
  counted-at xs l i ok h =
      let e : capped (suc n) (get_or l i 0) ≡ m = ap (capped (suc n)) (here-head h) ∙ capped_same (suc n) m (omega (arith, ok.within)) in
      let g : Here l (i + 1) (map c.bits xs) = here-rest (m ∷ []) (map c.bits xs) refl h in
      ap (λ (z : ℕ). (z, table (value_at c l (i + 1) z) n)) e ∙ ap (λ (z : List A). (m, z)) (counted_back xs l (i + 1) ok g)

  -- each place is good, the unused ones too
  counted-all : (xs : List A) → Counted c.Good c.blank n m xs → (k : ℕ) → c.Good (get_or xs k c.blank)
  counted-all xs ok k = go (ltb k m) refl
    where
      go : (b : Bool) → ltb k m ≡ b → c.Good (get_or xs k c.blank)
      go true e = ok.good k (ltb-true k m e)
      go false e = subst c.Good (sym (ok.rest k (ltb-false k m e))) q.blank_good

pub counted-laws : {A : Type 0} {c : Cell A} → CellLaws c → (n : ℕ) → n < 2 ^ 64 → CodecLaws (counted c n)
counted-laws {A} {c} q n b = record {
  size_is = λ p ok. ap suc (length-map p.1 c.bits ∙ ok.size);
  back = λ p l i ok h. counted-at c q n p.0 p.1 l i ok h;
  sound = λ l i. counted-sound c q n (capped (suc n) (get_or l i 0)) l (i + 1) (omega (arith, capped-lt (suc n) (get_or l i 0) (omega arith)));
  small = λ p ok.
      below_cons (2 ^ 64) p.0 (map c.bits p.1) (omega (arith, ok.within))
      (below-map (2 ^ 64) c.bits p.1 c.blank (λ k. q.bits_small (get_or p.1 k c.blank) (counted-all c q n p.0 p.1 ok k)));
}

-- ---- a value or none

module _ {A : Type 0} (c : Cell A) (q : CellLaws c) where
  maybe-size : (a : Option A) → length (maybe_enc c a) ≡ 2
  maybe-size None = refl
  maybe-size (Some x) = refl

  two : (u v : ℕ) → u < 2 ^ 64 → v < 2 ^ 64 → Words (u ∷ v ∷ [])
  two u v h g = below_cons (2 ^ 64) u (v ∷ []) h (below_cons (2 ^ 64) v [] g (below-nil (2 ^ 64) (lit< tt)))

  maybe-small : (a : Option A) → MaybeOk c a → Words (maybe_enc c a)
  maybe-small None ok = two 0 0 (lit< tt) (lit< tt)
  maybe-small (Some x) ok = two 1 (c.bits x) (lit< tt) (q.bits_small x ok)

  maybe_back : (a : Option A) (l : List ℕ) (i : ℕ) → MaybeOk c a → Here l i (maybe_enc c a) → maybe_of c (get_or l i 0) (get_or l (i + 1) 0) ≡ a
  unfolding maybe_of
  maybe_back None l i ok h = rw (here-head h)
  maybe_back (Some x) l i ok h = rw (here-head h, here-head (here-rest (1 ∷ []) (c.bits x ∷ []) refl h)) (ap Some (q.read_bits x ok))

  maybe-sound : (u v : ℕ) → MaybeOk c (maybe_of c u v)
  unfolding maybe_of
  maybe-sound u v = go (eqb u 1)
    where
      go : (b : Bool) → MaybeOk c (cond b (Some (c.read v)) None)
      go true = q.read_good v
      go false = tt

pub maybe-laws : {A : Type 0} {c : Cell A} → CellLaws c → CodecLaws (maybe c)
maybe-laws {A} {c} q = record {
  size_is = λ a ok. maybe-size c q a;
  back = maybe_back c q;
  sound = λ l i. maybe-sound c q (get_or l i 0) (get_or l (i + 1) 0);
  small = maybe-small c q;
}
