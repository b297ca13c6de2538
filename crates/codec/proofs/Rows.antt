-- The laws of rows and of a value whose codec depends on the one before it; and when words are those of such values.
use mathlib.Core.Path.{◌≡◌, refl, sym, ap, ◌∙◌, subst}
use mathlib.Core.Bool.{Bool, true, false}
use mathlib.Core.List.{List, [], ◌∷◌}
use Prim.Native.Nat.{ℕ, zero, suc, ◌+◌, ◌*◌, ◌/◌, ◌%◌, ◌^◌, ◌≤◌, ◌<◌}
use native.Mathlib.Nat.{lt_of_not-le, div-add-mod, mod-lt, le-div_iff_mul-le, div-lt_iff_lt-mul, mul-le-mul_left}
use native.Mathlib.Decide.{dec_le}
use native.Mathlib.Omega.{arith}
use borrow.Author.Tests.{lt-ltb, le-ltb, ltb-true, ltb-false}
use lib.Dec.{ltb, lit<}
use lib.ListN.{length, get_or, set, replicate, length-append, length-set, length-replicate, get_or-replicate, get_or-eq_default}
use lib.Seq.{ext_get_or, get_or-set_same, get_or-set_other}
use Rattle.sequence.specs.Counted.{Counted}
use Rattle.blocks.specs.Lists.{table, Words}
use Rattle.blocks.proofs.Lists.{length-table, get_d_table, below-nil, below_append}
use Rattle.codec.specs.Codec.{Here, Codec, CodecLaws, rows_enc, row_at}
use Rattle.codec.specs.Forms.{pair_by, rows}
use Rattle.codec.proofs.Kept.{here-front, here-rest}
use Rattle.codec.proofs.Again.{Iff, Reads, here-none, here-join, read-size}

-- ---- a value whose codec depends on the one before it

pub pair-by-laws : {A B : Type 0} {c : Codec A} (n : ℕ) {d : A → Codec B} → CodecLaws c → ((a : A) → (d a).size ≡ n) → ((a : A) → c.Ok a → CodecLaws (d a)) → CodecLaws (pair_by c n d)
pair-by-laws {A} {B} {c} n {d} p e q = record {
  size_is = λ x ok.
      length-append (c.enc x.0) ((d x.0).enc x.1)
      ∙ (λ k. p.size_is x.0 ok.0 k + ((q x.0 ok.0).size_is x.1 ok.1 ∙ e x.0) k);
  back = λ x l i ok h.
      ap (λ (a : A). (a, (d a).dec l (i + c.size))) (p.back x.0 l i ok.0 (here-front (c.enc x.0) ((d x.0).enc x.1) h))
      ∙ ap (λ (b : B). (x.0, b))
      ((q x.0 ok.0).back x.1 l (i + c.size) ok.1 (here-rest (c.enc x.0) ((d x.0).enc x.1) (p.size_is x.0 ok.0) h));
  sound = λ l i. (p.sound l i, (q (c.dec l i) (p.sound l i)).sound l (i + c.size));
  small = λ x ok. below_append (2 ^ 64) (c.enc x.0) ((d x.0).enc x.1) (p.small x.0 ok.0) ((q x.0 ok.0).small x.1 ok.1);
}

-- what follows stands at place j
pub reads-pair-by : {A B : Type 0} {c : Codec A} → CodecLaws c → (n : ℕ) (d : A → Codec B) (l : List ℕ) (i j : ℕ) → i + c.size ≡ j
    → Iff (Reads (pair_by c n d) l i) (Reads c l i × Reads (d (c.dec l i)) l j)
reads-pair-by {A} {B} {c} r n d l i j q =
    let x = d (c.dec l i) in
    let xs = c.enc (c.dec l i) in
    let ys = x.enc (x.dec l (i + c.size)) in (
      (λ h. (here-front xs ys h, subst (λ (m : ℕ). Reads x l m) q (here-rest xs ys (read-size r l i) h))),
      λ p. here-join xs ys (read-size r l i) p.0 (subst (λ (m : ℕ). Reads x l m) (sym q) p.1),
    )

-- ---- the words of some values, each of s words; d is what `get_or` answers past the end

module _ {A : Type 0} (f : A → List ℕ) (d : A) (s : ℕ) where
  abbrev Sized : List A → Type 0
  Sized xs = (k : ℕ) → k < length xs → length (f (get_or xs k d)) ≡ s

  rows-length : (xs : List A) → Sized xs → length (rows_enc f xs) ≡ s * length xs
  unfolding rows_enc
  rows-length [] h = omega arith
  rows-length (x ∷ xs) h =
      let a = rows-length xs (λ k b. h (suc k) (omega arith)) in
      let b : length (f x) ≡ s = h 0 (omega arith) in
      let e : s * suc (length xs) ≡ s + s * length xs = omega arith in
      length-append (f x) (rows_enc f xs) ∙ (λ k. b k + a k) ∙ sym e

  -- they stand in a list where each of them does
  here-rows : (xs : List A) (l : List ℕ) (i : ℕ) → Sized xs → Here l i (rows_enc f xs) → (k : ℕ) → k < length xs → Here l (i + s * k) (f (get_or xs k d))
  unfolding rows_enc
  here-rows [] l i h g k b = absurd (omega arith)
  here-rows (x ∷ xs) l i h g zero b =
      let e : i + s * 0 ≡ i = omega arith in
      rw e (here-front (f x) (rows_enc f xs) g)
  here-rows (x ∷ xs) l i h g (suc k) b =
      let e : i + s * suc k ≡ i + s + s * k = omega arith in
      subst (λ (j : ℕ). Here l j (f (get_or xs k d))) (sym e)
      (here-rows xs l (i + s) (λ j q. h (suc j) (omega arith)) (here-rest (f x) (rows_enc f xs) (h 0 (omega arith)) g) k (omega arith))

  rows-here : (xs : List A) (l : List ℕ) (i : ℕ) → Sized xs → ((k : ℕ) → k < length xs → Here l (i + s * k) (f (get_or xs k d))) → Here l i (rows_enc f xs)
  unfolding rows_enc
  rows-here [] l i h g = here-none l i
  rows-here (x ∷ xs) l i h g =
      let e : i + s * 0 ≡ i = omega arith in
      here-join (f x) (rows_enc f xs) (h 0 (omega arith)) (subst (λ (j : ℕ). Here l j (f x)) e (g 0 (omega arith)))
      (rows-here xs l (i + s) (λ k b. h (suc k) (omega arith))
      (λ k b. let q : i + s * suc k ≡ i + s + s * k = omega arith in subst (λ (j : ℕ). Here l j (f (get_or xs k d))) q (g (suc k) (omega arith))))

  rows-small : (xs : List A) → ((k : ℕ) → k < length xs → Words (f (get_or xs k d))) → Words (rows_enc f xs)
  unfolding rows_enc
  rows-small [] h = below-nil (2 ^ 64) (lit< tt)
  rows-small (x ∷ xs) h = below_append (2 ^ 64) (f x) (rows_enc f xs) (h 0 (omega arith)) (rows-small xs (λ k b. h (suc k) (omega arith)))

-- ---- n places, of which the first m hold values

module _ {A : Type 0} (c : Codec A) (blank : A) (l : List ℕ) (i m k : ℕ) where
  pub row_in : k < m → row_at c blank l i m k ≡ c.dec l (i + c.size * k)
  unfolding row_at
  row_in h = rw (lt-ltb k m h)

  pub row_out : m ≤ k → row_at c blank l i m k ≡ blank
  unfolding row_at
  row_out h = rw (le-ltb k m h)

module _ {A : Type 0} {c : Codec A} (q : CodecLaws c) (blank : A) (ok : c.Ok blank) (n m : ℕ) where
  -- each place is good, the unused ones too
  rows_all : (xs : List A) → Counted c.Ok blank n m xs → (k : ℕ) → c.Ok (get_or xs k blank)
  rows_all xs r k = go (ltb k m) refl
    where
      go : (b : Bool) → ltb k m ≡ b → c.Ok (get_or xs k blank)
      go true e = r.good k (ltb-true k m e)
      go false e = subst c.Ok (sym (r.rest k (ltb-false k m e))) ok

  rows_sized : (xs : List A) → Counted c.Ok blank n m xs → Sized c.enc blank c.size xs
  rows_sized xs r k h = q.size_is (get_or xs k blank) (rows_all xs r k)

  rows_back : (xs : List A) (l : List ℕ) (i : ℕ) → Counted c.Ok blank n m xs → Here l i (rows_enc c.enc xs) → table (row_at c blank l i m) n ≡ xs
  rows_back xs l i r h =
      ext_get_or blank (table (row_at c blank l i m) n) xs (length-table (row_at c blank l i m) n ∙ sym r.size)
      (λ k b. let kn : k < n = rw length-table at b in get_d_table (row_at c blank l i m) n k blank kn ∙ go k kn (ltb k m) refl)
    where
      go : (k : ℕ) → k < n → (t : Bool) → ltb k m ≡ t → row_at c blank l i m k ≡ get_or xs k blank
      go k kn true e =
          row_in c blank l i m k (ltb-true k m e)
          ∙ q.back (get_or xs k blank) l (i + c.size * k) (rows_all xs r k)
          (here-rows c.enc blank c.size xs l i (rows_sized xs r) h k (omega (arith, r.size)))
      go k kn false e = row_out c blank l i m k (ltb-false k m e) ∙ sym (r.rest k (ltb-false k m e))

  rows-sound : (l : List ℕ) (i : ℕ) → m ≤ n → Counted c.Ok blank n m (table (row_at c blank l i m) n)
  rows-sound l i w = record {
    within = w;
    size = length-table (row_at c blank l i m) n;
    good = λ k b. subst c.Ok (sym (get_d_table (row_at c blank l i m) n k blank (omega arith) ∙ row_in c blank l i m k b)) (q.sound l (i + c.size * k));
    rest = λ k b. go k b (ltb k n) refl;
  }
    where
      go : (k : ℕ) → m ≤ k → (t : Bool) → ltb k n ≡ t → get_or (table (row_at c blank l i m) n) k blank ≡ blank
      go k b true e = get_d_table (row_at c blank l i m) n k blank (ltb-true k n e) ∙ row_out c blank l i m k b
      go k b false e = get_or-eq_default (table (row_at c blank l i m) n) blank (rw length-table (ltb-false k n e))

  pub rows-laws : m ≤ n → CodecLaws (rows c blank n m)
  rows-laws w = record {
    size_is = λ xs r. rows-length c.enc blank c.size xs (rows_sized xs r) ∙ ap (λ (j : ℕ). c.size * j) r.size;
    back = λ xs l i r h. rows_back xs l i r h;
    sound = λ l i. rows-sound l i w;
    small = λ xs r. rows-small c.enc blank c.size xs (λ k h. q.small (get_or xs k blank) (rows_all xs r k));
  }

-- ---- a loop that reads the first of n rows, one by one, over blanks

module _ {A : Type 0} (c : Codec A) (blank : A) (l : List ℕ) (i n : ℕ) where
  pub read_none : replicate n blank ≡ table (row_at c blank l i 0) n
  read_none =
      ext_get_or blank (replicate n blank) (table (row_at c blank l i 0) n) (length-replicate n blank ∙ sym (length-table (row_at c blank l i 0) n))
      (λ j b.
      let jn : j < n = rw length-replicate at b in
      get_or-replicate n j blank blank jn ∙ sym (get_d_table (row_at c blank l i 0) n j blank jn ∙ row_out c blank l i 0 j (omega arith)))

  pub read-turn : (k : ℕ) (x : A) → k < n → x ≡ c.dec l (i + c.size * k) → set (table (row_at c blank l i k) n) k x ≡ table (row_at c blank l i (k + 1)) n
  read-turn k x h e =
      ext_get_or blank (set t k x) (table (row_at c blank l i (k + 1)) n) (length-set t k x ∙ length-table (row_at c blank l i k) n ∙ sym (length-table (row_at c blank l i (k + 1)) n))
      (λ j b. let jn : j < n = rw (length-set, length-table) at b in go j jn ∙ sym (get_d_table (row_at c blank l i (k + 1)) n j blank jn))
    where
      t : List A
      t = table (row_at c blank l i k) n

      was : (j : ℕ) → j < n → (j ≡ k → ⊥) → get_or (set t k x) j blank ≡ row_at c blank l i k j
      was j b d = get_or-set_other t k j x blank d ∙ get_d_table (row_at c blank l i k) n j blank b

      go : (j : ℕ) → j < n → get_or (set t k x) j blank ≡ row_at c blank l i (k + 1) j
      go j b = elim (dec_le j k) [
        | yes f ↦ elim (dec_le k j) [
          | yes g ↦
              let q : j ≡ k = omega arith in
              rw q (get_or-set_same t k x blank (rw length-table h) ∙ e ∙ sym (row_in c blank l i (k + 1) k (omega arith)))
          | no g ↦ let m : j < k = lt_of_not-le g in was j b (λ q. omega arith) ∙ row_in c blank l i k j m ∙ sym (row_in c blank l i (k + 1) j (omega arith))
        ]
        | no f ↦ let m : k < j = lt_of_not-le f in was j b (λ q. omega arith) ∙ row_out c blank l i k j (omega arith) ∙ sym (row_out c blank l i (k + 1) j (omega arith))
      ]

-- ---- when words are those of rows

-- the first m rows of s words are read as themselves, and the words after them are zero
pub record RowsRead {A : Type 0} (c : Codec A) (s n m : ℕ) (l : List ℕ) (i : ℕ) : Type 0 where
  pub values : (k : ℕ) → k < m → Reads c l (i + s * k)
  pub unused : (j : ℕ) → s * m ≤ j → j < s * n → get_or l (i + j) 0 ≡ 0

-- rows of zeros, word by word: word j is word j % s of row j / s
module _ (l : List ℕ) (i s m n : ℕ) (p : 0 < s) where
  zero-words : ((k : ℕ) → m ≤ k → k < n → Here l (i + s * k) (replicate s 0)) → (j : ℕ) → s * m ≤ j → j < s * n → get_or l (i + j) 0 ≡ 0
  zero-words h j a b =
      let e : i + j ≡ i + s * (j / s) + j % s = omega (arith, div-add-mod j s) in
      let low : m ≤ j / s = (le-div_iff_mul-le p).1 (omega arith) in
      let high : j / s < n = (div-lt_iff_lt-mul p).1 (omega arith) in
      let less : j % s < s = mod-lt j p in
      ap (λ (z : ℕ). get_or l z 0) e ∙ (h (j / s) low high).at (j % s) (rw length-replicate less) ∙ get_or-replicate s (j % s) 0 0 less

  words-zero : ((j : ℕ) → s * m ≤ j → j < s * n → get_or l (i + j) 0 ≡ 0) → (k : ℕ) → m ≤ k → k < n → Here l (i + s * k) (replicate s 0)
  words-zero h k a b = record {
    at = λ r g.
        let less : r < s = rw length-replicate at g in
        let e : i + s * k + r ≡ i + (s * k + r) = omega arith in
        let low : s * m ≤ s * k = mul-le-mul_left s a in
        let high : s * suc k ≤ s * n = mul-le-mul_left s b in
        ap (λ (z : ℕ). get_or l z 0) e ∙ h (s * k + r) (omega arith) (omega arith) ∙ sym (get_or-replicate s r 0 0 less);
  }

module _ {A : Type 0} {c : Codec A} (q : CodecLaws c) (blank : A) (ok : c.Ok blank) (n m : ℕ) (w : m ≤ n) (l : List ℕ) (i : ℕ) where
  abbrev row : ℕ → A
  row = row_at c blank l i m

  -- the words of x stand where those of row k do
  abbrev At : ℕ → A → Type 0
  At k x = Here l (i + c.size * k) (c.enc x)

  row-size : Sized c.enc blank c.size (table row n)
  row-size = rows_sized q blank ok n m (table row n) (rows-sound q blank ok n m l i w)

  each_row : Reads (rows c blank n m) l i → (k : ℕ) → k < n → At k (row k)
  each_row h k b = subst (At k) (get_d_table row n k blank b) (here-rows c.enc blank c.size (table row n) l i row-size h k (rw length-table b))

  all-rows : ((k : ℕ) → k < m → At k (c.dec l (i + c.size * k))) → ((k : ℕ) → m ≤ k → k < n → At k blank) → Reads (rows c blank n m) l i
  all-rows f g = rows-here c.enc blank c.size (table row n) l i row-size (λ k b. let kn : k < n = rw length-table at b in subst (At k) (sym (get_d_table row n k blank kn)) (go k kn (ltb k m) refl))
    where
      go : (k : ℕ) → k < n → (t : Bool) → ltb k m ≡ t → At k (row k)
      go k b true e = subst (At k) (sym (row_in c blank l i m k (ltb-true k m e))) (f k (ltb-true k m e))
      go k b false e = subst (At k) (sym (row_out c blank l i m k (ltb-false k m e))) (g k (ltb-false k m e) b)

  -- where a blank is written as s zeros
  pub reads-rows : (s : ℕ) → c.size ≡ s → 0 < s → c.enc blank ≡ replicate s 0 → Iff (Reads (rows c blank n m) l i) (RowsRead c s n m l i)
  reads-rows s e p z = (
    (λ h. record {
      values = λ k b. subst (λ (t : ℕ). Reads c l (i + t * k)) e (subst (At k) (row_in c blank l i m k b) (each_row h k (omega arith)));
      unused = zero-words l i s m n p
          (λ k a b. to-zeros k (subst (At k) (row_out c blank l i m k a) (each_row h k b)));
    }),
    λ r. all-rows (λ k b. subst (λ (t : ℕ). Reads c l (i + t * k)) (sym e) (r.values k b)) (λ k a b. from-zeros k (words-zero l i s m n p r.unused k a b)),
  )
    where
      to-zeros : (k : ℕ) → At k blank → Here l (i + s * k) (replicate s 0)
      to-zeros k h = subst (λ (t : ℕ). Here l (i + t * k) (replicate s 0)) e (subst (Here l (i + c.size * k)) z h)

      from-zeros : (k : ℕ) → Here l (i + s * k) (replicate s 0) → At k blank
      from-zeros k h = subst (Here l (i + c.size * k)) (sym z) (subst (λ (t : ℕ). Here l (i + t * k) (replicate s 0)) (sym e) h)
