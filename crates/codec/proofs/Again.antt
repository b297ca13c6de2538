-- When words are those of some value: writing what a codec reads gives them again. One law for each form of a codec.
use Rattle.std.specs.Prelude.{Some, None}
use mathlib.Core.Path.{◌≡◌, refl, sym, ap, ◌∙◌, subst}
use mathlib.Core.Bool.{Bool, true, false, cond, not}
use mathlib.Core.List.{List, [], ◌∷◌, ◌++◌, map}
use Prim.Native.Nat.{ℕ, zero, suc, ◌+◌, ◌-◌, ◌*◌, ◌%◌, ◌≤◌, ◌<◌}
use native.Mathlib.Nat.{add-zero, zero-add, le_of_suc-le-suc, lt_of_not-le}
use native.Mathlib.Decide.{dec_le}
use native.Mathlib.Omega.{arith}
use borrow.Author.Tests.{ltb-true, ltb-false, eqb-true, eqb-false}
use lib.Dec.{T, ltb, eqb, lit<}
use lib.ListN.{length, get_or, length-append, length-map, get_or-append}
use lib.Seq.{ext_get_or, get_or-append-add}
use lib.Ieee.{Float, Format, top, of_bits, to_bits}
use lib.Ieee.Bits.{is_true, of_bits-to_bits, to_bits-lt, to_bits-of_bits, nan_bits_is}
use lib.Ieee.Scale.{finite}
use Rattle.blocks.specs.Lists.{table}
use Rattle.blocks.proofs.Lists.{length-table, get_d_table, get_d_map}
use Rattle.codec.specs.Fields.{infinite, num_of, capped, flag_bits, ruled}
use Rattle.codec.specs.Codec.{Here, Cell, Codec, CodecLaws, value_at, maybe_enc, maybe_of}
use Rattle.codec.specs.Forms.{float, below, flag, one, pair, as_a, also, counted, maybe}
use Rattle.codec.proofs.Kept.{here-all, here-head, here-front, here-rest, true-T, ruled-same, ruled-other, capped_same, capped-lt, of_bits-finite, num_of-num}
use Rattle.codec.proofs.Forms.{value_in, value_out}
use Rattle.codec.proofs.Numbers.{num_of_in, no_nan}

-- each from the other
abbrev pub Iff : Type 0 → Type 0 → Type 0
Iff A B = (A → B) × (B → A)

-- the words from place i on are those of the value that is read there
abbrev pub Reads : {A : Type 0} → Codec A → List ℕ → ℕ → Type 0
Reads c l i = Here l i (c.enc (c.dec l i))

-- a word is that of the value that is read
abbrev pub Kept : {A : Type 0} → Cell A → ℕ → Type 0
Kept c w = c.bits (c.read w) ≡ w

-- below 2 and not 1
zero_of : (m : ℕ) → m < 2 → (m ≡ 1 → ⊥) → m ≡ 0
zero_of m p q = omega arith

-- ---- words in a list

pub here_cons : {l : List ℕ} {i x : ℕ} {xs : List ℕ} → get_or l i 0 ≡ x → Here l (i + 1) xs → Here l i (x ∷ xs)
here_cons {l} {i} {x} {xs} e h = record { at = go }
  where
    go : (k : ℕ) → k < length (x ∷ xs) → get_or l (i + k) 0 ≡ get_or (x ∷ xs) k 0
    go zero b = rw add-zero e
    go (suc k) b =
        let p : i + suc k ≡ i + 1 + k = omega arith in
        rw p (h.at k (le_of_suc-le-suc b))

pub here-none : (l : List ℕ) (i : ℕ) → Here l i []
here-none l i = record { at = λ k b. absurd (omega arith) }

pub here-join : {l : List ℕ} {i n : ℕ} (xs ys : List ℕ) → length xs ≡ n → Here l i xs → Here l (i + n) ys → Here l i (xs ++ ys)
here-join {l} {i} {n} xs ys e h g = record { at = go }
  where
    go : (k : ℕ) → k < length (xs ++ ys) → get_or l (i + k) 0 ≡ get_or (xs ++ ys) k 0
    go k b = elim (dec_le (length xs) k) [
      | yes m ↦
          let p : i + k ≡ i + n + (k - n) = omega arith in
          let q : length xs + (k - n) ≡ k = omega arith in
          let r : k - n < length ys = omega (arith, length-append xs ys) in
          rw p (g.at (k - n) r) ∙ sym (get_or-append-add xs ys (k - n) 0) ∙ ap (λ (m : ℕ). get_or (xs ++ ys) m 0) q
      | no m ↦ h.at k (lt_of_not-le m) ∙ sym (get_or-append xs ys 0 k (lt_of_not-le m))
    ]

-- ---- the forms

pub read-size : {A : Type 0} {c : Codec A} → CodecLaws c → (l : List ℕ) (i : ℕ) → length (c.enc (c.dec l i)) ≡ c.size
read-size {A} {c} q l i = q.size_is (c.dec l i) (q.sound l i)

-- a whole list
pub reads_all : {A : Type 0} {c : Codec A} → CodecLaws c → (l : List ℕ) → length l ≡ c.size → Iff (Reads c l 0) (c.enc (c.dec l 0) ≡ l)
reads_all {A} {c} q l e = (
  (λ h. sym (ext_get_or 0 l (c.enc (c.dec l 0)) (e ∙ sym (read-size q l 0)) (λ k b. sym (ap (λ (n : ℕ). get_or l n 0) (zero-add k)) ∙ h.at k (omega (arith, read-size q l 0))))),
  λ r. subst (Here l 0) (sym r) (here-all l),
)

pub reads-one : {A : Type 0} (c : Cell A) (l : List ℕ) (i : ℕ) → Iff (Reads (one c) l i) (Kept c (get_or l i 0))
reads-one c l i = ((λ h. sym (here-head h)), λ e. here_cons (sym e) (here-none l (i + 1)))

-- n words, and what follows them at place j
pub reads-pair : {A B : Type 0} {c : Codec A} → CodecLaws c → (d : Codec B) (l : List ℕ) (i n j : ℕ) → c.size ≡ n → i + n ≡ j → Iff (Reads (pair c d) l i) (Reads c l i × Reads d l j)
reads-pair {A} {B} {c} r d l i n j e f =
    let q : i + c.size ≡ j = ap (λ (m : ℕ). i + m) e ∙ f in
    let xs = c.enc (c.dec l i) in
    let ys = d.enc (d.dec l (i + c.size)) in (
      (λ h. (here-front xs ys h, subst (λ (m : ℕ). Reads d l m) q (here-rest xs ys (read-size r l i) h))),
      λ p. here-join xs ys (read-size r l i) p.0 (subst (λ (m : ℕ). Reads d l m) (sym q) p.1),
    )

pub reads-as_a : {A B : Type 0} (f : B → A) (g : A → B) → ((a : A) → f (g a) ≡ a) → (c : Codec A) (l : List ℕ) (i : ℕ) → Iff (Reads (as_a f g c) l i) (Reads c l i)
reads-as_a f g fg c l i = (
  (λ h. subst (λ (x : _). Here l i (c.enc x)) (fg (c.dec l i)) h),
  λ h. subst (λ (x : _). Here l i (c.enc x)) (sym (fg (c.dec l i))) h,
)

pub reads-also : {A : Type 0} (p : A → Bool) (d : A) {c : Codec A} → CodecLaws c → c.Ok d → T (p d) → (l : List ℕ) (i : ℕ)
    → Iff (Reads (also p d c) l i) (Reads c l i × T (p (c.dec l i)))
reads-also {A} p d {c} r okd td l i = ((λ h. go (p x) refl h), λ q. subst (λ (y : A). Here l i (c.enc y)) (sym (ruled-same p d x q.1)) q.0)
  where
    x : A
    x = c.dec l i

    go : (b : Bool) → p x ≡ b → Here l i (c.enc (ruled p d x)) → Here l i (c.enc x) × T (p x)
    go true e h = (subst (λ (y : A). Here l i (c.enc y)) (ruled-same p d x (true-T e)) h, true-T e)
    go false e h =
        let q : x ≡ d = r.back d l i okd (subst (λ (y : A). Here l i (c.enc y)) (ruled-other p d x e) h) in
        (subst (λ (y : A). Here l i (c.enc y)) (ruled-other p d x e ∙ sym q) h, subst (λ (y : A). T (p y)) (sym q) td)

-- a count of at most n, that many values, and 0 in the other places
pub record Listed {A : Type 0} (c : Cell A) (n : ℕ) (l : List ℕ) (i : ℕ) : Type 0 where
  pub count : get_or l i 0 ≤ n
  pub values : (k : ℕ) → k < get_or l i 0 → Kept c (get_or l (i + 1 + k) 0)
  pub rest : (k : ℕ) → get_or l i 0 ≤ k → k < n → get_or l (i + 1 + k) 0 ≡ c.bits c.blank

module _ {A : Type 0} (c : Cell A) (n : ℕ) (l : List ℕ) (i : ℕ) where
  abbrev num : ℕ
  num = get_or l i 0

  abbrev held : ℕ → List A
  held m = table (value_at c l (i + 1) m) n

  -- word k of the list that is read where the count is m
  held_at : (m k : ℕ) → k < n → get_or (map c.bits (held m)) k 0 ≡ c.bits (value_at c l (i + 1) m k)
  held_at m k h =
      get_d_map c.bits (held m) k c.blank (rw length-table h)
      ∙ ap c.bits (get_d_table (value_at c l (i + 1) m) n k c.blank h)

  from-count : (m : ℕ) → num ≡ m → m ≤ n → Here l (i + 1) (map c.bits (held m)) → Listed c n l i
  from-count m e w h = record {
    count = omega arith;
    values = λ k b. sym (h.at k (len k (omega arith)) ∙ held_at m k (omega arith) ∙ ap c.bits (value_in c l (i + 1) m k (omega arith)));
    rest = λ k b g. h.at k (len k g) ∙ held_at m k g ∙ ap c.bits (value_out c l (i + 1) m k (omega arith));
  }
    where
      len : (k : ℕ) → k < n → k < length (map c.bits (held m))
      len k g = omega (arith, length-map (held m) c.bits, length-table (value_at c l (i + 1) m) n)

  to-count : Listed c n l i → Here l (i + 1) (map c.bits (held num))
  to-count r = record {
    at = λ k b.
        let g : k < n = omega (arith, length-map (held num) c.bits, length-table (value_at c l (i + 1) num) n) in
        go k g (ltb k num) refl ∙ sym (held_at num k g);
  }
    where
      go : (k : ℕ) → k < n → (t : Bool) → ltb k num ≡ t → get_or l (i + 1 + k) 0 ≡ c.bits (value_at c l (i + 1) num k)
      go k g true e = sym (ap c.bits (value_in c l (i + 1) num k (ltb-true k num e)) ∙ r.values k (ltb-true k num e))
      go k g false e = r.rest k (ltb-false k num e) g ∙ sym (ap c.bits (value_out c l (i + 1) num k (ltb-false k num e)))

  pub reads-counted : Iff (Reads (counted c n) l i) (Listed c n l i)
  reads-counted = (
    (λ h.
        let m = capped (suc n) num in
        from-count m (here-head h) (omega (arith, capped-lt (suc n) num (omega arith))) (here-rest (m ∷ []) (map c.bits (held m)) refl h)),
    λ r.
        let e : capped (suc n) num ≡ num = capped_same (suc n) num (omega (arith, r.count)) in
        subst (λ (m : ℕ). Here l i (m ∷ map c.bits (held m))) (sym e) (here_cons refl (to-count r)),
  )

-- a flag, and a value or 0
pub record Optional {A : Type 0} (c : Cell A) (l : List ℕ) (i : ℕ) : Type 0 where
  pub flag : get_or l i 0 < 2
  pub value : get_or l i 0 ≡ 1 → Kept c (get_or l (i + 1) 0)
  pub none : get_or l i 0 ≡ 0 → get_or l (i + 1) 0 ≡ 0

module _ {A : Type 0} (c : Cell A) (l : List ℕ) (i : ℕ) where
  abbrev u : ℕ
  u = get_or l i 0

  abbrev v : ℕ
  v = get_or l (i + 1) 0

  pub reads-maybe : Iff (Reads (maybe c) l i) (Optional c l i)
  unfolding maybe_of
  reads-maybe = ((λ h. go (eqb u 1) refl h), λ r. back (eqb u 1) refl r)
    where
      go : (t : Bool) → eqb u 1 ≡ t → Here l i (maybe_enc c (cond t (Some (c.read v)) None)) → Optional c l i
      go true e h =
          let k : v ≡ c.bits (c.read v) = here-head (here-rest (1 ∷ []) (c.bits (c.read v) ∷ []) refl h) in
          let w : u ≡ 1 = eqb-true u 1 e in
          record { flag = omega arith; value = λ z. sym k; none = λ z. absurd (omega arith) }
      go false e h =
          let w : u ≡ 0 = here-head h in
          record { flag = omega arith; value = λ z. absurd (omega arith); none = λ z. here-head (here-rest (0 ∷ []) (0 ∷ []) refl h) }

      back : (t : Bool) → eqb u 1 ≡ t → Optional c l i → Here l i (maybe_enc c (cond t (Some (c.read v)) None))
      back true e r = here_cons (eqb-true u 1 e) (here_cons (sym (r.value (eqb-true u 1 e))) (here-none l (i + 1 + 1)))
      back false e r =
          let n : u ≡ 1 → ⊥ = eqb-false u 1 e in
          let w : u ≡ 0 = zero_of u r.flag n in
          here_cons w (here_cons (r.none w) (here-none l (i + 1 + 1)))

-- ---- the cells

-- a float by its bits
pub kept-float : (f : Format) (w : ℕ) → Iff (Kept (float f) w) ((w < 2 * top f) × T (finite (of_bits f w)))
kept-float f w = (
  (λ e.
      let n = num_of-num f w in (
        subst (λ (m : ℕ). m < 2 * top f) e (to_bits-lt f (num_of f w) n.1),
        subst (λ (x : Float). T (finite x)) (sym (of_bits-to_bits f (num_of f w) n.1) ∙ ap (of_bits f) e) n.0,
      )),
  λ p.
      let h : w % top f < infinite f = ltb-true (w % top f) (infinite f) (sym (of_bits-finite f w) ∙ is_true (finite (of_bits f w)) p.1) in
      ap (to_bits f) (num_of_in f w h p.0) ∙ to_bits-of_bits f w p.0 (subst (λ (b : Bool). T (not b)) (nan_bits_is f w) (no_nan f w h)),
)

-- a number below n
pub kept-below : (n w : ℕ) → 0 < n → Iff (Kept (below n) w) (w < n)
kept-below n w p = ((λ e. subst (λ (m : ℕ). m < n) e (capped-lt n w p)), λ h. capped_same n w h)

-- a flag
pub kept-flag : (w : ℕ) → Iff (Kept flag w) (w < 2)
kept-flag w = ((λ e. subst (λ (m : ℕ). m < 2) e (flag-lt (eqb w 1))), λ h. go (eqb w 1) refl h)
  where
    flag-lt : (b : Bool) → flag_bits b < 2
    flag-lt true = lit< tt
    flag-lt false = lit< tt

    go : (t : Bool) → eqb w 1 ≡ t → w < 2 → flag_bits t ≡ w
    go true e h = sym (eqb-true w 1 e)
    go false e h = sym (zero_of w h (eqb-false w 1 e))
