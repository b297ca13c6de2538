-- Laws of images: the payload of an image, its checks and its length; and bytes whose blocks hold are the image of their payload.
use Rattle.std.proofs.Common.{◌≡◌, ℕ, ◌+◌, ◌-◌, ◌*◌, ◌/◌, ◌%◌, ◌^◌, ◌<◌, ◌≤◌, Bool, true, false, cond, ltb, List, [], ◌∷◌, ◌++◌, length, get_or, take, drop, set, sym, refl, ap, ◌∙◌, subst, add-zero, zero-add, add-one, arith, lit<, length-drop, length-take-le, get_or-drop, ext_get_or, take-add, lt-ltb, eq-eqb, eqb-true, bytes_eq}
use native.Mathlib.Decide.{dec_lt}
use Rattle.blocks.specs.Lists.{table, Words, Bytes, laid, Laid}
use Rattle.blocks.specs.Words.{block_bytes, block_words, checked_words, word_at, bytes8, bytes_of, mixed, check_of, holds, blocks_in, first_bad}
use Rattle.blocks.specs.Image.{payload_word, image_word, image_of, payload_of}
use Rattle.blocks.proofs.Lists.{length-table, get_d_table, table_ext, table_snoc, below-table, none_yet, next, turn, laid-length, laid-all, same-both}
use Rattle.blocks.proofs.Bytes.{word-at, length-bytes, bytes_snoc, bytes-of-words, under8}
use Rattle.blocks.proofs.Checks.{Checked, checked-none, checked-next, checked-all, check_ext, check_of-lt, first-none, all-before}

-- ---- the words of an image

module _ (p : List ℕ) where
  -- word m of block k, and its check
  pub word_in : (k m : ℕ) → m < checked_words → image_word p (block_words * k + m) ≡ payload_word p k m
  unfolding image_word
  word_in k m h =
      let a : (block_words * k + m) / block_words ≡ k = omega arith in
      let b : (block_words * k + m) % block_words ≡ m = omega arith in
      rw (a, b, lt-ltb m checked_words h)

  pub word_check : (k : ℕ) → image_word p (block_words * k + checked_words) ≡ check_of k (payload_word p k)
  unfolding image_word
  word_check k =
      let a : (block_words * k + checked_words) / block_words ≡ k = omega arith in
      let b : (block_words * k + checked_words) % block_words ≡ checked_words = omega arith in
      rw (a, b)

  pub image-length : (n : ℕ) → length (image_of n p) ≡ block_bytes * n
  unfolding image_of
  image-length n = length-bytes (table (image_word p) (block_words * n)) ∙ omega (arith, length-table (image_word p) (block_words * n))

  pub image-blocks : (n : ℕ) → blocks_in (image_of n p) ≡ n
  image-blocks n = omega (arith, image-length n)

  module _ (s : Words p) where
    word_lt : (i : ℕ) → image_word p i < 2 ^ 64
    unfolding image_word
    word_lt i = go (ltb (i % block_words) checked_words)
      where
        go : (t : Bool) → cond t (payload_word p (i / block_words) (i % block_words)) (check_of (i / block_words) (payload_word p (i / block_words))) < 2 ^ 64
        go true = s (checked_words * (i / block_words) + i % block_words)
        go false = check_of-lt (i / block_words) (payload_word p (i / block_words))

    at-word : (n i : ℕ) → i < block_words * n → word_at (image_of n p) i ≡ image_word p i
    unfolding image_of
    at-word n i h =
        word-at (table (image_word p) (block_words * n)) i (rw length-table h) (below-table (2 ^ 64) (image_word p) (block_words * n) (lit< tt) (λ k b. word_lt k))
        ∙ get_d_table (image_word p) (block_words * n) i 0 h

    -- the payload of an image is the payload that it was made of
    pub image-payload : (n : ℕ) → length p ≡ checked_words * n → payload_of (image_of n p) ≡ p
    unfolding payload_of
    image-payload n e =
        let f : ℕ → ℕ = λ k. word_at (image_of n p) (block_words * (k / checked_words) + k % checked_words) in
        ap (λ (m : ℕ). table f (checked_words * m)) (image-blocks n)
        ∙ ext_get_or 0 (table f (checked_words * n)) p (length-table f (checked_words * n) ∙ sym e)
        (λ k b.
        let h : k < checked_words * n = rw length-table at b in
        let d : checked_words * (k / checked_words) + k % checked_words ≡ k = omega arith in
        get_d_table f (checked_words * n) k 0 h
        ∙ at-word n (block_words * (k / checked_words) + k % checked_words) (omega arith)
        ∙ word_in (k / checked_words) (k % checked_words) (omega arith)
        ∙ ap (λ (m : ℕ). get_or p m 0) d)

    -- each block of an image holds
    pub image_holds : (n k : ℕ) → k < n → holds (image_of n p) k ≡ true
    unfolding holds
    image_holds n k h =
        eq-eqb _ _
        (check_ext k (λ m. word_at (image_of n p) (block_words * k + m)) (payload_word p k)
        (λ m b. at-word n (block_words * k + m) (omega arith) ∙ word_in k m b)
        ∙ sym (at-word n (block_words * k + checked_words) (omega arith) ∙ word_check k))

    pub image-first : (n : ℕ) → first_bad (image_of n p) ≡ n
    unfolding first_bad
    image-first n =
        let e = image-blocks n in
        first-none (holds (image_of n p)) 0 (blocks_in (image_of n p)) (λ j b. image_holds n j (omega (arith, e))) ∙ zero-add (blocks_in (image_of n p)) ∙ e

-- payloads with one image are the same
pub image_inj : (n : ℕ) (p q : List ℕ) → Words p → Words q → length p ≡ checked_words * n → length q ≡ checked_words * n → image_of n p ≡ image_of n q → p ≡ q
image_inj n p q s t a b e = sym (image-payload p s n a) ∙ ap payload_of e ∙ image-payload q t n b

-- ---- from the bytes

module _ (b : List ℕ) where
  pub payload-length : length (payload_of b) ≡ checked_words * blocks_in b
  unfolding payload_of
  payload-length = length-table (λ k. word_at b (block_words * (k / checked_words) + k % checked_words)) (checked_words * blocks_in b)

  pub payload-is : (k : ℕ) → k < checked_words * blocks_in b → get_or (payload_of b) k 0 ≡ word_at b (block_words * (k / checked_words) + k % checked_words)
  unfolding payload_of
  payload-is k h = get_d_table (λ j. word_at b (block_words * (j / checked_words) + j % checked_words)) (checked_words * blocks_in b) k 0 h

  pub payload-words : Bytes b → Words (payload_of b)
  unfolding payload_of
  payload-words s =
      below-table (2 ^ 64) (λ k. word_at b (block_words * (k / checked_words) + k % checked_words)) (checked_words * blocks_in b) (lit< tt)
      (λ k h. under8 b s (8 * (block_words * (k / checked_words) + k % checked_words)))

  -- word m of block k
  pub payload-at : (k m : ℕ) → k < blocks_in b → m < checked_words → payload_word (payload_of b) k m ≡ word_at b (block_words * k + m)
  payload-at k m h l = payload-is (checked_words * k + m) (omega arith) ∙ ap (word_at b) (omega arith)

  pub holding : (k : ℕ) → first_bad b ≡ blocks_in b → k < blocks_in b → holds b k ≡ true
  unfolding first_bad
  holding k e h = all-before (holds b) 0 (blocks_in b) k (e ∙ sym (zero-add (blocks_in b))) (omega arith) (omega arith)

  check_at : (k : ℕ) → k < blocks_in b → holds b k ≡ true → check_of k (payload_word (payload_of b) k) ≡ word_at b (block_words * k + checked_words)
  unfolding holds
  check_at k h t =
      check_ext k (payload_word (payload_of b) k) (λ m. word_at b (block_words * k + m)) (λ m l. payload-at k m h l)
      ∙ eqb-true _ _ t

  same_word : (i : ℕ) → first_bad b ≡ blocks_in b → i < block_words * blocks_in b → image_word (payload_of b) i ≡ word_at b i
  same_word i e h =
      let k = i / block_words in
      let m = i % block_words in
      let d : block_words * k + m ≡ i = omega arith in
      let kn : k < blocks_in b = omega arith in
      sym (ap (image_word (payload_of b)) d)
      ∙ (elim (dec_lt m checked_words) [
        | yes l ↦ word_in (payload_of b) k m l ∙ payload-at k m kn l
        | no l ↦
            let q : m ≡ checked_words = omega arith in
            rw q (word_check (payload_of b) k ∙ check_at k kn (holding k e kn))
      ])
      ∙ ap (word_at b) d

  -- whole blocks that all hold are the image of their payload
  pub image-of-payload : (n : ℕ) → length b ≡ block_bytes * n → Bytes b → first_bad b ≡ n → image_of n (payload_of b) ≡ b
  unfolding image_of
  image-of-payload n l s e =
      let q : blocks_in b ≡ n = omega arith in
      ap bytes_of (table_ext (image_word (payload_of b)) (word_at b) (block_words * n) (λ i h. same_word i (e ∙ sym q) (omega arith)))
      ∙ bytes-of-words b (block_words * n) s (omega arith)

-- whole blocks that all hold and have one payload are the same
pub payload_inj : (n : ℕ) (b b' : List ℕ) → length b ≡ block_bytes * n → length b' ≡ block_bytes * n → Bytes b → Bytes b' → first_bad b ≡ n → first_bad b' ≡ n
    → payload_of b ≡ payload_of b' → b ≡ b'
payload_inj n b b' l l' s s' e e' q = sym (image-of-payload b n l s e) ∙ ap (image_of n) q ∙ image-of-payload b' n l' s' e'

-- words that are compared with a payload, in place of bytes with an image
pub same-image : (n : ℕ) (p b : List ℕ) → length p ≡ checked_words * n → length b ≡ block_bytes * n → Words p → Bytes b → first_bad b ≡ n
    → bytes_eq p (payload_of b) ≡ bytes_eq (image_of n p) b
same-image n p b k l s t e =
    same-both (λ q. ap (image_of n) q ∙ image-of-payload b n l t e) (λ q. sym (image-payload p s n k) ∙ ap payload_of q)

-- what `write_image` and `payload` leave in a buffer of the right length
pub image-laid : (n : ℕ) (p b : List ℕ) → length b ≡ block_bytes * n → laid b 0 (image_of (blocks_in b) p) ≡ image_of n p
image-laid n p b l =
    let q : blocks_in b ≡ n = omega arith in
    ap (λ (m : ℕ). laid b 0 (image_of m p)) q ∙ laid-all b (image_of n p) (l ∙ sym (image-length p n))

pub payload-laid : (b w : List ℕ) → length w ≡ checked_words * blocks_in b → laid w 0 (payload_of b) ≡ payload_of b
payload-laid b w l = laid-all w (payload_of b) (l ∙ sym (payload-length b))

-- ---- the loop that writes an image

-- b' is b with the first i words of p's image laid over it
pub record Wrote (p : List ℕ) (i : ℕ) (b b' : List ℕ) : Type 0 where
  pub over : Laid b 0 (bytes_of (table (image_word p) i)) b'

pub wrote_none : (p b : List ℕ) → Wrote p (block_words * 0) b b
unfolding table bytes_of
wrote_none p b = record { over = none_yet b 0 }

wrote-next : {p b b₁ b₂ : List ℕ} {i j : ℕ} (w : ℕ) → Wrote p i b b₁ → i + 1 ≡ j → w ≡ image_word p i → Laid b₁ (8 * i) (bytes8 w) b₂ → Wrote p j b b₂
wrote-next {p} {b} {b₁} {b₂} {i} {j} w h e q l =
    let f = image_word p in
    let n : length (bytes_of (table f i)) ≡ 8 * i = length-bytes (table f i) ∙ ap (λ (m : ℕ). 8 * m) (length-table f i) in
    let t : table f j ≡ table f i ++ (w ∷ []) = ap (table f) (sym e ∙ add-one i) ∙ table_snoc f i ∙ ap (λ (z : ℕ). table f i ++ (z ∷ [])) (sym q) in
    record { over = subst (λ (x : List ℕ). Laid b 0 x b₂) (sym (ap bytes_of t ∙ bytes_snoc (table f i) w)) (next h.over n (zero-add (8 * i)) l) }

-- within block k, which began with the bytes b: j of its words are written, and c is their check
pub record Writing (p : List ℕ) (k j c : ℕ) (b b' : List ℕ) : Type 0 where
  pub within : j ≤ checked_words
  pub size : length b' ≡ length b
  pub more : (l : List ℕ) → Wrote p (block_words * k) l b → Wrote p (block_words * k + j) l b'
  pub checked : Checked (payload_word p k) k j c

pub writing_none : (p : List ℕ) (k : ℕ) (b : List ℕ) → Writing p k 0 k b b
writing_none p k b = record {
  within = omega arith;
  size = refl;
  more = λ l h. subst (λ (i : ℕ). Wrote p i l b) (sym (add-zero (block_words * k))) h;
  checked = checked-none (payload_word p k) k;
}

pub writing_next : {p b b₁ b₂ : List ℕ} {k j c : ℕ} (c' w : ℕ) → Writing p k j c b b₁ → j < checked_words → w ≡ payload_word p k j → c' ≡ mixed c w
    → Laid b₁ (8 * (block_words * k + j)) (bytes8 w) b₂ → Writing p k (j + 1) c' b b₂
writing_next {p} {b} {b₁} {b₂} {k} {j} {c} c' w h g e q l = record {
  within = omega arith;
  size = laid-length l ∙ h.size;
  more = λ x y. wrote-next w (h.more x y) (omega arith) (e ∙ sym (word_in p k j g)) l;
  checked = checked-next c' w h.checked e q;
}

pub writing_all : {p b b₁ b₂ x : List ℕ} {k j c : ℕ} → Writing p k j c b b₁ → checked_words ≤ j → Wrote p (block_words * k) x b
    → Laid b₁ (8 * (block_words * k + checked_words)) (bytes8 c) b₂ → Wrote p (block_words * (k + 1)) x b₂
writing_all {p} {b} {b₁} {b₂} {x} {k} {j} {c} h g y l =
    let e : j ≡ checked_words = omega (arith, h.within) in
    wrote-next c (subst (λ (i : ℕ). Wrote p (block_words * k + i) x b₁) e (h.more x y)) (omega arith) (checked-all h.checked e ∙ sym (word_check p k)) l

pub wrote-all : {p b b' : List ℕ} {k n : ℕ} → Wrote p (block_words * k) b b' → k ≡ n → b' ≡ laid b 0 (image_of n p)
unfolding image_of
wrote-all {p} {b} {b'} {k} {n} h e = h.over.is ∙ ap (λ (m : ℕ). laid b 0 (bytes_of (table (image_word p) (block_words * m)))) e

-- ---- the loops that read a payload

-- one word more of block k
pub block_next : (b : List ℕ) {w w₁ : List ℕ} {k j v : ℕ} → Laid w (checked_words * k) (take j (drop (checked_words * k) (payload_of b))) w₁ → k < blocks_in b → j < checked_words
    → v ≡ word_at b (block_words * k + j) → Laid w (checked_words * k) (take (j + 1) (drop (checked_words * k) (payload_of b))) (set w₁ (checked_words * k + j) v)
block_next b {w} {w₁} {k} {j} {v} p h g e =
    let xs = drop (checked_words * k) (payload_of b) in
    let n : length xs ≡ checked_words * blocks_in b - checked_words * k = length-drop (checked_words * k) (payload_of b) ∙ ap (λ (m : ℕ). m - checked_words * k) (payload-length b) in
    turn xs p (omega arith) (e ∙ sym (get_or-drop (checked_words * k) (payload_of b) j 0 ∙ payload-at b k j h g))

-- the first i words, and the n after them
pub payload-next : (p : List ℕ) (n j : ℕ) {w w₁ w₂ : List ℕ} {i : ℕ} → Laid w 0 (take i p) w₁ → i ≤ length p → i + n ≡ j → Laid w₁ i (take n (drop i p)) w₂ → Laid w 0 (take j p) w₂
payload-next p n j {w} {w₁} {w₂} {i} h g e q =
    subst (λ (x : List ℕ). Laid w 0 x w₂) (sym (take-add i n p) ∙ ap (λ (m : ℕ). take m p) e) (next h (length-take-le i p g) (zero-add i) q)
