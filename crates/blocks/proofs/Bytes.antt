-- Laws of words and their bytes: what is written is read back, and what was read is written again.
use Rattle.std.proofs.Common.{◌≡◌, ℕ, zero, suc, ◌+◌, ◌-◌, ◌*◌, ◌/◌, ◌%◌, ◌^◌, ◌<◌, List, [], ◌∷◌, ◌++◌, length, get_or, drop, sym, refl, ap, ◌∙◌, append_assoc, append-nil, le_of_suc-le-suc, not-suc-le-zero, lt_of_not-le, arith, get_or-append-add, get_or-take, get_or-drop, ext_get_or}
use Rattle.std.specs.Int.{w64, from_le_bytes, to_le_bytes}
use Rattle.std.specs.Simd.{first_chunks}
use native.Mathlib.Decide.{dec_le}
use lib.ListN.{get_or-append}
use Rattle.blocks.specs.Lists.{table, Words, Bytes}
use Rattle.blocks.specs.Words.{word2, word4, word8, word_at, bytes2, bytes4, bytes8, bytes_of}
use Rattle.blocks.proofs.Lists.{length-table, get_d_table}

-- a word from its bytes, the lowest first
pub word-from : (b bytes : List ℕ) (i n : ℕ) → n ≡ from_le_bytes w64 bytes → ((k : ℕ) → k < 8 → get_or bytes k 0 ≡ get_or b (i + k) 0) → n ≡ word8 b i
unfolding word8
word-from b bytes i n e h =
    let at : (j k : ℕ) → j ≡ i + k → k < 8 → get_or bytes k 0 ≡ get_or b j 0 = λ j k q l. h k l ∙ ap (λ (m : ℕ). get_or b m 0) (sym q) in
    omega (
      arith,
      e,
      at i 0 (omega arith) (omega arith),
      at (i + 1) 1 (omega arith) (omega arith),
      at (i + 2) 2 (omega arith) (omega arith),
      at (i + 2 + 1) 3 (omega arith) (omega arith),
      at (i + 4) 4 (omega arith) (omega arith),
      at (i + 4 + 1) 5 (omega arith) (omega arith),
      at (i + 4 + 2) 6 (omega arith) (omega arith),
      at (i + 4 + 2 + 1) 7 (omega arith) (omega arith),
    )

-- byte j of chunk k
pub chunk-byte : (n m : ℕ) (b d : List ℕ) (k j : ℕ) → k < m → j < n → get_or (get_or (first_chunks n m b) k d) j 0 ≡ get_or b (n * k + j) 0
chunk-byte n zero b d k j h l = absurd (omega arith)
chunk-byte n (suc m) b d zero j h l = get_or-take n b j 0 l ∙ ap (λ (i : ℕ). get_or b i 0) (omega arith)
chunk-byte n (suc m) b d (suc k) j h l =
    chunk-byte n m (drop n b) d k j (omega arith) l ∙ get_or-drop n b (n * k + j) 0 ∙ ap (λ (i : ℕ). get_or b i 0) (omega arith)

-- word k of some bytes, which are cut into words
pub word-chunk : (b : List ℕ) (words : List (List ℕ)) (k w : ℕ) → words ≡ first_chunks 8 (length b / 8) b → k < length b / 8
    → w ≡ from_le_bytes w64 (get_or words k []) → w ≡ word_at b k
word-chunk b words k w cut h e =
    let chunk : get_or words k [] ≡ get_or (first_chunks 8 (length b / 8) b) k [] = ap (λ (l : List (List ℕ)). get_or l k []) cut in
    word-from b (get_or words k []) (8 * k) w e
    (λ j l. ap (λ (l : List ℕ). get_or l j 0) chunk ∙ chunk-byte 8 (length b / 8) b [] k j h l)

-- the bytes of a word, the lowest first
pub word-bytes : (w : ℕ) → w < 2 ^ 64 → to_le_bytes w64 w ≡ bytes8 w
unfolding bytes8 bytes4
word-bytes w h =
    let e0 : w % 256 ≡ w % 4294967296 % 65536 % 256 = omega arith in
    let e1 : w / 256 % 256 ≡ w % 4294967296 % 65536 / 256 = omega arith in
    let e2 : w / 65536 % 256 ≡ w % 4294967296 / 65536 % 256 = omega arith in
    let e3 : w / 16777216 % 256 ≡ w % 4294967296 / 65536 / 256 = omega arith in
    let e4 : w / 4294967296 % 256 ≡ w / 4294967296 % 65536 % 256 = omega arith in
    let e5 : w / 1099511627776 % 256 ≡ w / 4294967296 % 65536 / 256 = omega arith in
    let e6 : w / 281474976710656 % 256 ≡ w / 4294967296 / 65536 % 256 = omega arith in
    let e7 : w / 72057594037927936 % 256 ≡ w / 4294967296 / 65536 / 256 = omega arith in
    λ i. e0 i ∷ e1 i ∷ e2 i ∷ e3 i ∷ e4 i ∷ e5 i ∷ e6 i ∷ e7 i ∷ []

pub length8 : (w : ℕ) → length (bytes8 w) ≡ 8
unfolding bytes8 bytes4
length8 w = refl

pub length-bytes : (ws : List ℕ) → length (bytes_of ws) ≡ 8 * length ws
unfolding bytes_of bytes8 bytes4
length-bytes [] = refl
length-bytes (w ∷ ws) = omega (arith, length-bytes ws)

pub bytes_snoc : (ws : List ℕ) (w : ℕ) → bytes_of (ws ++ (w ∷ [])) ≡ bytes_of ws ++ bytes8 w
unfolding bytes_of
bytes_snoc [] w = append-nil (bytes8 w)
bytes_snoc (v ∷ ws) w = ap (λ (l : List ℕ). bytes8 v ++ l) (bytes_snoc ws w) ∙ sym (append_assoc (bytes8 v) (bytes_of ws) (bytes8 w))

-- ---- what is written is read back

word-here : (w : ℕ) (r : List ℕ) → w < 2 ^ 64 → word8 (bytes8 w ++ r) 0 ≡ w
unfolding word8 bytes8 bytes4
word-here w r h = omega arith

byte_past : (w : ℕ) (r : List ℕ) (i x : ℕ) → i ≡ 8 + x → get_or (bytes8 w ++ r) i 0 ≡ get_or r x 0
unfolding bytes8 bytes4
byte_past w r i x e = ap (λ (n : ℕ). get_or (bytes8 w ++ r) n 0) e ∙ get_or-append-add (bytes8 w) r x 0

word-past : (w : ℕ) (r : List ℕ) (j : ℕ) → word8 (bytes8 w ++ r) (8 + j) ≡ word8 r j
unfolding word8
word-past w r j =
    let g : (i x : ℕ) → i ≡ 8 + x → get_or (bytes8 w ++ r) i 0 ≡ get_or r x 0 = byte_past w r in
    omega (
      arith,
      g (8 + j) j refl,
      g (8 + j + 1) (j + 1) (omega arith),
      g (8 + j + 2) (j + 2) (omega arith),
      g (8 + j + 2 + 1) (j + 2 + 1) (omega arith),
      g (8 + j + 4) (j + 4) (omega arith),
      g (8 + j + 4 + 1) (j + 4 + 1) (omega arith),
      g (8 + j + 4 + 2) (j + 4 + 2) (omega arith),
      g (8 + j + 4 + 2 + 1) (j + 4 + 2 + 1) (omega arith),
    )

pub word-at : (ws : List ℕ) (k : ℕ) → k < length ws → Words ws → word_at (bytes_of ws) k ≡ get_or ws k 0
unfolding bytes_of
word-at [] k h s = absurd (not-suc-le-zero h)
word-at (w ∷ ws) zero h s = word-here w (bytes_of ws) (s 0)
word-at (w ∷ ws) (suc k) h s =
    let e : 8 * suc k ≡ 8 + 8 * k = omega arith in
    rw e (word-past w (bytes_of ws) (8 * k) ∙ word-at ws k (le_of_suc-le-suc h) (λ j. s (suc j)))

-- ---- what was read is written again

low2 : (x y : ℕ) → x < 256 → ((x + y * 256) % 256 ≡ x) × ((x + y * 256) / 256 ≡ y)
low2 x y h = (omega arith, omega arith)

low4 : (x y : ℕ) → x < 65536 → ((x + y * 65536) % 65536 ≡ x) × ((x + y * 65536) / 65536 ≡ y)
low4 x y h = (omega arith, omega arith)

low8 : (x y : ℕ) → x < 4294967296 → ((x + y * 4294967296) % 4294967296 ≡ x) × ((x + y * 4294967296) / 4294967296 ≡ y)
low8 x y h = (omega arith, omega arith)

module _ (b : List ℕ) (s : Bytes b) where
  under2 : (i : ℕ) → word2 b i < 65536
  under2 i = omega (arith, s i, s (i + 1))

  under4 : (i : ℕ) → word4 b i < 4294967296
  under4 i = omega (arith, under2 i, under2 (i + 2))

  pub under8 : (i : ℕ) → word8 b i < 2 ^ 64
  unfolding word8
  under8 i = omega (arith, under4 i, under4 (i + 4))

  again2 : (i : ℕ) → bytes2 (word2 b i) ≡ get_or b i 0 ∷ get_or b (i + 1) 0 ∷ []
  again2 i = let e = low2 (get_or b i 0) (get_or b (i + 1) 0) (s i) in λ k. e.0 k ∷ e.1 k ∷ []

  again4 : (i : ℕ) → bytes4 (word4 b i) ≡ bytes2 (word2 b i) ++ bytes2 (word2 b (i + 2))
  unfolding bytes4
  again4 i = let e = low4 (word2 b i) (word2 b (i + 2)) (under2 i) in λ k. bytes2 (e.0 k) ++ bytes2 (e.1 k)

  again8 : (i : ℕ) → bytes8 (word8 b i) ≡ bytes4 (word4 b i) ++ bytes4 (word4 b (i + 4))
  unfolding bytes8 word8
  again8 i = let e = low8 (word4 b i) (word4 b (i + 4)) (under4 i) in λ k. bytes4 (e.0 k) ++ bytes4 (e.1 k)

  eight : (i : ℕ) → bytes8 (word8 b i)
      ≡ ((get_or b i 0 ∷ get_or b (i + 1) 0 ∷ []) ++ (get_or b (i + 2) 0 ∷ get_or b (i + 2 + 1) 0 ∷ []))
      ++ ((get_or b (i + 4) 0 ∷ get_or b (i + 4 + 1) 0 ∷ []) ++ (get_or b (i + 4 + 2) 0 ∷ get_or b (i + 4 + 2 + 1) 0 ∷ []))
  eight i =
      again8 i
      ∙ (λ k. again4 i k ++ again4 (i + 4) k)
      ∙ (λ k. (again2 i k ++ again2 (i + 2) k) ++ (again2 (i + 4) k ++ again2 (i + 4 + 2) k))

  byte-again : (i j : ℕ) → j < 8 → get_or (bytes8 (word8 b i)) j 0 ≡ get_or b (i + j) 0
  byte-again i j h = ap (λ (l : List ℕ). get_or l j 0) (eight i) ∙ go j h
    where
      at : (m n : ℕ) → m ≡ n → get_or b m 0 ≡ get_or b n 0
      at m n e = ap (λ (k : ℕ). get_or b k 0) e

      go : (j : ℕ) → j < 8 → get_or (((get_or b i 0 ∷ get_or b (i + 1) 0 ∷ []) ++ (get_or b (i + 2) 0 ∷ get_or b (i + 2 + 1) 0 ∷ []))
          ++ ((get_or b (i + 4) 0 ∷ get_or b (i + 4 + 1) 0 ∷ []) ++ (get_or b (i + 4 + 2) 0 ∷ get_or b (i + 4 + 2 + 1) 0 ∷ []))) j 0 ≡ get_or b (i + j) 0
      go zero h = at i (i + 0) (omega arith)
      go (suc zero) h = refl
      go (suc (suc zero)) h = refl
      go (suc (suc (suc zero))) h = at (i + 2 + 1) (i + 3) (omega arith)
      go (suc (suc (suc (suc zero)))) h = refl
      go (suc (suc (suc (suc (suc zero))))) h = at (i + 4 + 1) (i + 5) (omega arith)
      go (suc (suc (suc (suc (suc (suc zero)))))) h = at (i + 4 + 2) (i + 6) (omega arith)
      go (suc (suc (suc (suc (suc (suc (suc zero))))))) h = at (i + 4 + 2 + 1) (i + 7) (omega arith)
      go (suc (suc (suc (suc (suc (suc (suc (suc j)))))))) h = absurd (omega arith)

-- byte i of some words
byte_at : (ws : List ℕ) (i : ℕ) → i < 8 * length ws → get_or (bytes_of ws) i 0 ≡ get_or (bytes8 (get_or ws (i / 8) 0)) (i % 8) 0
unfolding bytes_of
byte_at [] i h = absurd (omega arith)
byte_at (w ∷ ws) i h = elim (dec_le 8 i) [
  | yes g ↦
      let e : i / 8 ≡ suc ((i - 8) / 8) = omega arith in
      let f : i % 8 ≡ (i - 8) % 8 = omega arith in
      byte_past w (bytes_of ws) i (i - 8) (omega arith) ∙ byte_at ws (i - 8) (omega arith) ∙ rw (e, f)
  | no g ↦
      let l : i < 8 = lt_of_not-le g in
      let e : i / 8 ≡ 0 = omega arith in
      let f : i % 8 ≡ i = omega arith in
      get_or-append (bytes8 w) (bytes_of ws) 0 i (omega (arith, length8 w)) ∙ rw (e, f)
]

pub bytes-of-words : (b : List ℕ) (n : ℕ) → Bytes b → length b ≡ 8 * n → bytes_of (table (word_at b) n) ≡ b
bytes-of-words b n s e =
    let t = table (word_at b) n in
    let l : length (bytes_of t) ≡ 8 * n = length-bytes t ∙ ap (λ (m : ℕ). 8 * m) (length-table (word_at b) n) in
    ext_get_or 0 (bytes_of t) b (l ∙ sym e)
    (λ i h.
    let m : i < 8 * n = omega (arith, l) in
    let f : 8 * (i / 8) + i % 8 ≡ i = omega arith in
    byte_at t i (omega (arith, length-table (word_at b) n))
    ∙ ap (λ (w : ℕ). get_or (bytes8 w) (i % 8) 0) (get_d_table (word_at b) n (i / 8) 0 (omega arith))
    ∙ byte-again b s (8 * (i / 8)) (i % 8) (omega arith)
    ∙ ap (λ (k : ℕ). get_or b k 0) f)

-- where two words are the same, so are their bytes
pub byte-same : (b b' : List ℕ) → Bytes b → Bytes b' → (k : ℕ) → word_at b' k ≡ word_at b k → (i : ℕ) → i / 8 ≡ k → get_or b' i 0 ≡ get_or b i 0
byte-same b b' s s' k e i f =
    let g : 8 * k + i % 8 ≡ i = omega arith in
    sym (ap (λ (n : ℕ). get_or b' n 0) g)
    ∙ sym (byte-again b' s' (8 * k) (i % 8) (omega arith))
    ∙ ap (λ (w : ℕ). get_or (bytes8 w) (i % 8) 0) e
    ∙ byte-again b s (8 * k) (i % 8) (omega arith)
    ∙ ap (λ (n : ℕ). get_or b n 0) g

-- where their eight bytes are the same, so are two words
pub word_same : (b b' : List ℕ) (k : ℕ) → ((i : ℕ) → i / 8 ≡ k → get_or b' i 0 ≡ get_or b i 0) → word_at b' k ≡ word_at b k
unfolding word8
word_same b b' k g =
    omega (
      arith,
      g (8 * k) (omega arith),
      g (8 * k + 1) (omega arith),
      g (8 * k + 2) (omega arith),
      g (8 * k + 2 + 1) (omega arith),
      g (8 * k + 4) (omega arith),
      g (8 * k + 4 + 1) (omega arith),
      g (8 * k + 4 + 2) (omega arith),
      g (8 * k + 4 + 2 + 1) (omega arith),
    )
