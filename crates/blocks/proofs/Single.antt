-- A change within a single word is always caught: its block is then the first bad one.
use Rattle.std.proofs.Common.{◌≡◌, ℕ, ◌+◌, ◌*◌, ◌/◌, ◌%◌, ◌<◌, true, false, List, length, sym, ap, ◌∙◌, arith, ext_get_or, eq-eqb, ne_eqb, eqb-true}
use native.Mathlib.Decide.{dec_lt, ℕ_discrete}
use Rattle.blocks.specs.Words.{block_bytes, block_words, checked_words, word_at, holds, blocks_in, first_bad}
use Rattle.blocks.specs.Image.{OneWord}
use Rattle.blocks.proofs.Bytes.{byte-same, word_same, under8}
use Rattle.blocks.proofs.Checks.{check_ext, one_word, first-at}
use Rattle.blocks.proofs.Images.{holding}

module _ (k : ℕ) (b b' : List ℕ) (c : OneWord k b b') where
  -- every other word is as it was
  other : (j : ℕ) → (j ≡ k → ⊥) → word_at b' j ≡ word_at b j
  other j q = word_same b b' j (λ i e. c.elsewhere i (λ z. q (sym e ∙ z)))

  -- and word k isn't
  unlike : word_at b' k ≡ word_at b k → ⊥
  unlike e =
      c.differ
      (ext_get_or 0 b' b c.size
      (λ i h. elim (ℕ_discrete (i / 8) k) [
        | yes q ↦ byte-same b b' c.bytes c.bytes' k e i q
        | no q ↦ c.elsewhere i q
      ]))

  -- it lies in the bytes
  pub inside : (n : ℕ) → length b ≡ block_bytes * n → k < block_words * n
  inside n l = elim (dec_lt k (block_words * n)) [
    | yes h ↦ h
    | no h ↦ absurd (c.differ (ext_get_or 0 b' b c.size (λ i g. c.elsewhere i (λ z. h (omega (arith, c.size))))))
  ]

  -- a block before that of word k holds as it did
  before : (j : ℕ) → j < k / block_words → holds b j ≡ true → holds b' j ≡ true
  unfolding holds
  before j h t =
      let f : (m : ℕ) → m < block_words → word_at b' (block_words * j + m) ≡ word_at b (block_words * j + m) = λ m l. other (block_words * j + m) (λ q. omega arith) in
      eq-eqb _ _
      (check_ext j (λ m. word_at b' (block_words * j + m)) (λ m. word_at b (block_words * j + m)) (λ m l. f m (omega arith))
      ∙ eqb-true _ _ t
      ∙ sym (f checked_words (omega arith)))

  -- the block of word k does not: its check fails for one of the 63 words, or is itself another
  there : (j m : ℕ) → m < block_words → block_words * j + m ≡ k → holds b j ≡ true → holds b' j ≡ false
  unfolding holds
  there j m l d t =
      ne_eqb _ _
      (λ e. elim (dec_lt m checked_words) [
        | yes h ↦
            unlike
            (sym (ap (word_at b') d)
            ∙ one_word j (λ i. word_at b' (block_words * j + i)) (λ i. word_at b (block_words * j + i)) m h
            (under8 b' c.bytes' (8 * (block_words * j + m))) (under8 b c.bytes (8 * (block_words * j + m)))
            (λ i g q. other (block_words * j + i) (λ z. q (omega arith)))
            (e ∙ other (block_words * j + checked_words) (λ z. omega arith) ∙ sym (eqb-true _ _ t))
            ∙ ap (word_at b) d)
        | no h ↦
            let q : block_words * j + checked_words ≡ k = omega arith in
            unlike
            (sym (ap (word_at b') q)
            ∙ sym e
            ∙ check_ext j (λ i. word_at b' (block_words * j + i)) (λ i. word_at b (block_words * j + i)) (λ i g. other (block_words * j + i) (λ z. omega arith))
            ∙ eqb-true _ _ t
            ∙ ap (word_at b) q)
      ])

  -- of whole blocks that all hold, the block of the changed word is the first bad one
  pub one-word_caught : (n : ℕ) → length b ≡ block_bytes * n → first_bad b ≡ n → first_bad b' ≡ k / block_words
  unfolding first_bad
  one-word_caught n l e =
      let q : blocks_in b ≡ n = omega arith in
      let q' : blocks_in b' ≡ n = omega (arith, c.size) in
      let h : k < block_words * n = inside n l in
      let good : (j : ℕ) → j < n → holds b j ≡ true = λ j a. holding b j (unfold first_bad in (e ∙ sym q)) (omega arith) in
      first-at (holds b') 0 (blocks_in b') (k / block_words) (omega arith) (omega arith)
      (λ j a g. before j g (good j (omega arith)))
      (there (k / block_words) (k % block_words) (omega arith) (omega arith) (good (k / block_words) (omega arith)))
