-- Laws of checks: one word more, what two words in one place do to a check, and the first bad block.
use Rattle.std.proofs.Common.{◌≡◌, ℕ, zero, suc, ◌+◌, ◌-◌, ◌*◌, ◌/◌, ◌%◌, ◌^◌, ◌<◌, ◌≤◌, Bool, true, false, cond, eqb, Option, Some, None, is_some, List, [], ◌∷◌, ◌++◌, sym, refl, ap, ◌∙◌, le_refl, le_of_suc-le-suc, add-zero, div-add-mod', add-one, arith, eq-eqb, ne_eqb, eqb-true, ltb, ltb-true, ltb-false}
use mathlib.Core.Bool.{true≢false}
use native.Mathlib.Decide.{ℕ_discrete}
use Rattle.blocks.specs.Lists.{table}
use Rattle.blocks.specs.Words.{block_words, checked_words, word_at, rotated, mixed, check_from, check_of, holds, first_from, blocks_in, first_bad, bad_of}
use Rattle.blocks.proofs.Lists.{table_snoc, table_ext}

-- ---- one word more

check_snoc : (c : ℕ) (ws : List ℕ) (w : ℕ) → check_from c (ws ++ (w ∷ [])) ≡ mixed (check_from c ws) w
unfolding check_from
check_snoc c [] w = refl
check_snoc c (v ∷ ws) w = check_snoc (mixed c v) ws w

-- c is the check of block k after j of its words f 0, f 1, ..
pub record Checked (f : ℕ → ℕ) (k j c : ℕ) : Type 0 where
  pub is : c ≡ check_from k (table f j)

pub checked-none : (f : ℕ → ℕ) (k : ℕ) → Checked f k 0 k
unfolding table check_from
checked-none f k = record { is = refl }

pub checked-next : {f : ℕ → ℕ} {k j c : ℕ} (c' w : ℕ) → Checked f k j c → w ≡ f j → c' ≡ mixed c w → Checked f k (j + 1) c'
checked-next {f} {k} {j} {c} c' w h ew e = record {
  is = e ∙ (λ i. mixed (h.is i) (ew i)) ∙ sym (check_snoc k (table f j) (f j)) ∙ ap (check_from k) (sym (table_snoc f j) ∙ ap (table f) (sym (add-one j)));
}

pub checked-all : {f : ℕ → ℕ} {k j c : ℕ} → Checked f k j c → j ≡ checked_words → c ≡ check_of k f
unfolding check_of
checked-all {f} {k} {j} {c} h e = h.is ∙ ap (λ (n : ℕ). check_from k (table f n)) e

pub check_ext : (k : ℕ) (f g : ℕ → ℕ) → ((m : ℕ) → m < checked_words → f m ≡ g m) → check_of k f ≡ check_of k g
unfolding check_of
check_ext k f g h = ap (check_from k) (table_ext f g checked_words h)

-- ---- a check is a word

pub mixed-lt : (c w : ℕ) → mixed c w < 2 ^ 64
unfolding mixed
mixed-lt c w = omega arith

check_lt : (c : ℕ) (ws : List ℕ) → c < 2 ^ 64 → check_from c ws < 2 ^ 64
unfolding check_from
check_lt c [] h = h
check_lt c (w ∷ ws) h = check_lt (mixed c w) ws (mixed-lt c w)

some-lt : (k : ℕ) (f : ℕ → ℕ) (n : ℕ) → check_from k (table f (suc n)) < 2 ^ 64
unfolding table check_from
some-lt k f n = check_lt (mixed k (f 0)) (table (λ j. f (suc j)) n) (mixed-lt k (f 0))

pub check_of-lt : (k : ℕ) (f : ℕ → ℕ) → check_of k f < 2 ^ 64
unfolding check_of
check_of-lt k f = some-lt k f 62

-- ---- two words in one place give two checks
-- (`omega` works with numbers of at most 38 digits: the halves of a word are taken apart in small steps)

halves : (x : ℕ) → x < 2 ^ 64 → rotated x ≡ x % 2 ^ 63 * 2 + x / 2 ^ 63
unfolding rotated
halves x h = let e : x * 2 % 2 ^ 64 ≡ x % 2 ^ 63 * 2 = omega arith in ap (λ (n : ℕ). n + x / 2 ^ 63) e

top_bit : (x : ℕ) → x < 2 ^ 64 → x / 2 ^ 63 < 2
top_bit x h = omega arith

low_bits : (x : ℕ) → x % 2 ^ 63 < 2 ^ 63
low_bits x = omega arith

apart : (l h l' h' : ℕ) → h < 2 → h' < 2 → l * 2 + h ≡ l' * 2 + h' → (l ≡ l') × (h ≡ h')
apart l h l' h' a b e = (omega arith, omega arith)

rotated_inj : (x y : ℕ) → x < 2 ^ 64 → y < 2 ^ 64 → rotated x ≡ rotated y → x ≡ y
rotated_inj x y a b e =
    let s = apart (x % 2 ^ 63) (x / 2 ^ 63) (y % 2 ^ 63) (y / 2 ^ 63) (top_bit x a) (top_bit y b) (sym (halves x a) ∙ e ∙ halves y b) in
    sym (div-add-mod' x (2 ^ 63)) ∙ (λ i. s.1 i * 2 ^ 63 + s.0 i) ∙ div-add-mod' y (2 ^ 63)

join-lt : (l h : ℕ) → l < 2 ^ 63 → h < 2 → l * 2 + h < 2 ^ 64
join-lt l h a b = omega arith

rotated-lt : (x : ℕ) → x < 2 ^ 64 → rotated x < 2 ^ 64
rotated-lt x h = rw (halves x h) (join-lt (x % 2 ^ 63) (x / 2 ^ 63) (low_bits x) (top_bit x h))

cancel : (a b w : ℕ) → a < 2 ^ 64 → b < 2 ^ 64 → (a + w) % 2 ^ 64 ≡ (b + w) % 2 ^ 64 → a ≡ b
cancel a b w h g e = omega arith

mixed-left : (c d w : ℕ) → c < 2 ^ 64 → d < 2 ^ 64 → mixed c w ≡ mixed d w → c ≡ d
unfolding mixed
mixed-left c d w a b e = rotated_inj c d a b (cancel (rotated c) (rotated d) w (rotated-lt c a) (rotated-lt d b) e)

mixed-right : (c v w : ℕ) → v < 2 ^ 64 → w < 2 ^ 64 → mixed c v ≡ mixed c w → v ≡ w
unfolding mixed
mixed-right c v w a b e = omega arith

check_left : (c d : ℕ) (ws : List ℕ) → c < 2 ^ 64 → d < 2 ^ 64 → check_from c ws ≡ check_from d ws → c ≡ d
unfolding check_from
check_left c d [] a b e = e
check_left c d (w ∷ ws) a b e = mixed-left c d w a b (check_left (mixed c w) (mixed d w) ws (mixed-lt c w) (mixed-lt d w) e)

-- words that differ at most in place m, with one check, don't differ there
one_place : (c : ℕ) (f g : ℕ → ℕ) (n m : ℕ) → m < n → f m < 2 ^ 64 → g m < 2 ^ 64 → ((i : ℕ) → i < n → (i ≡ m → ⊥) → f i ≡ g i)
    → check_from c (table f n) ≡ check_from c (table g n) → f m ≡ g m
unfolding check_from table
one_place c f g zero m h a b s e = absurd (omega arith)
one_place c f g (suc n) zero h a b s e =
    let t : table (λ k. f (suc k)) n ≡ table (λ k. g (suc k)) n = table_ext (λ k. f (suc k)) (λ k. g (suc k)) n (λ k l. s (suc k) (omega arith) (λ q. omega arith)) in
    mixed-right c (f 0) (g 0) a b
    (check_left (mixed c (f 0)) (mixed c (g 0)) (table (λ k. g (suc k)) n) (mixed-lt c (f 0)) (mixed-lt c (g 0))
    (ap (check_from (mixed c (f 0))) (sym t) ∙ e))
one_place c f g (suc n) (suc m) h a b s e =
    one_place (mixed c (f 0)) (λ k. f (suc k)) (λ k. g (suc k)) n m (le_of_suc-le-suc h) a b (λ i l q. s (suc i) (omega arith) (λ z. q (omega arith)))
    (e ∙ ap (λ (w : ℕ). check_from (mixed c w) (table (λ k. g (suc k)) n)) (sym (s 0 (omega arith) (λ z. omega arith))))

pub one_word : (k : ℕ) (f g : ℕ → ℕ) (m : ℕ) → m < checked_words → f m < 2 ^ 64 → g m < 2 ^ 64 → ((i : ℕ) → i < checked_words → (i ≡ m → ⊥) → f i ≡ g i)
    → check_of k f ≡ check_of k g → f m ≡ g m
unfolding check_of
one_word k f g m h a b s e = one_place k f g checked_words m h a b s e

-- ---- the first failure

pub from_start : (p : ℕ → Bool) (n : ℕ) → first_from p 0 (n - 0) ≡ first_from p 0 n
from_start p n = ap (first_from p 0) (omega arith)

-- past a success, at a failure, and at the end
pub past : (p : ℕ → Bool) (k n : ℕ) → k < n → p k ≡ true → first_from p k (n - k) ≡ first_from p (k + 1) (n - (k + 1))
unfolding first_from
past p k n h e =
    let e1 : n - k ≡ suc (n - (k + 1)) = omega arith in
    rw (e1, e, add-one)

pub here : (p : ℕ → Bool) (k n : ℕ) → k < n → p k ≡ false → first_from p k (n - k) ≡ k
unfolding first_from
here p k n h e =
    let e1 : n - k ≡ suc (n - (k + 1)) = omega arith in
    rw (e1, e)

pub at-end : (p : ℕ → Bool) (k n : ℕ) → n ≤ k → first_from p k (n - k) ≡ k
unfolding first_from
at-end p k n h = let e : n - k ≡ 0 = omega arith in rw e

-- the first failure is at m
pub first-at : (p : ℕ → Bool) (k n m : ℕ) → k ≤ m → m < k + n → ((j : ℕ) → k ≤ j → j < m → p j ≡ true) → p m ≡ false → first_from p k n ≡ m
unfolding first_from
first-at p k zero m l h s e = absurd (omega arith)
first-at p k (suc n) m l h s e = elim (ℕ_discrete k m) [
  | yes q ↦ rw (ap p q ∙ e) q
  | no q ↦ rw (s k (le_refl k) (omega arith)) (first-at p (suc k) n m (omega arith) (omega arith) (λ j a b. s j (omega arith) b) e)
]

-- there is none
pub first-none : (p : ℕ → Bool) (k n : ℕ) → ((j : ℕ) → j < k + n → p j ≡ true) → first_from p k n ≡ k + n
unfolding first_from
first-none p k zero s = sym (add-zero k)
first-none p k (suc n) s =
    let e : suc k + n ≡ k + suc n = omega arith in
    rw (s k (omega arith)) (first-none p (suc k) n (λ j b. s j (omega arith)) ∙ e)

pub all-before : (p : ℕ → Bool) (k n j : ℕ) → first_from p k n ≡ k + n → k ≤ j → j < k + n → p j ≡ true
unfolding first_from
all-before p k zero j e l h = absurd (omega arith)
all-before p k (suc n) j e l h = go (p k) refl e (all-before p (suc k) n j)
  where
    go : (z : Bool) → p k ≡ z → cond z (first_from p (suc k) n) k ≡ k + suc n
        → (first_from p (suc k) n ≡ suc k + n → suc k ≤ j → j < suc k + n → p j ≡ true) → p j ≡ true
    go true t f rest = elim (ℕ_discrete k j) [
      | yes q ↦ ap p (sym q) ∙ t
      | no q ↦ rest (omega arith) (omega arith) (omega arith)
    ]
    go false t f rest = absurd (omega arith)

-- the first bad block, or none, by their number
module _ (b : List ℕ) where
  pub bad-at : (k : ℕ) → k < blocks_in b → k ≡ first_bad b → Some k ≡ bad_of b
  unfolding bad_of
  bad-at k h e = rw (ne_eqb (first_bad b) (blocks_in b) (λ q. omega (arith, h, e, q)), ← e)

  pub bad-nowhere : blocks_in b ≡ first_bad b → None ≡ bad_of b
  unfolding bad_of
  bad-nowhere e = rw (eq-eqb (first_bad b) (blocks_in b) (sym e))

-- what a first bad block, or none, tells of their number
module _ (b : List ℕ) (r : Option ℕ) (q : r ≡ bad_of b) where
  pub some-bad : is_some r ≡ true → first_bad b ≡ blocks_in b → ⊥
  unfolding bad_of
  some-bad h e = true≢false (sym h ∙ ap is_some q ∙ rw (eq-eqb (first_bad b) (blocks_in b) e))

  pub none-bad : is_some r ≡ false → first_bad b ≡ blocks_in b
  unfolding bad_of
  none-bad h = go (eqb (first_bad b) (blocks_in b)) refl (sym (ap is_some q) ∙ h)
    where
      go : (z : Bool) → eqb (first_bad b) (blocks_in b) ≡ z → is_some (cond z None (Some (first_bad b))) ≡ false → first_bad b ≡ blocks_in b
      go true e t = eqb-true (first_bad b) (blocks_in b) e
      go false e t = absurd (true≢false t)

-- ---- the loop over the words of block k: j of them are read, and c is their check; past the last, the block holds

pub record Turn (b : List ℕ) (k c j : ℕ) : Type 0 where
  pub within : j ≤ block_words
  pub checked : j ≤ checked_words → Checked (λ m. word_at b (block_words * k + m)) k j c
  pub held : checked_words < j → holds b k ≡ true

module _ (b : List ℕ) (k : ℕ) where
  pub turn-start : Turn b k k 0
  turn-start = record {
    within = omega arith;
    checked = λ h. checked-none (λ m. word_at b (block_words * k + m)) k;
    held = λ h. absurd (omega arith);
  }

  module _ {c j : ℕ} (w : ℕ) (t : Turn b k c j) (e : w ≡ word_at b (block_words * k + j)) where
    pub turn_mix : (c' : ℕ) → j < checked_words → c' ≡ mixed c w → Turn b k c' (j + 1)
    turn_mix c' h q = record {
      within = omega arith;
      checked = λ l. checked-next c' w (t.checked (omega arith)) e q;
      held = λ l. absurd (omega arith);
    }

    whole : checked_words ≤ j → j < block_words → holds b k ≡ eqb c w
    unfolding holds
    whole h l =
        let q : j ≡ checked_words = omega arith in
        λ i. eqb (sym (checked-all (t.checked (omega arith)) q) i) (sym (e ∙ ap (λ (m : ℕ). word_at b (block_words * k + m)) q) i)

    pub turn_end : (c' : ℕ) → checked_words ≤ j → j < block_words → c ≡ w → Turn b k c' (j + 1)
    turn_end c' h l q = record {
      within = omega arith;
      checked = λ g. absurd (omega arith);
      held = λ g. whole h l ∙ eq-eqb c w q;
    }

    pub turn_bad : checked_words ≤ j → j < block_words → (c ≡ w → ⊥) → holds b k ≡ false
    turn_bad h l q = whole h l ∙ ne_eqb c w q

    -- one word more, whichever it is
    pub turn_next : (c' : ℕ) → j < block_words → (j < checked_words → c' ≡ mixed c w) → (checked_words ≤ j → c ≡ w) → Turn b k c' (j + 1)
    turn_next c' l m q = go (ltb j checked_words) refl
      where
        go : (z : Bool) → ltb j checked_words ≡ z → Turn b k c' (j + 1)
        go true h = let g = ltb-true j checked_words h in turn_mix c' g (m g)
        go false h = let g = ltb-false j checked_words h in turn_end c' g l (q g)
