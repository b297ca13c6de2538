-- The laws of sums of products that the loops over a window cite.
use Rattle.std.proofs.Common.{◌≡◌, ◌≢◌, ℕ, zero, suc, ◌+◌, ◌*◌, ◌/◌, ◌%◌, ◌<◌, ◌≤◌, List, [], ◌∷◌, length, get_or, drop, set, refl, ap, ◌∙◌, zero-add, add-one, arith, length-drop, length-append, drop-cons, get_or-set_other, get_or-set_same, below_more, ap₂, take, take_all, ◌-◌}
use lib.Ieee.{Float, nan}
use Rattle.std.specs.List.{flat_map}
use Rattle.std.proofs.lemmas.List.Concat.{get_or-flat_map}
use Rattle.float.specs.Arithmetic.{◌⊕◌, ◌⊗◌, zero64}
use Rattle.detector.specs.Voicing.{products_from, correlation_of}
use Rattle.detector.specs.EightLags.{none_summed, Left, eight_of}

-- nothing is left of the second list
none_left : (s : Float) (xs ys : List Float) → length ys ≡ 0 → s ≡ products_from s xs ys
unfolding products_from
none_left s [] ys h = refl
none_left s (x ∷ xs) [] h = refl
none_left s (x ∷ xs) (y ∷ ys) h = absurd (omega (arith, h))

one_more : (s : Float) (x : List Float) (i j : ℕ) → i < length x → j < length x
    → products_from (s ⊕ get_or x i nan ⊗ get_or x j nan) (drop (suc i) x) (drop (suc j) x) ≡ products_from s (drop i x) (drop j x)
unfolding products_from
one_more s x i j h k = rw (drop-cons x i nan, drop-cons x j nan)

pub products-start : (x : List Float) (lag : ℕ) → products_from zero64 x (drop (0 + lag) x) ≡ correlation_of x lag
unfolding correlation_of
products-start x lag = rw zero-add

-- before the first place all products of eight lags are left
pub left-start : (x : List Float) (lag : ℕ) → Left x lag 0 none_summed
left-start x lag = record {
  left0 = products-start x lag;
  left1 = products-start x (lag + 1);
  left2 = products-start x (lag + 2);
  left3 = products-start x (lag + 3);
  left4 = products-start x (lag + 4);
  left5 = products-start x (lag + 5);
  left6 = products-start x (lag + 6);
  left7 = products-start x (lag + 7);
}

-- one product more, of the places i and j = i + lag
pub products-turn : (s : Float) (x : List Float) (i j lag : ℕ) (e : Float) → j ≡ i + lag → j < length x
    → products_from s (drop i x) (drop (i + lag) x) ≡ e
    → products_from (s ⊕ get_or x i nan ⊗ get_or x j nan) (drop (i + 1) x) (drop (i + 1 + lag) x) ≡ e
products-turn s x i j lag e p h q =
    let f : i + 1 + lag ≡ suc j = omega (arith, p) in
    ap (λ (k : ℕ). products_from (s ⊕ get_or x i nan ⊗ get_or x j nan) (drop (i + 1) x) (drop k x)) f
    ∙ rw add-one (one_more s x i j (omega (arith, p)) h)
    ∙ ap (λ (k : ℕ). products_from s (drop i x) (drop k x)) p
    ∙ q

pub products-end : (s : Float) (x : List Float) (i lag : ℕ) (e : Float) → length x ≤ i + lag
    → products_from s (drop i x) (drop (i + lag) x) ≡ e → s ≡ e
products-end s x i lag e h q = none_left s (drop i x) (drop (i + lag) x) (simp length-drop (omega arith)) ∙ q

-- what the slices from places i and j on have is what is left there
pub products-left : (s : Float) (x : List Float) (i j k : ℕ) → j ≡ k
    → products_from s (take (length x - i) (drop i x)) (take (length x - j) (drop j x)) ≡ products_from s (drop i x) (drop k x)
products-left s x i j k e = ap₂ (products_from s) (rest i) (rest j ∙ ap (λ (n : ℕ). drop n x) e)
  where
    rest : (n : ℕ) → take (length x - n) (drop n x) ≡ drop n x
    rest n = take_all (length x - n) (drop n x) (simp length-drop (omega arith))

-- ---- eights of lags, as rows

eight-at : (x : List Float) (lag j : ℕ) → j < 8 → get_or (eight_of x lag) j nan ≡ correlation_of x (lag + j)
eight-at x lag zero h = ap (correlation_of x) (omega arith)
eight-at x lag (suc zero) h = refl
eight-at x lag (suc (suc zero)) h = refl
eight-at x lag (suc (suc (suc zero))) h = refl
eight-at x lag (suc (suc (suc (suc zero)))) h = refl
eight-at x lag (suc (suc (suc (suc (suc zero))))) h = refl
eight-at x lag (suc (suc (suc (suc (suc (suc zero)))))) h = refl
eight-at x lag (suc (suc (suc (suc (suc (suc (suc zero))))))) h = refl
eight-at x lag (suc (suc (suc (suc (suc (suc (suc (suc j)))))))) h = absurd (omega arith)

-- the rows so far are right
abbrev pub Rows : List Float → List (List Float) → ℕ → Type 0
Rows x t n = (i : ℕ) → i < n → get_or t i [] ≡ eight_of x (8 * i + 15)

-- the row at i is stored
pub row-turn : (x : List Float) (t : List (List Float)) (i : ℕ) (r : List Float) → r ≡ eight_of x (8 * i + 15) → i < length t → Rows x t i
    → Rows x (set t i r) (i + 1)
row-turn x t i r e h p =
    below_more (λ (k : ℕ). get_or (set t i r) k [] ≡ eight_of x (8 * k + 15)) i
    (λ k l. let other : k ≢ i = omega arith in get_or-set_other t i k r [] other ∙ p k l)
    (get_or-set_same t i r [] h ∙ e)

rows-length : (t : List (List Float)) (n : ℕ) → n ≤ length t → ((i : ℕ) → i < n → length (get_or t i []) ≡ 8) → length (flat_map (λ e. e) (take n t)) ≡ 8 * n
rows-length t zero h p = omega arith
rows-length [] (suc n) h p = absurd (omega arith)
rows-length (r ∷ t) (suc n) h p =
    let rest = rows-length t n (omega arith) (λ i l. p (suc i) (omega arith)) in
    length-append r (flat_map (λ e. e) (take n t)) ∙ omega (arith, p zero (omega arith), rest)

-- all of them, one after the other
pub rows-at : (x : List Float) (t : List (List Float)) (n k : ℕ) → n ≡ length t → Rows x t n → k < 8 * n
    → get_or (flat_map (λ e. e) t) k nan ≡ correlation_of x (k + 15)
rows-at x t n k e p h =
    let i = k / 8 in
    let j = k % 8 in
    let below : i < n = omega arith in
    let long : length (get_or t i []) ≡ 8 = ap length (p i below) in
    let before : length (flat_map (λ e. e) (take i t)) ≡ 8 * i = rows-length t i (omega arith) (λ m l. ap length (p m (omega (arith, below, l)))) in
    ap (λ (m : ℕ). get_or (flat_map (λ e. e) t) m nan) (omega (arith, before))
    ∙ get_or-flat_map (λ e. e) t i j [] nan (omega (arith, below)) (omega (arith, long))
    ∙ ap (λ (r : List Float). get_or r j nan) (p i below)
    ∙ eight-at x (8 * i + 15) j (omega arith)
    ∙ ap (correlation_of x) (omega arith)
