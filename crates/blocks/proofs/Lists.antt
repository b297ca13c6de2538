-- Laws of lists of numbers: one laid over another, one made from a function, bounds of their numbers, and comparisons of two.
use Rattle.std.proofs.Common.{◌≡◌, ℕ, zero, suc, ◌+◌, ◌<◌, ◌≤◌, min, List, [], ◌∷◌, ◌++◌, map, length, get_or, take, drop, set, replicate, sym, refl, ap, ◌∙◌, subst, append_assoc, append-nil, le_of_suc-le-suc, not-suc-le-zero, add-zero, le_of_lt, add-suc, suc-add, lt_of_not-le, zero-add, add-one, arith, take-append-drop, drop_of_length-le, length-take-le, take_all, take-suc, take_at, drop-drop, bytes_eq, Bool, true, false, ◌&&◌, eqb, drop-cons, eq-eqb, ne_eqb}
use native.Mathlib.Decide.{dec_le}
use borrow.Rule.Slice.PartMut.{put_mid}
use Rattle.std.proofs.lemmas.Bool.Decides.{same_from_decides}
use Rattle.std.proofs.lemmas.Slice.Eq.{bytes_eq-Decides}
use lib.Seq.{sets, length-sets, sets-eq, set_out}
use Rattle.blocks.specs.Lists.{laid, Laid, table, Below}

-- ---- one laid over another

sets_append : (xs ys l : List ℕ) (i : ℕ) → sets l i (xs ++ ys) ≡ sets (sets l i xs) (i + length xs) ys
sets_append [] ys l i = rw add-zero
sets_append (x ∷ xs) ys l i = rw (add-suc, ← suc-add) (sets_append xs ys (set l i x) (suc i))

sets-past : (l : List ℕ) (i : ℕ) (xs : List ℕ) → length l ≤ i → sets l i xs ≡ l
sets-past l i [] h = refl
sets-past l i (x ∷ xs) h = rw (set_out l i x h) (sets-past l (suc i) xs (omega arith))

pub laid_one : (l : List ℕ) (i v : ℕ) → laid l i (v ∷ []) ≡ set l i v
unfolding laid
laid_one l i v = refl

pub laid_nil : (l : List ℕ) (i : ℕ) → laid l i [] ≡ l
unfolding laid
laid_nil l i = refl

pub laid_append : (xs ys l : List ℕ) (i : ℕ) → laid l i (xs ++ ys) ≡ laid (laid l i xs) (i + length xs) ys
unfolding laid
laid_append xs ys l i = sets_append xs ys l i

pub length-laid : (l : List ℕ) (i : ℕ) (xs : List ℕ) → length (laid l i xs) ≡ length l
unfolding laid
length-laid l i xs = length-sets l i xs

-- nothing has a place past the end
pub laid-past : (l : List ℕ) (i : ℕ) (xs : List ℕ) → length l ≤ i → laid l i xs ≡ l
unfolding laid
laid-past l i xs h = sets-past l i xs h

-- the first k reach the end: the others have no place
pub laid-cut : (l : List ℕ) (i k : ℕ) (xs : List ℕ) → length l ≤ i + k → laid l i (take k xs) ≡ laid l i xs
laid-cut l i k xs h = elim (dec_le (length xs) k) [
  | yes g ↦ ap (laid l i) (take_all k xs g)
  | no g ↦
      let e : length (take k xs) ≡ k = length-take-le k xs (le_of_lt (lt_of_not-le g)) in
      sym
      (ap (laid l i) (sym (take-append-drop k xs))
      ∙ laid_append (take k xs) (drop k xs) l i
      ∙ laid-past (laid l i (take k xs)) (i + length (take k xs)) (drop k xs) (omega (arith, e, length-laid l i (take k xs))))
]

-- a list as long as the one that it is laid over
pub laid-all : (l xs : List ℕ) → length l ≡ length xs → laid l 0 xs ≡ xs
unfolding laid
laid-all l xs e =
    let h : length l ≤ 0 + length xs = omega arith in
    sets-eq xs l 0 (omega arith) ∙ ap (λ (z : List ℕ). xs ++ z) (drop_of_length-le l h) ∙ append-nil xs

-- a list laid over the start of one that is as long or longer
pub laid-start : (l xs : List ℕ) (n : ℕ) → length xs ≡ n → n ≤ length l → take n (laid l 0 xs) ≡ xs
unfolding laid
laid-start l xs n e h = ap (take n) (sets-eq xs l 0 (omega arith)) ∙ take_at xs (drop (0 + length xs) l) n e

-- ys in the place of n numbers of l, from place i on
pub laid-part : (l ys : List ℕ) (i n : ℕ) → i + n ≤ length l → length ys ≡ n → put_mid i n l ys ≡ laid l i ys
unfolding laid
laid-part l ys i n h e =
    let k : i + length ys ≡ i + n = omega arith in
    sym
    (sets-eq ys l i (omega arith)
    ∙ append_assoc (take i l) ys (drop (i + length ys) l)
    ∙ ap (λ (r : List ℕ). take i l ++ (ys ++ r)) (ap (λ (m : ℕ). drop m l) k ∙ sym (drop-drop n i l)))

-- one run of stores, and another right behind it
pub next : {l l₁ l₂ xs ys : List ℕ} {i n j : ℕ} → Laid l i xs l₁ → length xs ≡ n → i + n ≡ j → Laid l₁ j ys l₂ → Laid l i (xs ++ ys) l₂
next {l} {l₁} {l₂} {xs} {ys} {i} {n} {j} p e f q = record {
  is = q.is
      ∙ (λ k. laid (p.is k) (sym f k) ys)
      ∙ ap (λ (m : ℕ). laid (laid l i xs) (i + m) ys) (sym e)
      ∙ sym (laid_append xs ys l i);
}

pub none_yet : (l : List ℕ) (i : ℕ) → Laid l i [] l
none_yet l i = record { is = sym (laid_nil l i) }

-- past the end nothing is stored
pub dropped : (l : List ℕ) (i : ℕ) (xs : List ℕ) → length l ≤ i → Laid l i xs l
dropped l i xs h = record { is = sym (laid-past l i xs h) }

pub stored : {l : List ℕ} {i v u : ℕ} → v ≡ u → Laid l i (u ∷ []) (set l i v)
stored {l} {i} {v} {u} e = record { is = ap (set l i) e ∙ sym (laid_one l i u) }

-- a loop that stores a list place by place: a turn, and the end
pub turn : {l l₁ : List ℕ} {i k v : ℕ} (xs : List ℕ) → Laid l i (take k xs) l₁ → k < length xs → v ≡ get_or xs k 0
    → Laid l i (take (k + 1) xs) (set l₁ (i + k) v)
turn {l} {l₁} {i} {k} {v} xs p h e =
    rw (add-one, take-suc xs k 0) (next p (length-take-le k xs (omega arith)) refl (stored e))

pub finish : {l l₁ : List ℕ} {i k : ℕ} (xs : List ℕ) → Laid l i (take k xs) l₁ → length xs ≤ k → Laid l i xs l₁
finish {l} {l₁} {i} {k} xs p h = subst (λ (ys : List ℕ). Laid l i ys l₁) (take_all k xs h) p

pub turn-first : {l l₁ : List ℕ} {k v : ℕ} (xs : List ℕ) → Laid l 0 (take k xs) l₁ → k < length xs → v ≡ get_or xs k 0
    → Laid l 0 (take (k + 1) xs) (set l₁ k v)
turn-first {l} {l₁} {k} {v} xs p h e = subst (λ (n : ℕ). Laid l 0 (take (k + 1) xs) (set l₁ n v)) (zero-add k) (turn xs p h e)

-- the end, where the list or the places are at their end
pub finish-first : {l l₁ : List ℕ} {k : ℕ} (xs : List ℕ) → Laid l 0 (take k xs) l₁ → min (length l) (length xs) ≤ k → l₁ ≡ laid l 0 xs
finish-first {l} {l₁} {k} xs p h = elim (dec_le (length xs) k) [
  | yes g ↦ p.is ∙ ap (laid l 0) (take_all k xs g)
  | no g ↦ p.is ∙ laid-cut l 0 k xs (omega arith)
]

pub laid-length : {l l₁ xs : List ℕ} {i : ℕ} → Laid l i xs l₁ → length l₁ ≡ length l
laid-length {l} {l₁} {xs} {i} p = ap length p.is ∙ length-laid l i xs

-- ---- a list made from a function

module _ {A : Type 0} where
  pub length-table : (f : ℕ → A) (n : ℕ) → length (table f n) ≡ n
  unfolding table
  length-table f zero = refl
  length-table f (suc n) = ap suc (length-table (λ k. f (suc k)) n)

  pub get_d_table : (f : ℕ → A) (n k : ℕ) (d : A) → k < n → get_or (table f n) k d ≡ f k
  unfolding table
  get_d_table f zero k d h = absurd (not-suc-le-zero h)
  get_d_table f (suc n) zero d h = refl
  get_d_table f (suc n) (suc k) d h = get_d_table (λ j. f (suc j)) n k d (le_of_suc-le-suc h)

  pub table_snoc : (f : ℕ → A) (n : ℕ) → table f (suc n) ≡ table f n ++ (f n ∷ [])
  unfolding table
  table_snoc f zero = refl
  table_snoc f (suc n) = ap (λ (l : List A). f 0 ∷ l) (table_snoc (λ k. f (suc k)) n)

  pub table_ext : (f g : ℕ → A) (n : ℕ) → ((k : ℕ) → k < n → f k ≡ g k) → table f n ≡ table g n
  unfolding table
  table_ext f g zero h = refl
  table_ext f g (suc n) h = λ i. h 0 (omega arith) i ∷ table_ext (λ k. f (suc k)) (λ k. g (suc k)) n (λ k b. h (suc k) (omega arith)) i

  pub get_d_map : (f : A → ℕ) (xs : List A) (k : ℕ) (d : A) → k < length xs → get_or (map f xs) k 0 ≡ f (get_or xs k d)
  get_d_map f [] k d h = absurd (not-suc-le-zero h)
  get_d_map f (x ∷ xs) zero d h = refl
  get_d_map f (x ∷ xs) (suc k) d h = get_d_map f xs k d (le_of_suc-le-suc h)

-- ---- bounds

module _ (m : ℕ) where
  pub below-nil : 0 < m → Below m []
  below-nil p k = p

  pub below_cons : (x : ℕ) (xs : List ℕ) → x < m → Below m xs → Below m (x ∷ xs)
  below_cons x xs h g zero = h
  below_cons x xs h g (suc k) = g k

  pub below_append : (xs ys : List ℕ) → Below m xs → Below m ys → Below m (xs ++ ys)
  below_append [] ys h g k = g k
  below_append (x ∷ xs) ys h g zero = h 0
  below_append (x ∷ xs) ys h g (suc k) = below_append xs ys (λ j. h (suc j)) g k

  pub below-map : {A : Type 0} (f : A → ℕ) (xs : List A) (d : A) → ((k : ℕ) → f (get_or xs k d) < m) → Below m (map f xs)
  below-map f [] d h k = omega (arith, h 0)
  below-map f (x ∷ xs) d h zero = h 0
  below-map f (x ∷ xs) d h (suc k) = below-map f xs d (λ j. h (suc j)) k

  pub below-table : (f : ℕ → ℕ) (n : ℕ) → 0 < m → ((k : ℕ) → k < n → f k < m) → Below m (table f n)
  unfolding table
  below-table f zero p h k = p
  below-table f (suc n) p h zero = h 0 (omega arith)
  below-table f (suc n) p h (suc k) = below-table (λ j. f (suc j)) n p (λ j b. h (suc j) (omega arith)) k

  pub below-replicate : (n x : ℕ) → x < m → Below m (replicate n x)
  below-replicate zero x h k = omega arith
  below-replicate (suc n) x h zero = h
  below-replicate (suc n) x h (suc k) = below-replicate n x h k

-- ---- two lists are the same

-- two comparisons come to the same, where each equality gives the other
pub same-both : {a b c d : List ℕ} → (a ≡ b → c ≡ d) → (c ≡ d → a ≡ b) → bytes_eq a b ≡ bytes_eq c d
same-both {a} {b} {c} {d} f g =
    let p = bytes_eq-Decides a b in
    let q = bytes_eq-Decides c d in
    same_from_decides (bytes_eq a b) (bytes_eq c d) p ((λ t. g (q.0 t)), λ e. q.1 (f e))

pub same-eq : (xs ys : List ℕ) → bytes_eq xs ys ≡ true → xs ≡ ys
same-eq xs ys = (bytes_eq-Decides xs ys).0

-- a loop that compares place by place: what is left comes to the same
same_step : (a b : List ℕ) (k : ℕ) → k < length a → k < length b
    → bytes_eq (drop k a) (drop k b) ≡ (eqb (get_or a k 0) (get_or b k 0) && bytes_eq (drop (suc k) a) (drop (suc k) b))
same_step a b k h g = rw (drop-cons a k 0 h, drop-cons b k 0 g)

pub same_next : (a b : List ℕ) (k : ℕ) → k < length a → k < length b → get_or a k 0 ≡ get_or b k 0 → bytes_eq (drop k a) (drop k b) ≡ bytes_eq a b
    → bytes_eq (drop (k + 1) a) (drop (k + 1) b) ≡ bytes_eq a b
same_next a b k h g e s =
    rw add-one (sym (same_step a b k h g ∙ ap (λ (z : Bool). z && bytes_eq (drop (suc k) a) (drop (suc k) b)) (eq-eqb (get_or a k 0) (get_or b k 0) e)) ∙ s)

pub same_stop : (a b : List ℕ) (k : ℕ) → k < length a → k < length b → (get_or a k 0 ≡ get_or b k 0 → ⊥) → bytes_eq (drop k a) (drop k b) ≡ bytes_eq a b
    → false ≡ bytes_eq a b
same_stop a b k h g e s =
    sym (same_step a b k h g ∙ ap (λ (z : Bool). z && bytes_eq (drop (suc k) a) (drop (suc k) b)) (ne_eqb (get_or a k 0) (get_or b k 0) e)) ∙ s
