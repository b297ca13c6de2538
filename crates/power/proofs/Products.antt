-- The q-th power of a product of roots, from both sides: a root loses at most two parts in 2 ^ 30, a product one, and all of them together less than 4.
use mathlib.Core.Path.{◌≡◌, refl, sym, ap, ap₂, ◌∙◌, subst}
use mathlib.Core.Bool.{Bool, true, false, not, cond}
use mathlib.Core.List.{List, [], ◌∷◌}
use Prim.Native.Nat.{ℕ, suc, ◌+◌, ◌*◌, ◌/◌, ◌%◌, ◌^◌, ◌≤◌, ◌<◌, zero-le}
use native.Mathlib.Nat.{le_trans, le_of_eq, le_of_lt, lt_of_lt_of_le, lt_of_le_of_lt, lt_of_not-le, not-le_of_lt, mul_assoc, mul_comm, mul-one, one-mul, mul-mul-mul_comm, mul_right_comm, mul_left_comm, pow-suc, pow-zero, one-le-pow, mul-le-mul, mul-le-mul_left, mul-le-mul_right, mul-lt-mul_of_pos_right, mul-lt-mul_of_pos_left, pow-le-pow_left, two-pow-succ, le_of_mul-le-mul_right, lt_of_mul-lt-mul_right, zero-mul, add-mul, mod-one, mul-add, le_of_suc-le-suc, zero-add, mod-eq_of_lt, le_refl}
use native.Mathlib.Decide.{dec_le}
use native.Mathlib.Numerals.{add-one, one-add}
use native.Mathlib.Omega.{arith}
use lib.Dec.{T, T_not, lit≤, leb, ltb, eqb, leb→le, ltb→lt, eqb→eq}
use lib.Pow.{pow-add, pow_pos, mod-pow-add}
use lib.ListN.{length}
use lib.Ieee.Fits.{eq→eqb, and_l, and_r}
use Rattle.power.specs.Roots.{is_root, chain, roots}
use Rattle.power.specs.Power.{raise}
use Rattle.float.proofs.Powers.{mul_pow, pow_mul, bernoulli}
use Rattle.power.proofs.Table.{roots_rule, entries}

-- ---- (1 + 1 / d) ^ t ≤ 7 / 5 for t up to 2 / 7 of d + 1, and its fourth power is below 4

seven_fifths : (d t : ℕ) → 7 * t ≤ 2 * (d + 1) → 5 * (d + 1) ^ t ≤ 7 * d ^ t
seven_fifths d t h =
    let c = d + 1 in
    le_of_mul-le-mul_right
    (omega (
      arith,
      bernoulli d t,
      mul-le-mul_left (c ^ t) h,
      mul_left_comm (c ^ t) 7 t,
      mul_comm (c ^ t) t,
      mul_left_comm (c ^ t) 2 c,
      mul_assoc 5 (c ^ t) c,
      mul_assoc 7 (d ^ t) c,
    ))
    (pos d)
  where
    pos : (d : ℕ) → 0 < d + 1
    pos d = omega arith

below-four : (d t : ℕ) → 0 < d → 7 * t ≤ 2 * (d + 1) → (d + 1) ^ (t * 4) < 4 * d ^ (t * 4)
below-four d t p h =
    let c = d + 1 in
    let x : 5 ^ 4 * (c ^ t) ^ 4 ≤ 7 ^ 4 * (d ^ t) ^ 4 = le_trans (le_of_eq (sym (mul_pow 5 (c ^ t) 4))) (le_trans (pow-le-pow_left (seven_fifths d t h) 4) (le_of_eq (mul_pow 7 (d ^ t) 4))) in
    let y : 0 < (d ^ t) ^ 4 = one-le-pow 4 (d ^ t) (one-le-pow t d p) in
    subst (λ (z : ℕ). z < 4 * d ^ (t * 4)) (sym (pow_mul c t 4)) (subst (λ (z : ℕ). (c ^ t) ^ 4 < 4 * z) (sym (pow_mul d t 4)) (omega arith))

-- ---- one root. Powers of a literal to the q stand for its q-th power: 2 ^ 90 is the cube of 2 ^ 30, and squared and cubed are the square and the cube of 2 ^ 30 + 1.

abbrev squared : ℕ
squared = (2 ^ 30 + 1) * (2 ^ 30 + 1)

abbrev cubed : ℕ
cubed = (2 ^ 30 + 1) * squared

-- r is 2 ^ (2 ^ k / q), in units of 2 ^ -30, or a little less
abbrev Root : ℕ → ℕ → ℕ → Type 0
Root q k r = (2 ^ 30 ≤ r) × (r ^ q ≤ 2 ^ (2 ^ k) * (2 ^ 30) ^ q) × (2 ^ (2 ^ k) * (2 ^ 90) ^ q ≤ (r * squared) ^ q)

le-of-square : (a b : ℕ) → a * a ≤ b * b → a ≤ b
le-of-square a b h = elim (dec_le a b) [
  | yes l ↦ l
  | no g ↦
      let l : b < a = lt_of_not-le g in
      absurd (not-le_of_lt (lt_of_le_of_lt (mul-le-mul_left b (le_of_lt l)) (mul-lt-mul_of_pos_right l (lt_of_le_of_lt zero-le l))) h)
]

square-plus : (x : ℕ) → (x + 1) * (x + 1) ≡ x * x + 2 * x + 1
square-plus x = omega (arith, add-mul x 1 (x + 1), mul-add x x 1)

root-large : (r x : ℕ) → 2 ^ 30 ≤ r → r * 2 ^ 30 < (x + 1) * (x + 1) → 2 ^ 30 ≤ x
root-large r x h b = le_of_suc-le-suc (subst (λ (y : ℕ). 2 ^ 30 < y) (add-one x) (lt_of_not-le (λ (g : x + 1 ≤ 2 ^ 30). not-le_of_lt b (le_trans (mul-le-mul g g) (mul-le-mul_right (2 ^ 30) h)))))

root-small : (r x : ℕ) → 2 ^ 30 ≤ x → r * 2 ^ 30 < (x + 1) * (x + 1) → r * 2 ^ 90 ≤ x * x * squared
root-small r x h b = omega (arith, square-plus x, mul-le-mul_left x h)

next-root : (q k r x : ℕ) → Root q (suc k) r → T (is_root r x) → Root q k x
next-root q k r x h t =
    let a = leb (x * x) (r * 2 ^ 30) in
    let b = ltb (r * 2 ^ 30) ((x + 1) * (x + 1)) in
    let lo : x * x ≤ r * 2 ^ 30 = leb→le (x * x) (r * 2 ^ 30) (and_l a b t) in
    let hi : r * 2 ^ 30 < (x + 1) * (x + 1) = ltb→lt (r * 2 ^ 30) ((x + 1) * (x + 1)) (and_r a b t) in
    let big : 2 ^ 30 ≤ x = root-large r x h.0 hi in
    let A = 2 ^ (2 ^ k) in
    let D = (2 ^ 30) ^ q in
    let B = (2 ^ 90) ^ q in
    let AA : 2 ^ (2 ^ suc k) ≡ A * A = ap (λ (y : ℕ). 2 ^ y) (two-pow-succ k) ∙ pow-add 2 (2 ^ k) (2 ^ k) in (
      big,
      le-of-square (x ^ q) (A * D)
          (le_trans (le_of_eq (sym (mul_pow x x q)))
          (le_trans (pow-le-pow_left lo q)
          (le_trans (le_of_eq (mul_pow r (2 ^ 30) q))
          (le_trans (mul-le-mul_right D h.1)
          (le_of_eq (ap (λ (y : ℕ). y * D * D) AA ∙ mul_assoc (A * A) D D ∙ mul-mul-mul_comm A A D D)))))),
      le-of-square (A * B) ((x * squared) ^ q)
          (le_trans (le_of_eq (mul-mul-mul_comm A B A B ∙ sym (mul_assoc (A * A) B B) ∙ ap (λ (y : ℕ). y * B * B) (sym AA)))
          (le_trans (mul-le-mul_right B h.2)
          (le_trans (le_of_eq (sym (mul_pow (r * squared) (2 ^ 90) q)))
          (le_trans (pow-le-pow_left (le_trans (le_of_eq (mul_right_comm r squared (2 ^ 90))) (le_trans (mul-le-mul_right squared (root-small r x big hi)) (le_of_eq (mul_assoc (x * x) squared squared ∙ mul-mul-mul_comm x x squared squared)))) q)
          (le_of_eq (mul_pow (x * squared) (x * squared) q)))))),
    )

-- ---- one product

-- n is p / 2 ^ 30, cut to a whole number
abbrev Product : ℕ → ℕ → Type 0
Product p n = (2 ^ 30 ≤ n) × (n * 2 ^ 30 ≤ p) × (p ≤ n * (2 ^ 30 + 1))

product : (p : ℕ) → 2 ^ 60 ≤ p → Product p (p / 2 ^ 30)
product p h = omega arith

-- a product of q-th powers, from both sides
times : (q l m x n : ℕ) → Root q l x → Product (m * x) n → (n ^ q ≤ m ^ q * 2 ^ (2 ^ l)) × (m ^ q * 2 ^ (2 ^ l) * (2 ^ 90) ^ q ≤ n ^ q * cubed ^ q)
times q l m x n r p =
    let D = (2 ^ 30) ^ q in
    let A = 2 ^ (2 ^ l) in (
      le_of_mul-le-mul_right
          (le_trans (le_of_eq (sym (mul_pow n (2 ^ 30) q)))
          (le_trans (pow-le-pow_left p.1 q)
          (le_trans (le_of_eq (mul_pow m x q))
          (le_trans (mul-le-mul_left (m ^ q) r.1) (le_of_eq (sym (mul_assoc (m ^ q) A D)))))))
          (one-le-pow q (2 ^ 30) (pow_pos 30)),
      le_trans (le_of_eq (mul_assoc (m ^ q) A ((2 ^ 90) ^ q)))
          (le_trans (mul-le-mul_left (m ^ q) r.2)
          (le_trans (le_of_eq (sym (mul_pow m (x * squared) q)))
          (le_trans (pow-le-pow_left (le_trans (le_of_eq (sym (mul_assoc m x squared))) (le_trans (mul-le-mul_right squared p.2) (le_of_eq (mul_assoc n (2 ^ 30 + 1) squared)))) q)
          (le_of_eq (mul_pow n cubed q))))),
    )

-- ---- all the products

-- n is m times 2 ^ (g / q), or less by k losses at most
abbrev Raised : ℕ → ℕ → ℕ → ℕ → ℕ → Type 0
Raised q k g m n = (n ^ q ≤ m ^ q * 2 ^ g) × (m ^ q * 2 ^ g * ((2 ^ 90) ^ q) ^ k ≤ n ^ q * (cubed ^ q) ^ k)

-- the step where the bit is set, and where it is not
raised-one : (q l g m m' n : ℕ) → (m' ^ q ≤ m ^ q * 2 ^ (2 ^ l)) × (m ^ q * 2 ^ (2 ^ l) * (2 ^ 90) ^ q ≤ m' ^ q * cubed ^ q) → Raised q l g m' n → Raised q (suc l) (2 ^ l + g) m n
raised-one q l g m m' n s h =
    let M = m ^ q in
    let W = 2 ^ (2 ^ l) in
    let G = 2 ^ g in
    let C = (2 ^ 90) ^ q in
    let E = cubed ^ q in
    let wg : M * 2 ^ (2 ^ l + g) ≡ M * W * G = ap (λ (y : ℕ). M * y) (pow-add 2 (2 ^ l) g) ∙ sym (mul_assoc M W G) in (
      le_trans h.0 (le_trans (mul-le-mul_right G s.0) (le_of_eq (sym wg))),
      le_trans (le_of_eq (ap₂ (λ (y z : ℕ). y * z) wg (pow-suc C l ∙ mul_comm (C ^ l) C) ∙ mul-mul-mul_comm (M * W) G C (C ^ l)))
          (le_trans (mul-le-mul_right (G * C ^ l) s.1)
          (le_trans (le_of_eq (mul_right_comm (m' ^ q) E (G * C ^ l) ∙ ap (λ (y : ℕ). y * E) (sym (mul_assoc (m' ^ q) G (C ^ l)))))
          (le_trans (mul-le-mul_right E h.1) (le_of_eq (mul_assoc (n ^ q) (E ^ l) E ∙ ap (λ (y : ℕ). n ^ q * y) (sym (pow-suc E l))))))),
    )

raised-zero : (q l g m n : ℕ) → Raised q l g m n → Raised q (suc l) g m n
raised-zero q l g m n h =
    let C = (2 ^ 90) ^ q in
    let E = cubed ^ q in (
      h.0,
      le_trans (le_of_eq (ap (λ (y : ℕ). m ^ q * 2 ^ g * y) (pow-suc C l) ∙ sym (mul_assoc (m ^ q * 2 ^ g) (C ^ l) C)))
          (le_trans (mul-le-mul h.1 (pow-le-pow_left (le_of_lt (lit tt)) q)) (le_of_eq (mul_assoc (n ^ q) (E ^ l) E ∙ ap (λ (y : ℕ). n ^ q * y) (sym (pow-suc E l))))),
    )
  where
    lit : Unit {0} → 2 ^ 90 < cubed
    lit t = omega arith

top_bit : (f l : ℕ) → f % 2 ^ suc l ≡ f / 2 ^ l % 2 * 2 ^ l + f % 2 ^ l
top_bit f l = ap (λ (x : ℕ). f % 2 ^ x) (sym (one-add l)) ∙ mod-pow-add f 1 l

raised-none : (q f m : ℕ) → Raised q 0 (f % 1) m m
raised-none q f m =
    let e : m ^ q * 2 ^ (f % 1) ≡ m ^ q = ap (λ (y : ℕ). m ^ q * 2 ^ y) (mod-one f) ∙ mul-one (m ^ q) in
    (le_of_eq (sym e), le_of_eq (ap₂ (λ (y z : ℕ). y * z) e (pow-zero ((2 ^ 90) ^ q) ∙ sym (pow-zero (cubed ^ q)))))

bit_cases : (f l : ℕ) → T (not (eqb (f / 2 ^ l % 2) 1)) → f / 2 ^ l % 2 ≡ 0
bit_cases f l t = small (f / 2 ^ l) (λ e. T_not (eqb (f / 2 ^ l % 2) 1) t (eq→eqb e))
  where
    small : (n : ℕ) → (n % 2 ≡ 1 → ⊥) → n % 2 ≡ 0
    small n h = omega arith

raised-step : (q l f m x : ℕ) (up : ℕ → ℕ) → Root q l x → 2 ^ 30 ≤ m → ((n : ℕ) → 2 ^ 30 ≤ n → (2 ^ 30 ≤ up n) × Raised q l (f % 2 ^ l) n (up n))
    → (2 ^ 30 ≤ up (cond (eqb (f / 2 ^ l % 2) 1) (m * x / 2 ^ 30) m)) × Raised q (suc l) (f % 2 ^ suc l) m (up (cond (eqb (f / 2 ^ l % 2) 1) (m * x / 2 ^ 30) m))
raised-step q l f m x up root b ih = go (eqb (f / 2 ^ l % 2) 1) (eqb→eq (f / 2 ^ l % 2) 1) (bit_cases f l)
  where
    p : Product (m * x) (m * x / 2 ^ 30)
    p = product (m * x) (mul-le-mul b root.0)

    one_bit : f / 2 ^ l % 2 ≡ 1 → 2 ^ l + f % 2 ^ l ≡ f % 2 ^ suc l
    one_bit e = sym (top_bit f l ∙ ap (λ (y : ℕ). y * 2 ^ l + f % 2 ^ l) e ∙ ap (λ (y : ℕ). y + f % 2 ^ l) (one-mul (2 ^ l)))

    no_bit : f / 2 ^ l % 2 ≡ 0 → f % 2 ^ l ≡ f % 2 ^ suc l
    no_bit e = sym (top_bit f l ∙ ap (λ (y : ℕ). y * 2 ^ l + f % 2 ^ l) e ∙ ap (λ (y : ℕ). y + f % 2 ^ l) (zero-mul (2 ^ l)) ∙ zero-add (f % 2 ^ l))

    go : (t : Bool) → (T t → f / 2 ^ l % 2 ≡ 1) → (T (not t) → f / 2 ^ l % 2 ≡ 0) → (2 ^ 30 ≤ up (cond t (m * x / 2 ^ 30) m)) × Raised q (suc l) (f % 2 ^ suc l) m (up (cond t (m * x / 2 ^ 30) m))
    go true yes' no' =
        let n = m * x / 2 ^ 30 in
        let h = ih n p.0 in
        (h.0, subst (λ (g : ℕ). Raised q (suc l) g m (up n)) (one_bit (yes' tt)) (raised-one q l (f % 2 ^ l) m n (up n) (times q l m x n root p) h.1))
    go false yes' no' =
        let h = ih m b in
        (h.0, subst (λ (g : ℕ). Raised q (suc l) g m (up m)) (no_bit (no' tt)) (raised-zero q l (f % 2 ^ l) m (up m) h.1))

raised : (q : ℕ) (xs : List ℕ) (r f m : ℕ) → T (chain r xs) → Root q (length xs) r → 2 ^ 30 ≤ m → (2 ^ 30 ≤ raise xs f m) × Raised q (length xs) (f % 2 ^ length xs) m (raise xs f m)
unfolding raise
raised q [] r f m t h b = (b, raised-none q f m)
raised q (x ∷ xs) r f m t h b =
    let root = next-root q (length xs) r x h (and_l (is_root r x) (chain x xs) t) in
    raised-step q (length xs) f m x (raise xs f) root b (λ n b'. raised q xs x f n (and_r (is_root r x) (chain x xs) t) root b')

-- the first root is 2
first-root : (k : ℕ) → Root (2 ^ k) k (2 ^ 31)
first-root k =
    let q = 2 ^ k in (
      lit tt,
      le_of_eq (mul_pow 2 (2 ^ 30) q),
      le_trans (le_of_eq (sym (mul_pow 2 (2 ^ 90) q))) (pow-le-pow_left (lit' tt) q),
    )
  where
    lit : Unit {0} → 2 ^ 30 ≤ 2 ^ 31
    lit t = omega arith

    lit' : Unit {0} → 2 * 2 ^ 90 ≤ 2 ^ 31 * squared
    lit' t = omega arith

-- the loss through 4 * j roots is below 4
loss : (q j k : ℕ) → k ≡ j * 4 → 7 * (3 * q * j) ≤ 2 * (2 ^ 30 + 1) → (cubed ^ q) ^ k < 4 * ((2 ^ 90) ^ q) ^ k
loss q j k e h =
    let t = 3 * q * j in
    let all : (c b : ℕ) → c ^ 3 ≡ b → (b ^ q) ^ k ≡ c ^ (t * 4) = λ c b i. ap (λ (y : ℕ). (y ^ q) ^ k) (sym i) ∙ ap (λ (y : ℕ). y ^ k) (sym (pow_mul c 3 q)) ∙ sym (pow_mul c (3 * q) k) ∙ ap (λ (y : ℕ). c ^ y) (ap (λ (y : ℕ). 3 * q * y) e ∙ sym (mul_assoc (3 * q) j 4)) in
    subst (λ (y : ℕ). y < 4 * ((2 ^ 90) ^ q) ^ k) (sym (all (2 ^ 30 + 1) cubed refl)) (subst (λ (y : ℕ). (2 ^ 30 + 1) ^ (t * 4) < 4 * y) (sym (all (2 ^ 30) (2 ^ 90) refl)) (below-four (2 ^ 30) t (pow_pos 30) h))

power : (xs : List ℕ) (f k j : ℕ) → length xs ≡ k → k ≡ j * 4 → T (chain (2 ^ 31) xs) → f < 2 ^ k → 7 * (3 * 2 ^ k * j) ≤ 2 * (2 ^ 30 + 1)
    → (raise xs f (2 ^ 30) ^ (2 ^ k) ≤ 2 ^ (30 * 2 ^ k + f)) × (2 ^ (30 * 2 ^ k + f) < 4 * raise xs f (2 ^ 30) ^ (2 ^ k))
power xs f k j e i t h few =
    let q = 2 ^ k in
    let n = raise xs f (2 ^ 30) in
    let C = ((2 ^ 90) ^ q) ^ k in
    let a : Raised q k f (2 ^ 30) n =
    subst (λ (g : ℕ). Raised q k g (2 ^ 30) n) (mod-eq_of_lt h)
    (subst (λ (l : ℕ). Raised q l (f % 2 ^ l) (2 ^ 30) n) e (raised q xs (2 ^ 31) f (2 ^ 30) t (subst (λ (l : ℕ). Root q l (2 ^ 31)) (sym e) (first-root k)) (le_refl (2 ^ 30))).1) in
    let p : (2 ^ 30) ^ q * 2 ^ f ≡ 2 ^ (30 * q + f) = ap (λ (y : ℕ). y * 2 ^ f) (sym (pow_mul 2 30 q)) ∙ sym (pow-add 2 (30 * q) f) in (
      le_trans a.0 (le_of_eq p),
      subst (λ (y : ℕ). y < 4 * n ^ q) p
          (lt_of_mul-lt-mul_right C
          (lt_of_le_of_lt a.1
          (lt_of_lt_of_le (mul-lt-mul_of_pos_left (loss q j k i few) (one-le-pow q n (lt_of_lt_of_le (pow_pos 30) (large xs f k e t))))
          (le_of_eq (mul_left_comm (n ^ q) 4 C ∙ sym (mul_assoc 4 (n ^ q) C)))))),
    )
  where
    large : (xs : List ℕ) (f k : ℕ) → length xs ≡ k → T (chain (2 ^ 31) xs) → 2 ^ 30 ≤ raise xs f (2 ^ 30)
    large xs f k e t = (raised (2 ^ k) xs (2 ^ 31) f (2 ^ 30) t (subst (λ (l : ℕ). Root (2 ^ k) l (2 ^ 31)) (sym e) (first-root k)) (le_refl (2 ^ 30))).0

-- 24 roots
pub power_24 : (f : ℕ) → f < 2 ^ 24 → (raise roots f (2 ^ 30) ^ (2 ^ 24) ≤ 2 ^ (30 * 2 ^ 24 + f)) × (2 ^ (30 * 2 ^ 24 + f) < 4 * raise roots f (2 ^ 30) ^ (2 ^ 24))
power_24 f h = power roots f 24 6 entries refl roots_rule h (lit≤ tt)
