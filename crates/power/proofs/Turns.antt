-- One turn of the loop of `fraction`: what is left to multiply comes to the same.
use mathlib.Core.Path.{◌≡◌, refl, sym, ap, ◌∙◌, subst}
use mathlib.Core.Bool.{Bool, true, false, cond}
use mathlib.Core.List.{List, [], ◌∷◌}
use Prim.Native.Nat.{ℕ, zero, suc, ◌+◌, ◌-◌, ◌*◌, ◌/◌, ◌%◌, ◌^◌, ◌≤◌, ◌<◌}
use native.Mathlib.Nat.{mul-div_cancel, mod-lt, le_trans, le_of_eq, le_refl, lt_of_lt_of_le, lt_of_le_of_lt, lt_of_not-le, not-le_of_lt, le_of_suc-le-suc, not-suc-le-zero, mul-le-mul_left, le-div_iff_mul-le, pow-le-pow_left, le_of_lt, mul-lt-mul_of_pos_right}
use native.Mathlib.Omega.{arith}
use lib.Dec.{T, leb, ltb, eqb, leb→le, lit≤}
use borrow.Author.Tests.{eq-eqb, ne_eqb}
use lib.Pow.{pow-add, pow_pos, pow-lt}
use lib.ListN.{length, get_or, drop, length-drop}
use lib.Seq.{drop-cons}
use lib.Ieee.Fits.{and_l, and_r}
use Rattle.power.specs.Roots.{roots}
use Rattle.power.specs.Power.{raise}
use Rattle.float.proofs.Powers.{pow_mul}
use Rattle.power.proofs.Table.{entries, in_range, all_in, all_in_lem, in_drop, root_in}
use Rattle.power.proofs.Products.{power_24}

-- ---- the products only grow

grows : (xs : List ℕ) (f m : ℕ) → T (all_in xs) → m ≤ raise xs f m
unfolding raise
grows [] f m t = le_refl m
grows (x ∷ xs) f m t = go (eqb (f / 2 ^ length xs % 2) 1) (λ n. grows xs f n (and_r (in_range x) (all_in xs) t))
  where
    more : m ≤ m * x / 2 ^ 30
    more = (le-div_iff_mul-le (pow_pos 30)).1 (mul-le-mul_left m (leb→le (2 ^ 30) x (and_l (leb (2 ^ 30) x) (ltb x (2 ^ 31)) (and_l (in_range x) (all_in xs) t))))

    go : (b : Bool) → ((n : ℕ) → n ≤ raise xs f n) → m ≤ raise xs f (cond b (m * x / 2 ^ 30) m)
    go true ih = le_trans more (ih (m * x / 2 ^ 30))
    go false ih = ih m

small : (n q f : ℕ) → n ^ q ≤ 2 ^ (30 * q + f) → f < q → n < 2 ^ 31
small n q f h l =
    lt_of_not-le (λ (g : 2 ^ 31 ≤ n).
    not-le_of_lt (lt_of_le_of_lt h (lt_of_lt_of_le (pow-lt (fewer q f l)) (le_of_eq (pow_mul 2 31 q)))) (pow-le-pow_left g q))
  where
    fewer : (q f : ℕ) → f < q → 30 * q + f < 31 * q
    fewer q f l = omega arith

pub all_small : (f : ℕ) → f < 2 ^ 24 → raise roots f (2 ^ 30) < 2 ^ 31
all_small f h = small (raise roots f (2 ^ 30)) (2 ^ 24) f (power_24 f h).0 h

pub all_large : (f : ℕ) → 2 ^ 30 ≤ raise roots f (2 ^ 30)
all_large f = grows roots f (2 ^ 30) all_in_lem

-- what is left to do at i, from m
abbrev pub Left : ℕ → ℕ → ℕ → Type 0
Left f m i = (2 ^ 30 ≤ m) × (i ≤ 24) × (raise (drop i roots) f m ≡ raise roots f (2 ^ 30))

pub so_far : (f m i : ℕ) → f < 2 ^ 24 → Left f m i → m < 2 ^ 31
so_far f m i h l = lt_of_le_of_lt (grows (drop i roots) f m (in_drop roots i all_in_lem)) (subst (λ (n : ℕ). n < 2 ^ 31) (sym l.2) (all_small f h))

step_cons : (x : ℕ) (xs : List ℕ) (f m k : ℕ) → length xs ≡ k → raise (x ∷ xs) f m ≡ raise xs f (cond (eqb (f / 2 ^ k % 2) 1) (m * x / 2 ^ 30) m)
unfolding raise
step_cons x xs f m k e = ap (λ (n : ℕ). raise xs f (cond (eqb (f / 2 ^ n % 2) 1) (m * x / 2 ^ 30) m)) e

step-at : (f m i : ℕ) → i < 24 → raise (drop i roots) f m ≡ raise (drop (i + 1) roots) f (cond (eqb (f / 2 ^ (23 - i) % 2) 1) (m * get_or roots i 0 / 2 ^ 30) m)
step-at f m i h =
    ap (λ (xs : List ℕ). raise xs f m) (drop-cons roots i 0 (subst (λ (n : ℕ). i < n) (sym entries) h))
    ∙ step_cons (get_or roots i 0) (drop (suc i) roots) f m (23 - i) (length-drop (suc i) roots ∙ ap (λ (n : ℕ). n - suc i) entries ∙ rest i)
    ∙ ap (λ (j : ℕ). raise (drop j roots) f (cond (eqb (f / 2 ^ (23 - i) % 2) 1) (m * get_or roots i 0 / 2 ^ 30) m)) (next i)
  where
    rest : (i : ℕ) → 24 - suc i ≡ 23 - i
    rest i = omega arith

    next : (i : ℕ) → suc i ≡ i + 1
    next i = omega arith

turn_one : (f m i x : ℕ) → i < 24 → f / 2 ^ (23 - i) % 2 ≡ 1 → x ≡ get_or roots i 0 → Left f m i → Left f (m * x / 2 ^ 30) (i + 1)
turn_one f m i x h b e l =
    let r = root_in i h in
    let big : 2 ^ 30 ≤ x = omega arith in (
      le_trans l.0 ((le-div_iff_mul-le (pow_pos 30)).1 (mul-le-mul_left m big)),
      omega arith,
      ap (λ (y : ℕ). raise (drop (i + 1) roots) f (m * y / 2 ^ 30)) e
          ∙ sym (step-at f m i h ∙ ap (λ (t : Bool). raise (drop (i + 1) roots) f (cond t (m * get_or roots i 0 / 2 ^ 30) m)) (eq-eqb (f / 2 ^ (23 - i) % 2) 1 b))
          ∙ l.2,
    )

turn-zero : (f m i : ℕ) → i < 24 → (f / 2 ^ (23 - i) % 2 ≡ 1 → ⊥) → Left f m i → Left f m (i + 1)
turn-zero f m i h b l = (
  l.0,
  omega arith,
  sym (step-at f m i h ∙ ap (λ (t : Bool). raise (drop (i + 1) roots) f (cond t (m * get_or roots i 0 / 2 ^ 30) m)) (ne_eqb (f / 2 ^ (23 - i) % 2) 1 b))
      ∙ l.2,
)

-- a bit that is set takes the root, one that isn't takes 1
pub turn : (f m i x b : ℕ) → i < 24 → f / 2 ^ (23 - i) % 2 ≡ b → x ≡ get_or roots i 0 → Left f m i → Left f (m * (2 ^ 30 + b * (x - 2 ^ 30)) / 2 ^ 30) (i + 1)
turn f m i x zero h e g l =
    let none : 2 ^ 30 + 0 * (x - 2 ^ 30) ≡ 2 ^ 30 = omega arith in
    subst (λ (n : ℕ). Left f n (i + 1)) (sym (ap (λ (n : ℕ). m * n / 2 ^ 30) none ∙ mul-div_cancel m (pow_pos 30))) (turn-zero f m i h (λ z. omega arith) l)
turn f m i x (suc zero) h e g l =
    let r = root_in i h in
    let one : 2 ^ 30 + 1 * (x - 2 ^ 30) ≡ x = omega arith in
    subst (λ (n : ℕ). Left f (m * n / 2 ^ 30) (i + 1)) (sym one) (turn_one f m i x h e g l)
turn f m i x (suc (suc b)) h e g l = absurd (omega (arith, mod-lt (f / 2 ^ (23 - i)) (lit≤ {m = 1} {n = 2} tt)))

-- such a factor has 31 digits
pub factor_lt : (i x b : ℕ) → i < 24 → x ≡ get_or roots i 0 → b < 2 → (b * (x - 2 ^ 30) < 2 ^ 30) × (2 ^ 30 + b * (x - 2 ^ 30) < 2 ^ 32)
factor_lt i x zero h g l = (omega arith, omega arith)
factor_lt i x (suc zero) h g l = let r = root_in i h in (omega arith, omega arith)
factor_lt i x (suc (suc b)) h g l = absurd (omega arith)

-- nothing is left
none_left : (xs : List ℕ) (f m i : ℕ) → length xs ≤ i → raise (drop i xs) f m ≡ m
unfolding raise
none_left [] f m zero h = refl
none_left [] f m (suc i) h = refl
none_left (x ∷ xs) f m zero h = absurd (not-suc-le-zero h)
none_left (x ∷ xs) f m (suc i) h = none_left xs f m i (le_of_suc-le-suc h)

pub done : (f m i : ℕ) → 24 ≤ i → Left f m i → m ≡ raise roots f (2 ^ 30)
done f m i h l = sym (none_left roots f m i (subst (λ (n : ℕ). n ≤ i) (sym entries) h)) ∙ l.2

-- a product of two numbers of k bits
pub below : (k : ℕ) {a b : ℕ} → a < 2 ^ k → b < 2 ^ k → a * b < 2 ^ (k + k)
below k {a} {b} ha hb =
    subst (λ (n : ℕ). a * b < n) (sym (pow-add 2 k k))
    (lt_of_le_of_lt (mul-le-mul_left a (le_of_lt hb)) (mul-lt-mul_of_pos_right ha (pow_pos k)))
