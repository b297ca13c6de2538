-- 2 ^ (K - 2) < (2 ^ y) ^ (2 ^ 24) ≤ 2 ^ K for a y from -1,000 to 1,000 and K = floor (y * 2 ^ 24).
use mathlib.Core.Path.{◌≡◌, refl, sym, ap, ap₂, ◌∙◌, subst}
use mathlib.Core.Bool.{Bool, true, false, ◌&&◌, ◌||◌, cond}
use Prim.Native.Nat.{ℕ, zero, suc, ◌+◌, ◌-◌, ◌*◌, ◌/◌, ◌%◌, ◌^◌, ◌≤◌, ◌<◌}
use native.Mathlib.Nat.{le_trans, le_of_eq, le_of_lt, lt_of_lt_of_le, lt_of_le_of_lt, mul_assoc, mul_comm, mul-one, one-mul, mul-pos, mul_right_comm, mul-mul-mul_comm, mod-lt, div-add-mod', one-le-pow, pow-succ', mul-le-mul_right, mul-lt-mul_of_pos_right, le_of_mul-le-mul_right, lt_of_mul-lt-mul_right, le-add_right}
use native.Mathlib.Omega.{arith}
use lib.IntN.{ℤ, pos, negsuc, neg_ℤ, pred_ℤ}
use lib.Dec.{T, ltb, eqb, ltb→lt, eqb→eq}
use lib.Arith.{comp_comp}
use borrow.Author.Tests.{le-leb, lt-leb, le-ltb}
use lib.Pow.{pow-add, pow_pos, pow_mono}
use lib.Ieee.{Float, nan, inf, fin, binary64, up, down, minus, lt, eq, le, neg, is_nan, of_bits}
use lib.Ieee.Digits.{minus_val}
use lib.Ieee.Exact.{HasValue, round_exact}
use lib.Ieee.Fits.{down_pos}
use lib.Ieee.Positive.{num, den, den_pos, positive_of_value, value→cross}
use Rattle.float.specs.Units.{units_of}
use Rattle.float.specs.Choice.{min_of}
use Rattle.float.proofs.Powers.{mul_pow, pow_mul, value-power, two-power}
use Rattle.power.specs.Roots.{roots}
use Rattle.power.specs.Power.{floor_units, floor_of, raise, above, pow_units, pow_at, thousand, exp2_of}
use Rattle.power.specs.Bounds.{PowerBounds}
use Rattle.power.proofs.Products.{power_24}
use Rattle.power.proofs.Turns.{all_small, all_large}
use Rattle.power.proofs.Floors.{above-minus, ceil_at-most, above-le}
use Rattle.power.proofs.Cases.{exp2-from, units-le}

-- ---- with the whole part of the exponent

with-whole : (m n f q k : ℕ) → n * q + f ≡ k → (m ^ q ≤ 2 ^ (30 * q + f)) × (2 ^ (30 * q + f) < 4 * m ^ q) → ((m * 2 ^ n) ^ q ≤ 2 ^ (30 * q + k)) × (2 ^ (30 * q + k) < 4 * (m * 2 ^ n) ^ q)
with-whole m n f q k e h =
    let a : (m * 2 ^ n) ^ q ≡ m ^ q * 2 ^ (n * q) = mul_pow m (2 ^ n) q ∙ ap (λ (x : ℕ). m ^ q * x) (sym (pow_mul 2 n q)) in
    let b : 2 ^ (30 * q + k) ≡ 2 ^ (30 * q + f) * 2 ^ (n * q) = ap (λ (x : ℕ). 2 ^ x) (split (30 * q) f (n * q) k e) ∙ pow-add 2 (30 * q + f) (n * q) in (
      le_trans (le_of_eq a) (le_trans (mul-le-mul_right (2 ^ (n * q)) h.0) (le_of_eq (sym b))),
      lt_of_le_of_lt (le_of_eq b) (lt_of_lt_of_le (mul-lt-mul_of_pos_right h.1 (pow_pos (n * q))) (le_of_eq (mul_assoc 4 (m ^ q) (2 ^ (n * q)) ∙ ap (λ (x : ℕ). 4 * x) (sym a)))),
    )
  where
    split : (t f w k : ℕ) → w + f ≡ k → t + k ≡ t + f + w
    split t f w k e = omega arith

pub units-bounds : (k : ℕ) → (pow_units k ^ (2 ^ 24) ≤ 2 ^ (30 * 2 ^ 24 + k)) × (2 ^ (30 * 2 ^ 24 + k) < 4 * pow_units k ^ (2 ^ 24))
unfolding pow_units
units-bounds k = with-whole (raise roots (k % 2 ^ 24) (2 ^ 30)) (k / 2 ^ 24) (k % 2 ^ 24) (2 ^ 24) k (div-add-mod' k (2 ^ 24)) (power_24 (k % 2 ^ 24) (mod-lt k (pow_pos 24)))

-- ---- the f64 has that value

units_are : (k : ℕ) → pow_units k ≡ raise roots (k % 2 ^ 24) (2 ^ 30) * 2 ^ (k / 2 ^ 24)
unfolding pow_units
units_are k = refl

pub units-pos : (k : ℕ) → 0 < pow_units k
units-pos k = lt_of_lt_of_le (mul-pos (lt_of_lt_of_le (pow_pos 30) (all_large (k % 2 ^ 24))) (pow_pos (k / 2 ^ 24))) (le_of_eq (sym (units_are k)))

pub power-exact : (k : ℕ) → k ≤ 2000 * 2 ^ 24 → HasValue (pow_at k) false (pow_units k) (2 ^ 1030)
unfolding pow_at
power-exact k h =
    let m = raise roots (k % 2 ^ 24) (2 ^ 30) in
    let n = k / 2 ^ 24 in
    let hi : m < 2 ^ 31 = all_small (k % 2 ^ 24) (mod-lt k (pow_pos 24)) in
    round_exact binary64 false (pow_units k) (2 ^ 1030) m (n + 44) (pow_pos 1030) (omega arith)
    (lt_of_lt_of_le (mul-lt-mul_of_pos_right hi (pow_pos (n + 44))) (le_trans (le_of_eq (sym (pow-add 2 31 (n + 44)))) (pow_mono (reach n (omega arith)))))
    (ap (λ (x : ℕ). x * 2 ^ 1074) (units_are k) ∙ mul_assoc m (2 ^ n) (2 ^ 1074) ∙ ap (λ (x : ℕ). m * x) (sym (mul_assoc (2 ^ n) (2 ^ 44) (2 ^ 1030)) ∙ ap (λ (x : ℕ). x * 2 ^ 1030) (sym (pow-add 2 n 44))) ∙ sym (mul_assoc m (2 ^ (n + 44)) (2 ^ 1030)))
  where
    reach : (n : ℕ) → n ≤ 2000 → 31 + (n + 44) ≤ 2098
    reach n h = omega arith

-- ---- 2 ^ (K - 1) is half of 2 ^ K

half : (K : ℤ) → up (pred_ℤ K) * 2 * down K ≡ up K * down (pred_ℤ K)
half (pos zero) = refl
half (pos (suc n)) = mul-one (2 ^ n * 2) ∙ mul_comm (2 ^ n) 2 ∙ sym (pow-succ' 2 n) ∙ sym (mul-one (2 ^ suc n))
half (negsuc n) = ap (λ (x : ℕ). x * 2 ^ suc n) (one-mul 2) ∙ sym (pow-succ' 2 (suc n)) ∙ sym (one-mul (2 ^ suc (suc n)))

halved : (K : ℤ) (x w : ℕ) → up K * x < 2 * w * down K → up (pred_ℤ K) * x < w * down (pred_ℤ K)
halved K x w h =
    let D = down K in
    let D' = down (pred_ℤ K) in
    lt_of_mul-lt-mul_right (2 * D)
    (lt_of_le_of_lt (le_of_eq (mul_right_comm (up (pred_ℤ K)) x (2 * D) ∙ ap (λ (y : ℕ). y * x) (sym (mul_assoc (up (pred_ℤ K)) 2 D) ∙ half K) ∙ mul_right_comm (up K) D' x))
    (lt_of_lt_of_le (mul-lt-mul_of_pos_right h (down_pos (pred_ℤ K)))
    (le_of_eq (mul_assoc (2 * w) D D' ∙ ap₂ (λ (y z : ℕ). y * z) (mul_comm 2 w) (mul_comm D D') ∙ mul-mul-mul_comm w 2 D' D))))

quarter : (K : ℤ) (x w : ℕ) → up K * x < 4 * (w * down K) → up (pred_ℤ (pred_ℤ K)) * x < w * down (pred_ℤ (pred_ℤ K))
quarter K x w h = halved (pred_ℤ K) x w (halved K x (2 * w) (lt_of_lt_of_le h (le_of_eq (sym (mul_assoc 4 w (down K)) ∙ ap (λ (y : ℕ). y * down K) (twice w)))))
  where
    twice : (w : ℕ) → 4 * w ≡ 2 * (2 * w)
    twice w = omega arith

-- ---- the value v / d, which is n units of 2 ^ -w, beside 2 ^ (a - w * q), written as u / t

module _ (v n d w q a : ℕ) (units : n * d ≡ v * 2 ^ w) (u t : ℕ) (ratio : u * 2 ^ (w * q) ≡ 2 ^ a * t) where
  at_most : n ^ q ≤ 2 ^ a → v ^ q * t ≤ u * d ^ q
  at_most h = le_of_mul-le-mul_right (le_trans (le_of_eq (value-power v n d w q a units u t ratio)) (le_trans (mul-le-mul_right (t * d ^ q) h) (le_of_eq (sym (two-power v n d w q a units u t ratio))))) (pow_pos (w * q))

  over : 0 < t → 0 < d → 2 ^ a < 4 * n ^ q → u * d ^ q < 4 * (v ^ q * t)
  over p r h =
      lt_of_mul-lt-mul_right (2 ^ (w * q))
      (lt_of_le_of_lt (le_of_eq (two-power v n d w q a units u t ratio))
      (lt_of_lt_of_le (mul-lt-mul_of_pos_right h (mul-pos p (one-le-pow q d r)))
      (le_of_eq (mul_assoc 4 (n ^ q) (t * d ^ q) ∙ ap (λ (x : ℕ). 4 * x) (sym (value-power v n d w q a units u t ratio)) ∙ sym (mul_assoc 4 (v ^ q * t) (2 ^ (w * q)))))))

value-bounds : (j v n d k : ℕ) → 0 < d → n * d ≡ v * 2 ^ 1030 → (n ^ (2 ^ j) ≤ 2 ^ (30 * 2 ^ j + k)) × (2 ^ (30 * 2 ^ j + k) < 4 * n ^ (2 ^ j))
    → (v ^ (2 ^ j) * down (minus k (1000 * 2 ^ j)) ≤ up (minus k (1000 * 2 ^ j)) * d ^ (2 ^ j)) × (up (minus k (1000 * 2 ^ j)) * d ^ (2 ^ j) < 4 * (v ^ (2 ^ j) * down (minus k (1000 * 2 ^ j))))
value-bounds j v n d k p h b =
    let q = 2 ^ j in
    let K = minus k (1000 * q) in
    let r1 : up K * 2 ^ (1000 * q) ≡ 2 ^ k * down K = ap (λ (x : ℕ). x * 2 ^ (1000 * q)) (sym (one-mul (up K))) ∙ minus_val 1 k (1000 * q) ∙ ap (λ (x : ℕ). x * down K) (one-mul (2 ^ k)) in
    let r : up K * 2 ^ (1030 * q) ≡ 2 ^ (30 * q + k) * down K =
    ap (λ (x : ℕ). up K * x) (ap (λ (x : ℕ). 2 ^ x) (sums q) ∙ pow-add 2 (1000 * q) (30 * q))
    ∙ sym (mul_assoc (up K) (2 ^ (1000 * q)) (2 ^ (30 * q)))
    ∙ ap (λ (x : ℕ). x * 2 ^ (30 * q)) r1
    ∙ mul_right_comm (2 ^ k) (down K) (2 ^ (30 * q))
    ∙ ap (λ (x : ℕ). x * down K) (mul_comm (2 ^ k) (2 ^ (30 * q)) ∙ sym (pow-add 2 (30 * q) k)) in
    (at_most v n d 1030 q (30 * q + k) h (up K) (down K) r b.0, over v n d 1030 q (30 * q + k) h (up K) (down K) r (down_pos K) p b.1)
  where
    sums : (q : ℕ) → 1030 * q ≡ 1000 * q + 30 * q
    sums q = omega arith

-- ---- K from k = K + 1000 * 2 ^ 24

minus_plus : (l x : ℕ) → minus (l + x) l ≡ pos x
minus_plus l x = ap (λ (b : Bool). cond b (pos (l + x - l)) (negsuc (l - suc (l + x)))) (le-leb l (l + x) (le-add_right l x)) ∙ ap pos (less l x)
  where
    less : (l x : ℕ) → l + x - l ≡ x
    less l x = omega arith

minus-less : (l u : ℕ) → u ≤ l → minus (l - u) l ≡ neg_ℤ (pos u)
minus-less l zero h = ap (λ (x : ℕ). minus x l) (same l) ∙ minus_plus l 0
  where
    same : (l : ℕ) → l - 0 ≡ l + 0
    same l = omega arith
minus-less l (suc w) h = ap (λ (b : Bool). cond b (pos (l - suc w - l)) (negsuc (l - suc (l - suc w)))) (lt-leb l (l - suc w) (omega arith)) ∙ ap negsuc (comp_comp h)

minus-above : (s : Bool) (u : ℕ) → u ≤ 1000 * 2 ^ 1074 → minus (above (floor_units s u)) (1000 * 2 ^ 24) ≡ floor_units s u
unfolding floor_units
minus-above true u h = let c = (u * 2 ^ 24 + (2 ^ 1074 - 1)) / 2 ^ 1074 in ap (λ (x : ℕ). minus x (1000 * 2 ^ 24)) (above-minus c) ∙ minus-less (1000 * 2 ^ 24) c (ceil_at-most u h)
minus-above false u h = minus_plus (1000 * 2 ^ 24) (u * 2 ^ 24 / 2 ^ 1074)

power_bounds : (k : ℕ) (K : ℤ) → k ≤ 2000 * 2 ^ 24 → minus k (1000 * 2 ^ 24) ≡ K → PowerBounds (pow_at k) K
power_bounds k K h e =
    let r = pow_at k in
    let x = power-exact k h in
    let b = value-bounds 24 (num r) (pow_units k) (den r) k (den_pos r) (sym (value→cross r (pow_units k) (2 ^ 1030) x)) (units-bounds k) in
    subst (λ (K : ℤ). PowerBounds r K) e
    (record { above_zero = positive_of_value r (pow_units k) (2 ^ 1030) x (units-pos k); lower = quarter (minus k (1000 * 2 ^ 24)) (den r ^ (2 ^ 24)) (num r ^ (2 ^ 24)) b.1; upper = b.0 })

-- ---- by y itself

-- the order of two sizes, as `le` has it
pub order : (a b : ℕ) (y z : Bool) → (T y → a ≡ b) → T (ltb a b || (y && z)) → a ≤ b
order a b y z g t = go (ltb a b) y (ltb→lt a b) g t
  where
    go : (x y : Bool) → (T x → a < b) → (T y → a ≡ b) → T (x || (y && z)) → a ≤ b
    go true y f g t = le_of_lt (f tt)
    go false true f g t = le_of_eq (g tt)
    go false false f g t = absurd t

module _ (m : ℕ) (e : ℤ) (h : m * up e ≤ 1000 * down e) where
  size-le : m * up e * 1 ≤ 1000 * down e
  size-le = le_trans (le_of_eq (mul-one (m * up e))) h

  not-below : (s : Bool) → lt (fin s m e) (neg thousand) ≡ false
  unfolding lt neg of_bits
  not-below true = le-ltb (1000 * down e) (m * up e * 1) size-le
  not-below false = refl

  own-floor : (s : Bool) → floor_of (fin s m e) ≡ floor_of (min_of (fin s m e) thousand)
  unfolding min_of lt of_bits
  own-floor true = refl
  own-floor false = ap (λ (b : Bool). floor_of (cond b thousand (fin false m e))) (sym (le-ltb (1000 * down e) (m * up e * 1) size-le))

  own-bounds : (s : Bool) → PowerBounds (pow_at (above (floor_of (fin s m e)))) (floor_of (fin s m e))
  unfolding floor_of
  own-bounds s = let u = units_of (fin s m e) in let l = units-le s m e h in power_bounds (above (floor_units s u)) (floor_units s u) (above-le s u l) (minus-above s u l)

  at_size : (s : Bool) → PowerBounds (exp2_of (fin s m e)) (floor_of (fin s m e))
  at_size s = subst (λ (r : Float). PowerBounds r (floor_of (fin s m e))) (ap (λ (K : ℤ). pow_at (above K)) (own-floor s) ∙ exp2-from (fin s m e) (unfold is_nan in tt) (not-below s)) (own-bounds s)

-- the law of the specification
pub exp2-bounds : (y : Float) → T (le (neg thousand) y) → T (le y thousand) → PowerBounds (exp2_of y) (floor_of y)
unfolding le lt eq neg of_bits
exp2-bounds nan a b = absurd b
exp2-bounds (inf true) a b = absurd a
exp2-bounds (inf false) a b = absurd b
exp2-bounds (fin true m e) a b =
    let x = m * up e * 1 in
    let l = 1000 * down e in
    at_size m e (rw mul-one at (order x l (eqb l x) (true || eqb l 0) (λ t. sym (eqb→eq l x t)) a)) true
exp2-bounds (fin false m e) a b =
    let x = m * up e * 1 in
    let l = 1000 * down e in
    at_size m e (rw mul-one at (order x l (eqb x l) (true || eqb x 0) (eqb→eq x l) b)) false
