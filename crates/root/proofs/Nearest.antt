-- The root is nearest, and nothing else is.
use mathlib.Core.Path.{◌≡◌, refl, sym, ap, ◌∙◌, subst}
use mathlib.Core.Bool.{true, false}
use mathlib.Core.Logic.{◌⊎◌, inl, inr}
use Prim.Native.Nat.{ℕ, zero, suc, ◌+◌, ◌-◌, ◌*◌, ◌/◌, ◌^◌, ◌≤◌, ◌<◌}
use native.Mathlib.Nat.{le_trans, le_of_eq, le_antisymm, lt_irrefl, lt_trans, lt_of_lt_of_le, lt_of_le_of_lt, lt_of_not-le, eq-or-lt_of_le, mul_assoc, mul-pos, mul-le-mul, mul-le-mul_left, mul-le-mul_right, mul-lt-mul_of_pos_right, lt_of_mul-lt-mul_right, add_comm}
use native.Mathlib.Decide.{dec_le}
use native.Mathlib.Omega.{arith}
use lib.Dec.{T, lit<}
use lib.Pow.{pow-add, pow_pos, pow_mono}
use lib.Ieee.{Float, nan, inf, fin, binary64, units, fits}
use lib.Ieee.Exact.{HasValue, units_val}
use lib.Ieee.Fits.{round-fits}
use lib.Ieee.Positive.{positive, first_pos}
use lib.Ieee.Scale.{finite}
use Rattle.float.specs.Units.{units_of}
use Rattle.float.specs.Valid.{Num, plus}
use Rattle.float.proofs.Units.{Split, split, units_of_lem, units-pos, units-value}
use Rattle.float.proofs.Coded.{units-fits}
use Rattle.float.proofs.Exact.{unique}
use Rattle.root.specs.Root.{floor_root, root_of_units, root_of, sqrt_of}
use Rattle.root.specs.Nearest.{Held, Nearest, NearestRoot}
use Rattle.root.specs.Steps.{Near}
use Rattle.root.proofs.Squares.{square-lt, floor-root}
use Rattle.root.proofs.Digits.{near}
use Rattle.root.proofs.Scaled.{Scaled, scaled, digits_of, exponent_of}
use Rattle.root.proofs.Midpoints.{at_least, midpoint_above, midpoint_below}
use Rattle.root.proofs.Rounded.{root_is}

pub root-fits : (n : ℕ) → T (fits binary64 (root_of_units n))
unfolding root_of_units
root-fits n = round-fits binary64 false (floor_root (n * 2 ^ 1074)) (2 ^ 1074)

units_are : (v : Float) (a : ℕ) → HasValue v false a (2 ^ 1074) → T (finite v) × (units_of v ≡ a)
units_are nan a h = absurd h
units_are (inf t) a h = absurd h
units_are (fin t m e) a h = (tt, units_of_lem (fin t m e) a h.1)

-- ---- what an f64 can be

-- 53 digits and j zeros: a multiple of 2 ^ k, or too small for 53 digits before the last k
on_grid : (p j k : ℕ) → p < 2 ^ 53 → ((c : ℕ) × (p * 2 ^ j ≡ c * 2 ^ k)) ⊎ (p * 2 ^ j < 2 ^ 52 * 2 ^ k)
on_grid p j k h = elim (dec_le k j) [
  | yes g ↦ inl (p * 2 ^ (j - k), ap (λ (x : ℕ). p * x) (ap (λ (x : ℕ). 2 ^ x) (back j k g) ∙ pow-add 2 (j - k) k) ∙ sym (mul_assoc p (2 ^ (j - k)) (2 ^ k)))
  | no g ↦
      inr (lt_of_lt_of_le (mul-lt-mul_of_pos_right h (pow_pos j))
      (le_trans (le_of_eq (sym (pow-add 2 53 j))) (le_trans (pow_mono (fewer j k (lt_of_not-le g))) (le_of_eq (pow-add 2 52 k)))))
]
  where
    back : (j k : ℕ) → k ≤ j → j ≡ j - k + k
    back j k g = omega arith

    fewer : (j k : ℕ) → j < k → 53 + j ≤ 52 + k
    fewer j k g = omega arith

held_grid : (w k : ℕ) → Held w → ((c : ℕ) × (w ≡ c * 2 ^ k)) ⊎ (w < 2 ^ 52 * 2 ^ k)
held_grid w k h = go h.value h.num h.units
  where
    go : (v : Float) → Num binary64 v → units_of v ≡ w → ((c : ℕ) × (w ≡ c * 2 ^ k)) ⊎ (w < 2 ^ 52 * 2 ^ k)
    go nan n e = absurd n.0
    go (inf s) n e = absurd n.0
    go (fin s m x) n e =
        let t = split s m x n.1 in
        subst (λ (y : ℕ). ((c : ℕ) × (y ≡ c * 2 ^ k)) ⊎ (y < 2 ^ 52 * 2 ^ k)) (t.whole ∙ e) (on_grid _ _ k t.short)

-- ---- the nearest of them

module _ (N a k q : ℕ) (s : Scaled N a k) (n : Near a q) where
  abbrev P : ℕ
  P = 2 ^ k

  above : (w : ℕ) → Held w → q * P < w → 4 * N < (q * P + w) * (q * P + w)
  above w h l = go (held_grid w k h)
    where
      next : (c : ℕ) → q < c → (2 * q + 1) * P ≤ q * P + c * P
      next c g = let m : (q + 1) * P ≤ c * P = mul-le-mul_right P (omega arith) in omega arith

      go : ((c : ℕ) × (w ≡ c * P)) ⊎ (w < 2 ^ 52 * P) → 4 * N < (q * P + w) * (q * P + w)
      go (inl e) = midpoint_above N a k s q n (q * P + w) (subst (λ (y : ℕ). (2 * q + 1) * P ≤ q * P + y) (sym e.1) (next e.0 (lt_of_mul-lt-mul_right P (subst (λ (y : ℕ). q * P < y) e.1 l))))
      go (inr g) = absurd (lt_irrefl w (lt_trans (lt_of_lt_of_le g (mul-le-mul_right P n.least)) l))

  below : (w : ℕ) → Held w → w < q * P → (q * P + w) * (q * P + w) < 4 * N
  below w h l = go (eq-or-lt_of_le n.least) (held_grid w k h)
    where
      last : (c : ℕ) → c < q → q * P + c * P ≤ (2 * q - 1) * P
      last c g =
          let m : (q + c) * P ≤ (2 * q - 1) * P = mul-le-mul_right P (omega arith) in
          omega arith

      less : (c : ℕ) → c < q → w ≤ c * P → (q * P + w) * (q * P + w) < 4 * N
      less c g e = midpoint_below N a k s q n (q * P + w) (le_trans (omega arith) (last c g))

      twice : (v w : ℕ) → w < v → (v + w) * (v + w) < 4 * (v * v)
      twice v w l = lt_of_lt_of_le (square-lt (v + w) (v + v) (omega arith)) (omega arith)

      go : (2 ^ 52 ≡ q) ⊎ (2 ^ 52 < q) → ((c : ℕ) × (w ≡ c * P)) ⊎ (w < 2 ^ 52 * P) → (q * P + w) * (q * P + w) < 4 * N
      go (inl e) g = lt_of_lt_of_le (twice (q * P) w l) (mul-le-mul_left 4 (subst (λ (y : ℕ). y * P * (y * P) ≤ N) e (at_least N a k s)))
      go (inr e) (inl g) = less g.0 (lt_of_mul-lt-mul_right P (subst (λ (y : ℕ). y < q * P) g.1 l)) (le_of_eq g.1)
      go (inr e) (inr g) = less (2 ^ 52) e (omega arith)

  -- q * 2 ^ k units are an f64
  small : q * P < 2 ^ 2098
  small = lt_of_le_of_lt (mul-le-mul n.most (pow_mono {i = k} {j = 2000} (omega (arith, s.range)))) (lit< tt)

  value : HasValue (units binary64 false q k) false (q * P) (2 ^ 1074)
  value = units_val binary64 false q k small

  held : Held (q * P)
  held = let v = units_are (units binary64 false q k) (q * P) value in record { value = units binary64 false q k; num = (v.0, units-fits binary64 false q k n.most); units = v.1 }

  nearest : Nearest N (q * P)
  nearest = record { held = held; above = above; below = below }

-- ---- the root of an f64

-- the digits of the root of n units, where it is, and that it is nearest
pub record Rooted (n : ℕ) : Type 0 where
  pub q : ℕ
  pub k : ℕ
  pub value : HasValue (root_of_units n) false (q * 2 ^ k) (2 ^ 1074)
  pub some : 0 < q * 2 ^ k
  pub nearest : Nearest (n * 2 ^ 1074) (units_of (root_of_units n))

rooted : (n sig exp : ℕ) → 0 < n → Split n sig exp → Rooted n
rooted n sig exp p t =
    let a = digits_of sig exp in
    let k = exponent_of sig exp in
    let q = (floor_root (a * 2 ^ 54) + 1) / 2 in
    let s : Scaled (n * 2 ^ 1074) a k = subst (λ (x : ℕ). Scaled (x * 2 ^ 1074) a k) t.whole (scaled sig exp (first_pos sig (2 ^ exp) (subst (λ (x : ℕ). 0 < x) (sym t.whole) p)) t.short t.range) in
    let h : Near a q = near a (floor_root (a * 2 ^ 54)) s.least s.most (floor-root (a * 2 ^ 54)) in
    let e : root_of_units n ≡ units binary64 false q k = root_is n a k q s h in
    let v : HasValue (root_of_units n) false (q * 2 ^ k) (2 ^ 1074) = subst (λ (v : Float). HasValue v false (q * 2 ^ k) (2 ^ 1074)) (sym e) (value (n * 2 ^ 1074) a k q s h) in
    let u : q * 2 ^ k ≡ units_of (root_of_units n) = sym (units_are (root_of_units n) (q * 2 ^ k) v).1 in
    record {
      q = q;
      k = k;
      value = v;
      some = mul-pos (lt_of_lt_of_le (lit< tt) h.least) (pow_pos k);
      nearest = subst (Nearest (n * 2 ^ 1074)) u (nearest (n * 2 ^ 1074) a k q s h);
    }

pub root-of : (x : Float) → T (fits binary64 x) → T (positive x) → Rooted (units_of x)
root-of nan t p = absurd p
root-of (inf s) t p = absurd p
root-of (fin true m e) t p = absurd p
root-of (fin false zero e) t p = absurd p
root-of (fin false (suc m) e) t p = rooted (units_of (fin false (suc m) e)) _ _ (units-pos false m e t) (split false (suc m) e t)

pub root-above : (n : ℕ) → 0 < n → root_of false n ≡ root_of_units n
unfolding root_of
root-above zero p = absurd (lt_irrefl 0 p)
root-above (suc n) p = refl

-- above zero the definition is the root of its units
pub sqrt-is : (x : Float) → T (fits binary64 x) → T (positive x) → sqrt_of x ≡ root_of_units (units_of x)
unfolding sqrt_of
sqrt-is nan t p = absurd p
sqrt-is (inf s) t p = absurd p
sqrt-is (fin true m e) t p = absurd p
sqrt-is (fin false zero e) t p = absurd p
sqrt-is (fin false (suc m) e) t p = root-above (units_of (fin false (suc m) e)) (units-pos false m e t)

-- ---- the law

-- the root of every finite f64 above zero is the f64 nearest to it
pub sqrt-nearest : (x : Float) → T (fits binary64 x) → T (positive x) → NearestRoot x (sqrt_of x)
sqrt-nearest x t p = subst (NearestRoot x) (sym (sqrt-is x t p)) (root-of x t p).nearest

-- there is no other
pub nearest-unique : (N v w : ℕ) → Nearest N v → Nearest N w → v ≡ w
nearest-unique N v w a b = le_antisymm (most v w a b) (most w v b a)
  where
    most : (v w : ℕ) → Nearest N v → Nearest N w → v ≤ w
    most v w a b = elim (dec_le v w) [
      | yes g ↦ g
      | no g ↦
          let l : w < v = lt_of_not-le g in
          absurd (lt_irrefl (4 * N) (lt_trans (subst (λ (y : ℕ). 4 * N < y * y) (add_comm w v) (b.above v a.held l)) (a.below w b.held l)))
    ]

-- so an f64 without a minus sign that is nearest to the root of x is the root
pub nearest-is : (x y : Float) → T (fits binary64 x) → T (positive x) → Num binary64 y → T (plus y) → NearestRoot x y → y ≡ sqrt_of x
nearest-is x nan t p n s h = absurd n.0
nearest-is x (inf b) t p n s h = absurd n.0
nearest-is x (fin true m e) t p n s h = absurd s
nearest-is x (fin false m e) t p n s h =
    unique binary64 (fin false m e) root false (r.q * 2 ^ r.k) (2 ^ 1074) (pow_pos 1074) n.1 (root-fits (units_of x))
    (subst (λ (w : ℕ). HasValue (fin false m e) false w (2 ^ 1074)) same (units-value false m e n.1)) r.value
    ∙ sym (sqrt-is x t p)
  where
    root : Float
    root = root_of_units (units_of x)

    r : Rooted (units_of x)
    r = root-of x t p

    same : units_of (fin false m e) ≡ r.q * 2 ^ r.k
    same = nearest-unique (units_of x * 2 ^ 1074) (units_of (fin false m e)) (units_of root) h r.nearest ∙ (units_are root (r.q * 2 ^ r.k) r.value).1
