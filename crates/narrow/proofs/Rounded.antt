-- `round binary32` of sig * 2 ^ exp units of 2 ^ -1074, and its bits.
use mathlib.Core.Path.{◌≡◌, refl, sym, ap, ◌∙◌}
use mathlib.Core.Bool.{Bool, cond}
use Prim.Native.Nat.{ℕ, suc, ◌+◌, ◌-◌, ◌*◌, ◌/◌, ◌%◌, ◌^◌, ◌≤◌, ◌<◌, min, compare}
use native.Mathlib.Nat.{le_trans, le_of_eq, lt_of_lt_of_le, lt_of_not-le, mul_assoc, mul-pos, mul-le-mul_right, mul-lt-mul_of_pos_right, le-div_iff_mul-le, div-lt_iff_lt-mul}
use native.Mathlib.Decide.{dec_le}
use native.Mathlib.Omega.{arith}
use lib.Dec.{T}
use lib.Pow.{pow-add, pow_pos, pow_mono}
use lib.Ieee.{Float, nan, inf, fin, binary32, binary64, up, down, size, units, round, of_bits, fits}
use lib.Ieee.Digits.{size-le}
use lib.Ieee.Fits.{core, round_is, round-fits, nan-fits, inf-fits, down_pos, nearest-le}
use lib.Ieee.Nearest.{closest, closest_same, div_same, nearest-ge}
use lib.Ieee.Scale.{round_same}
use Rattle.float.specs.Units.{units_of}
use Rattle.float.specs.Kind.{kind_of}
use Rattle.float.specs.declared.Parts.{Parts}
use Rattle.float.specs.declared.Kind.TheVariants.{Finite}
use Rattle.float.proofs.Digits.{size_is, size_shr}
use Rattle.float.proofs.Units.{units-value}
use Rattle.float.proofs.Coded.{read-coded}
use Rattle.float.proofs.Classified.{is_finite}
use Rattle.narrow.specs.Narrow.{narrow_bits, narrow_of}
use Rattle.narrow.proofs.Shift.{none, half_of}

-- how many of the digits are dropped
abbrev pub dropped : ℕ → ℕ
dropped x = 29 + (896 - x)

-- 24 digits, or 2 ^ 24
pub kept-le : (q x : ℕ) → q < 2 ^ 53 → closest q (2 ^ dropped x) ≤ 2 ^ 24
kept-le q x short =
    le_trans (nearest-le (q / 2 ^ dropped x) (compare (q % 2 ^ dropped x * 2) (2 ^ dropped x)))
    ((div-lt_iff_lt-mul (pow_pos (dropped x))).1 (lt_of_lt_of_le short (le_trans (pow_mono (enough x)) (le_of_eq (pow-add 2 24 (dropped x))))))
  where
    enough : (x : ℕ) → 53 ≤ 24 + (29 + (896 - x))
    enough x = omega arith

module _ (q x : ℕ) (short : q < 2 ^ 53) (normal : 0 < x → 2 ^ 52 ≤ q) where
  -- the digits of q * 2 ^ x in units of 2 ^ -149, less the 24 that are kept
  left : size (q * 2 ^ x * 2 ^ 149 / 2 ^ 1074) - 24 ≡ x - 896
  left =
      ap (λ (y : ℕ). size y - 24) (div_same (q * 2 ^ x * 2 ^ 149) (2 ^ 1074) (q * 2 ^ x) (2 ^ 925) (pow_pos 1074) (pow_pos 925) (mul_assoc (q * 2 ^ x) (2 ^ 149) (2 ^ 925)))
      ∙ ap (λ (y : ℕ). y - 24) (size_shr (q * 2 ^ x) 925)
      ∙ go (dec_le x 896)
    where
      digits : size (q * 2 ^ x) ≤ 53 + x
      digits = size-le (q * 2 ^ x) (53 + x) (lt_of_lt_of_le (mul-lt-mul_of_pos_right short (pow_pos x)) (le_of_eq (sym (pow-add 2 53 x))))

      few : (z x : ℕ) → z ≤ 53 + x → x ≤ 896 → z - 925 - 24 ≡ x - 896
      few z x h l = omega arith

      all : 0 < x → size (q * 2 ^ x) ≡ suc (52 + x)
      all p =
          size_is (q * 2 ^ x) (52 + x) (le_trans (le_of_eq (pow-add 2 52 x)) (mul-le-mul_right (2 ^ x) (normal p)))
          (lt_of_lt_of_le (mul-lt-mul_of_pos_right short (pow_pos x)) (le_of_eq (sym (pow-add 2 53 x) ∙ ap (λ (y : ℕ). 2 ^ y) (more x))))
        where
          more : (x : ℕ) → 53 + x ≡ suc (52 + x)
          more x = omega arith

      many : (z x : ℕ) → z ≡ suc (52 + x) → 896 < x → z - 925 - 24 ≡ x - 896
      many z x e l = omega arith

      go : Dec (x ≤ 896) → size (q * 2 ^ x) - 925 - 24 ≡ x - 896
      go (yes l) = few (size (q * 2 ^ x)) x digits l
      go (no n) = let l : 896 < x = lt_of_not-le n in many (size (q * 2 ^ x)) x (all (omega arith)) l

  -- what is kept
  kept : closest (q * 2 ^ x * 2 ^ 149) (2 ^ 1074 * 2 ^ (x - 896)) ≡ closest q (2 ^ dropped x)
  kept =
      closest_same (q * 2 ^ x * 2 ^ 149) (2 ^ 1074 * 2 ^ (x - 896)) q (2 ^ dropped x) (mul-pos (pow_pos 1074) (pow_pos (x - 896))) (pow_pos (dropped x))
      (powers q x 149 (dropped x) 1074 (x - 896) (sums x))
    where
      sums : (x : ℕ) → x + 149 + (29 + (896 - x)) ≡ 1074 + (x - 896)
      sums x = omega arith

      powers : (q a b c d e : ℕ) → a + b + c ≡ d + e → q * 2 ^ a * 2 ^ b * 2 ^ c ≡ q * (2 ^ d * 2 ^ e)
      powers q a b c d e h =
          ap (λ (y : ℕ). y * 2 ^ c) (mul_assoc q (2 ^ a) (2 ^ b) ∙ ap (λ (y : ℕ). q * y) (sym (pow-add 2 a b))) ∙ mul_assoc q (2 ^ (a + b)) (2 ^ c)
          ∙ ap (λ (y : ℕ). q * y) (sym (pow-add 2 (a + b) c) ∙ ap (λ (y : ℕ). 2 ^ y) h ∙ pow-add 2 d e)

  kept_ge : 0 < x - 896 → 2 ^ 23 ≤ closest q (2 ^ dropped x)
  kept_ge p =
      le_trans ((le-div_iff_mul-le (pow_pos (dropped x))).1 (le_trans (le_of_eq (sym (pow-add 2 23 (dropped x)))) (le_trans (pow_mono (exact x p)) (normal (some x p)))))
      (nearest-ge (q / 2 ^ dropped x) (compare (q % 2 ^ dropped x * 2) (2 ^ dropped x)))
    where
      exact : (x : ℕ) → 0 < x - 896 → 23 + (29 + (896 - x)) ≤ 52
      exact x p = omega arith

      some : (x : ℕ) → 0 < x - 896 → 0 < x
      some x p = omega arith

  pub rounded-bits : (s : Bool) → of_bits binary32 (cond s (2 ^ 31) 0 + narrow_bits q x) ≡ round binary32 s (q * 2 ^ x) (2 ^ 1074)
  unfolding narrow_bits
  rounded-bits s =
      read-coded binary32 s (closest q (2 ^ dropped x)) (x - 896) (kept-le q x short) kept_ge
      ∙ sym (round_is binary32 s (q * 2 ^ x) (2 ^ 1074) ∙ ap (core binary32 s (q * 2 ^ x * 2 ^ 149) (2 ^ 1074)) left ∙ ap (λ (y : ℕ). units binary32 s y (x - 896)) kept)

pub bits-le : (q x : ℕ) → narrow_bits q x ≤ 255 * 2 ^ 23
unfolding narrow_bits
bits-le q x = least ((x - 896) * 2 ^ 23 + closest q (2 ^ dropped x)) (255 * 2 ^ 23)
  where
    least : (a b : ℕ) → min a b ≤ b
    least a b = omega arith

-- ---- the three ranges of the exponent

pub normal-bits : (q x r n : ℕ) → 896 ≤ x → r ≡ min ((x - 896) * 2 ^ 23 + n) (255 * 2 ^ 23) → n ≡ closest q (2 ^ 29) → r ≡ narrow_bits q x
unfolding narrow_bits
normal-bits q x r n l e h = e ∙ ap (λ (y : ℕ). min ((x - 896) * 2 ^ 23 + y) (255 * 2 ^ 23)) (h ∙ ap (λ (d : ℕ). closest q (2 ^ d)) (exact x l))
  where
    exact : (x : ℕ) → 896 ≤ x → 29 ≡ 29 + (896 - x)
    exact x l = omega arith

-- no digit of the exponent's field
low_bits : (q x : ℕ) → x < 896 → q < 2 ^ 53 → narrow_bits q x ≡ closest q (2 ^ (925 - x))
unfolding narrow_bits
low_bits q x l h =
    fold (x - 896) (closest q (2 ^ dropped x)) (omega arith) (kept-le q x h) ∙ ap (λ (d : ℕ). closest q (2 ^ d)) (same x l)
  where
    same : (x : ℕ) → x < 896 → 29 + (896 - x) ≡ 925 - x
    same x l = omega arith

    fold : (k n : ℕ) → k ≡ 0 → n ≤ 2 ^ 24 → min (k * 2 ^ 23 + n) (255 * 2 ^ 23) ≡ n
    fold k n e l = omega arith

pub subnormal_bits : (q x r : ℕ) → x < 896 → q < 2 ^ 53 → r ≡ closest q (2 ^ (925 - x)) → r ≡ narrow_bits q x
subnormal_bits q x r l h e = e ∙ sym (low_bits q x l h)

pub no_bits : (q x : ℕ) → x < 896 → q < 2 ^ 53 → 64 ≤ 925 - x → 0 ≡ narrow_bits q x
no_bits q x l h g =
    sym (low_bits q x l h ∙ ap (closest q) (sym (half_of (925 - x) (omega arith))) ∙ none q (2 ^ (925 - x - 1)) (lt_of_lt_of_le h (pow_mono (far x g))))
  where
    far : (x : ℕ) → 64 ≤ 925 - x → 53 ≤ 925 - x - 1
    far x g = omega arith

-- ---- an f64

-- the definition in units
in_units : Float → Float
in_units nan = nan
in_units (inf s) = inf s
in_units (fin s m e) = round binary32 s (units_of (fin s m e)) (2 ^ 1074)

units-same : (v : Float) → T (fits binary64 v) → in_units v ≡ narrow_of v
unfolding in_units narrow_of
units-same nan t = refl
units-same (inf s) t = refl
units-same (fin s m e) t = round_same binary32 s (units_of (fin s m e)) (2 ^ 1074) (m * up e) (down e) (pow_pos 1074) (down_pos e) (sym (units-value s m e t).1)

pub finite-bits : (v : Float) (p : Parts) → T (fits binary64 v) → kind_of v ≡ Finite p → of_bits binary32 (cond p.negative (2 ^ 31) 0 + narrow_bits p.sig p.exp) ≡ narrow_of v
unfolding in_units
finite-bits v p t k =
    let f = is_finite v p t k in
    let w = f.parts_of in
    rounded-bits p.sig p.exp w.short w.normal p.negative
    ∙ f.by_units in_units (λ s n. round binary32 s n (2 ^ 1074)) (λ s m e. refl)
    ∙ units-same v t

-- every result is an f32
pub narrow-fits : (v : Float) → T (fits binary32 (narrow_of v))
unfolding narrow_of
narrow-fits nan = nan-fits binary32
narrow-fits (inf s) = inf-fits binary32 s
narrow-fits (fin s m e) = round-fits binary32 s (m * up e) (down e)
