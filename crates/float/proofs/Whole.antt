-- `round` gives a whole number: the one nearest, and of two that are as near the one away from zero.
use Rattle.std.proofs.Common.{◌≡◌, ℕ, suc, ◌+◌, ◌*◌, ◌^◌, ◌<◌, ◌≤◌, Bool, T, ℤ, pos, negsuc, sym, refl, subst, true≢false, le_trans, le_refl, le_of_suc-le-suc, le_of_lt, mul-le-mul_right, div-lt_iff_lt-mul, le-div_iff_mul-le, mul-one, arith, pow_mono}
use lib.Ieee.{Float, nan, inf, fin, Format, up, down, fits}
use lib.Ieee.Exact.{HasValue}
use lib.Ieee.Back.{round_whole}
use lib.Ieee.Fits.{down_pos}
use lib.Ieee.Nearest.{div_same}
use Rattle.float.specs.Whole.{nearest_up, round_of, NearestWhole, Rounded}
use Rattle.float.proofs.Exact.{round-back, few}

-- which number that is: a / c lies in [n - 1/2, n + 1/2)
pub nearest-up : (a c : ℕ) → 0 < c → (nearest_up a c * (2 * c) ≤ 2 * a + c) × (2 * a + c < suc (nearest_up a c) * (2 * c))
nearest-up a c p = let d : 0 < 2 * c = omega arith in ((le-div_iff_mul-le d).0 (le_refl (nearest_up a c)), (div-lt_iff_lt-mul d).0 (le_refl (suc (nearest_up a c))))

-- a whole number stays
nearest-whole : (a : ℕ) → nearest_up a 1 ≡ a
nearest-whole a = omega arith

-- where there is a fraction the number does not grow
nearest-small : (m c : ℕ) → 2 ≤ c → nearest_up m c ≤ m
nearest-small m c h =
    let d : 0 < 2 * c = omega arith in
    let a : 2 * m ≤ 2 * c * m = mul-le-mul_right m (omega arith) in
    let b : 2 * m + c < suc m * (2 * c) = omega arith in
    le_of_suc-le-suc ((div-lt_iff_lt-mul d).1 b)

pub round-value : (f : Format) (s : Bool) (m : ℕ) (e : ℤ) → T (fits f (fin s m e)) → HasValue (round_of f (fin s m e)) s (nearest_up (m * up e) (down e)) 1
unfolding round_of
round-value f s m (pos k) t =
    rw (nearest-whole (m * 2 ^ k), round-back f s m (pos k) t) (refl, refl)
round-value f s m (negsuc k) t =
    round_whole f s (nearest_up (m * 1) (2 ^ suc k))
    (rw mul-one (le_trans (nearest-small m (2 ^ suc k) (pow_mono {i = 1} (omega arith))) (le_of_lt (few f s m (negsuc k) t))))

-- ---- so `round` rounds, whatever the fraction that x is written as

-- a / c and b / d are the same number, so the same number is nearest
nearest-same : (a c b d : ℕ) → 0 < c → 0 < d → a * d ≡ b * c → nearest_up a c ≡ nearest_up b d
nearest-same a c b d p q e = div_same (2 * a + c) (2 * c) (2 * b + d) (2 * d) (omega arith) (omega arith) (omega arith)

nearest : (a c : ℕ) → 0 < c → NearestWhole a c (nearest_up a c)
nearest a c p = let b = nearest-up a c p in go (nearest_up a c) b.0 b.1
  where
    go : (n : ℕ) → n * (2 * c) ≤ 2 * a + c → 2 * a + c < suc n * (2 * c) → NearestWhole a c n
    go n l h = record { half = omega arith; upper = λ e. omega arith }

pub rounded : (f : Format) (x : Float) → T (fits f x) → Rounded x (round_of f x)
rounded f nan t = record { number = λ s a c p h. absurd h; other = λ e. unfold round_of in refl }
rounded f (inf r) t = record { number = λ s a c p h. absurd h; other = λ e. unfold round_of in refl }
rounded f (fin r m e) t = record {
  number = λ s a c p h.
      let n = nearest_up (m * up e) (down e) in
      let q : n ≡ nearest_up a c = nearest-same (m * up e) (down e) a c (down_pos e) p h.1 in
      (n, subst (NearestWhole a c) (sym q) (nearest a c p), subst (λ (b : Bool). HasValue (round_of f (fin r m e)) b n 1) h.0 (round-value f r m e t));
  other = λ z. absurd (true≢false z);
}
