-- The table of roots keeps its rule: r0 = 2 ^ 31, and each of the 24 entries is floor (root of the one before * 2 ^ 30).
use mathlib.Core.Path.{◌≡◌, refl, sym, subst}
use mathlib.Core.Bool.{Bool, true, ◌&&◌}
use mathlib.Core.List.{List, [], ◌∷◌}
use Prim.Native.Nat.{ℕ, zero, suc, ◌^◌, ◌≤◌, ◌<◌}
use native.Mathlib.Nat.{le_of_suc-le-suc, not-suc-le-zero}
use lib.Dec.{T, leb, ltb, leb→le, ltb→lt}
use lib.ListN.{length, get_or, drop}
use lib.Ieee.Fits.{and_l, and_r}
use Rattle.power.specs.Roots.{chain, roots}

pub roots_rule : T (chain (2 ^ 31) roots)
unfolding roots
roots_rule = tt

pub entries : length roots ≡ 24
unfolding roots
entries = refl

-- ---- each root is from 2 ^ 30 up and below 2 ^ 31

abbrev pub in_range : ℕ → Bool
in_range x = leb (2 ^ 30) x && ltb x (2 ^ 31)

abbrev pub all_in : List ℕ → Bool
all_in [] = true
all_in (x ∷ xs) = in_range x && all_in xs

pub all_in_lem : T (all_in roots)
unfolding roots
all_in_lem = tt

in_at : (xs : List ℕ) (i : ℕ) → T (all_in xs) → i < length xs → T (in_range (get_or xs i 0))
in_at [] i t h = absurd (not-suc-le-zero h)
in_at (x ∷ xs) zero t h = and_l (in_range x) (all_in xs) t
in_at (x ∷ xs) (suc i) t h = in_at xs i (and_r (in_range x) (all_in xs) t) (le_of_suc-le-suc h)

pub in_drop : (xs : List ℕ) (i : ℕ) → T (all_in xs) → T (all_in (drop i xs))
in_drop xs zero t = t
in_drop [] (suc i) t = tt
in_drop (x ∷ xs) (suc i) t = in_drop xs i (and_r (in_range x) (all_in xs) t)

pub root_in : (i : ℕ) → i < 24 → (2 ^ 30 ≤ get_or roots i 0) × (get_or roots i 0 < 2 ^ 31)
root_in i h =
    let x = get_or roots i 0 in
    let t = in_at roots i all_in_lem (subst (λ (n : ℕ). i < n) (sym entries) h) in
    (leb→le (2 ^ 30) x (and_l (leb (2 ^ 30) x) (ltb x (2 ^ 31)) t), ltb→lt x (2 ^ 31) (and_r (leb (2 ^ 30) x) (ltb x (2 ^ 31)) t))
