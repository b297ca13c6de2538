-- Floats that are numbers are in order, one way or the other: so a clamped number lies between its ends.
use Prim.Native.Nat.{ℕ, zero, suc, ◌+◌, ◌*◌, ◌≤◌}
use mathlib.Core.Path.{◌≡◌, refl, sym}
use mathlib.Core.Bool.{Bool, true, false, not, ◌&&◌, ◌||◌, cond, true≢false}
use mathlib.Core.Logic.{⊎_elim}
use native.Mathlib.Nat.{eq-or-lt_of_le, le_refl}
use native.Mathlib.Omega.{arith}
use lib.Dec.{T, eqb, ltb, lt→ltb}
use lib.Ieee.{Float, nan, inf, fin, up, down, below, level, lt, le, eq, is_nan}
use lib.Ieee.Fits.{and_i, eq→eqb}
use borrow.Author.Tests.{ltb-false}
use Rattle.float.specs.Choice.{clamp_of}

or_l : (x y : Bool) → T x → T (x || y)
or_l true y t = tt
or_l false y t = absurd t

or_r : (x y : Bool) → T y → T (x || y)
or_r true y t = tt
or_r false y t = t

-- ---- not below is at least

at_least : (p q : ℕ) (e : Bool) → (p ≡ q → T e) → p ≤ q → T (ltb p q || (e && true))
at_least p q e same h = ⊎_elim (λ w. or_r (ltb p q) _ (and_i e true (same w) tt)) (λ l. or_l (ltb p q) _ (lt→ltb p q l)) (eq-or-lt_of_le h)

both_zero : (a b : ℕ) → a + b ≤ 0 → T (eqb b a && (false || eqb b 0))
both_zero a b h =
    let e : b ≡ a = omega arith in
    let z : b ≡ 0 = omega arith in
    and_i (eqb b a) _ (eq→eqb e) (eq→eqb z)

not-below : (s t : Bool) (a b : ℕ) → below s a t b ≡ false → T (below t b s a || level t b s a)
not-below false false a b h = at_least b a (eqb b a) eq→eqb (ltb-false a b h)
not-below true false a b h = both_zero a b (ltb-false 0 (a + b) h)
not-below true true a b h = at_least a b (eqb b a) (λ w. eq→eqb (sym w)) (ltb-false b a h)
not-below false true a zero h = plus a
  where
    plus : (a : ℕ) → T (ltb 0 (0 + a) || (eqb 0 a && (false || eqb 0 0)))
    plus zero = tt
    plus (suc a) = or_l (ltb 0 (0 + suc a)) _ (lt→ltb 0 (0 + suc a) (omega arith))
not-below false true a (suc b) h = or_l (ltb 0 (suc b + a)) _ (lt→ltb 0 (suc b + a) (omega arith))

pub not-lt : (x y : Float) → T (not (is_nan x)) → T (not (is_nan y)) → lt x y ≡ false → T (le y x)
unfolding lt le eq is_nan
not-lt nan y p q h = absurd p
not-lt (inf s) nan p q h = absurd q
not-lt (inf false) (inf false) p q h = tt
not-lt (inf false) (inf true) p q h = tt
not-lt (inf true) (inf true) p q h = tt
not-lt (inf true) (inf false) p q h = absurd (true≢false h)
not-lt (inf false) (fin t n d) p q h = tt
not-lt (inf true) (fin t n d) p q h = absurd (true≢false h)
not-lt (fin s m e) nan p q h = absurd q
not-lt (fin s m e) (inf true) p q h = tt
not-lt (fin s m e) (inf false) p q h = absurd (true≢false h)
not-lt (fin s m e) (fin t n d) p q h = not-below s t (m * up e * down d) (n * up d * down e) h

-- ---- what is in order is a number

pub le-number : (x y : Float) → T (le x y) → T (not (is_nan x)) × T (not (is_nan y))
unfolding lt le eq is_nan
le-number nan y h = absurd h
le-number (inf s) nan h = absurd h
le-number (inf s) (inf t) h = (tt, tt)
le-number (inf s) (fin t n d) h = (tt, tt)
le-number (fin s m e) nan h = absurd h
le-number (fin s m e) (inf t) h = (tt, tt)
le-number (fin s m e) (fin t n d) h = (tt, tt)

pub le_same : (x : Float) → T (not (is_nan x)) → T (le x x)
unfolding lt le eq is_nan
le_same nan n = absurd n
le_same (inf false) n = tt
le_same (inf true) n = tt
le_same (fin false m e) n = let a = m * up e * down e in at_least a a (eqb a a) eq→eqb (le_refl a)
le_same (fin true m e) n = let a = m * up e * down e in at_least a a (eqb a a) eq→eqb (le_refl a)

-- ---- clamp

pub clamp_between : (x low high : Float) → T (not (is_nan x)) → T (le low high) → T (le low (clamp_of x low high)) × T (le (clamp_of x low high) high)
unfolding clamp_of
clamp_between x low high n h = go (lt x low) (lt high x) refl refl
  where
    go : (a b : Bool) → lt x low ≡ a → lt high x ≡ b → T (le low (cond a low (cond b high x))) × T (le (cond a low (cond b high x)) high)
    go true b p q = (le_same low (le-number low high h).0, h)
    go false true p q = (h, le_same high (le-number low high h).1)
    go false false p q = (not-lt x low n (le-number low high h).0 p, not-lt high x (le-number low high h).1 n q)
