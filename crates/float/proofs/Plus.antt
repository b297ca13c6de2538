-- Sums, products and quotients of numbers without a minus sign have none; nor has a square.
use Rattle.std.proofs.Common.{ℕ, zero, suc, ◌+◌, ◌*◌, ◌^◌, Bool, true, false, cond, T, eqb, ltb, sym, subst}
use lib.Ieee.{Float, nan, inf, fin, Format, prec, emax, low, up, down, odd, units, round, sum, add, mul, div}
use lib.Ieee.Fits.{add-fits, mul-fits, div-fits, round_is}
use Rattle.float.specs.Valid.{plus, NoMinus}

pick-plus : (b : Bool) (x y : Float) → T (plus x) → T (plus y) → T (plus (cond b x y))
pick-plus true x y p q = p
pick-plus false x y p q = q

odd-plus : (d q k l : ℕ) → T (plus (odd d false q k l))
unfolding odd
odd-plus d zero k l = tt
odd-plus d (suc q) k l = tt

units-plus : (f : Format) (q k : ℕ) → T (plus (units f false q k))
unfolding units
units-plus f q k = pick-plus (ltb (q * 2 ^ k) (2 ^ (low f + suc (emax f)))) (odd (suc (prec f)) false q k (low f)) (inf false) (odd-plus (suc (prec f)) q k (low f)) tt

pub round-plus : (f : Format) (a b : ℕ) → T (plus (round f false a b))
round-plus f a b = subst (λ (x : Float). T (plus x)) (sym (round_is f false a b)) (units-plus f _ _)

pub add-plus : (f : Format) (x y : Float) → T (plus x) → T (plus y) → T (plus (add f x y))
unfolding add sum
add-plus f nan y p q = tt
add-plus f (inf s) nan p q = tt
add-plus f (inf true) (inf t) p q = absurd p
add-plus f (inf false) (inf true) p q = absurd q
add-plus f (inf false) (inf false) p q = tt
add-plus f (inf s) (fin t n d) p q = p
add-plus f (fin s m e) nan p q = tt
add-plus f (fin s m e) (inf t) p q = q
add-plus f (fin true m e) (fin t n d) p q = absurd p
add-plus f (fin false m e) (fin true n d) p q = absurd q
add-plus f (fin false m e) (fin false n d) p q = round-plus f _ _

pub mul-plus : (f : Format) (x y : Float) → T (plus x) → T (plus y) → T (plus (mul f x y))
unfolding mul
mul-plus f nan y p q = tt
mul-plus f (inf true) y p q = absurd p
mul-plus f (inf false) nan p q = tt
mul-plus f (inf false) (inf true) p q = absurd q
mul-plus f (inf false) (inf false) p q = tt
mul-plus f (inf false) (fin true n d) p q = absurd q
mul-plus f (inf false) (fin false n d) p q = pick-plus (eqb n 0) nan (inf false) tt tt
mul-plus f (fin true m e) y p q = absurd p
mul-plus f (fin false m e) nan p q = tt
mul-plus f (fin false m e) (inf true) p q = absurd q
mul-plus f (fin false m e) (inf false) p q = pick-plus (eqb m 0) nan (inf false) tt tt
mul-plus f (fin false m e) (fin true n d) p q = absurd q
mul-plus f (fin false m e) (fin false n d) p q = round-plus f _ _

pub square-plus : (f : Format) (x : Float) → T (plus (mul f x x))
unfolding mul
square-plus f nan = tt
square-plus f (inf true) = tt
square-plus f (inf false) = tt
square-plus f (fin true m e) = round-plus f _ _
square-plus f (fin false m e) = round-plus f _ _

pub div-plus : (f : Format) (x y : Float) → T (plus x) → T (plus y) → T (plus (div f x y))
unfolding div
div-plus f nan y p q = tt
div-plus f (inf true) y p q = absurd p
div-plus f (inf false) nan p q = tt
div-plus f (inf false) (inf t) p q = tt
div-plus f (inf false) (fin true n d) p q = absurd q
div-plus f (inf false) (fin false n d) p q = tt
div-plus f (fin true m e) y p q = absurd p
div-plus f (fin false m e) nan p q = tt
div-plus f (fin false m e) (inf true) p q = absurd q
div-plus f (fin false m e) (inf false) p q = tt
div-plus f (fin false m e) (fin true n d) p q = absurd q
div-plus f (fin false m e) (fin false n d) p q =
    pick-plus (eqb n 0) (cond (eqb m 0) nan (inf false)) (round f false (m * up e * down d) (n * up d * down e))
    (pick-plus (eqb m 0) nan (inf false) tt tt) (round-plus f _ _)

-- ---- and the format holds them

pub add-sum : (f : Format) (x y : Float) → T (plus x) → T (plus y) → NoMinus f (add f x y)
add-sum f x y p q = (add-plus f x y p q, add-fits f x y)

pub square-sum : (f : Format) (x : Float) → NoMinus f (mul f x x)
square-sum f x = (square-plus f x, mul-fits f x x)

pub div-sum : (f : Format) (x y : Float) → T (plus x) → T (plus y) → NoMinus f (div f x y)
div-sum f x y p q = (div-plus f x y p q, div-fits f x y)
