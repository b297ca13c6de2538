-- Two values without a minus sign that the format holds and that compare equal are one value.
use Prim.Native.Nat.{◌*◌}
use mathlib.Core.Path.{◌≡◌, refl}
use mathlib.Core.Bool.{true, false}
use lib.Dec.{T, eqb, eqb→eq}
use lib.Ieee.{Float, nan, inf, fin, Format, up, down, eq}
use lib.Ieee.Fits.{and_l, down_pos}
use Rattle.float.specs.Valid.{NoMinus}
use Rattle.float.proofs.Exact.{unique}

pub eq-plus : (f : Format) (x y : Float) → NoMinus f x → NoMinus f y → T (eq x y) → x ≡ y
unfolding eq
eq-plus f nan y p q h = absurd h
eq-plus f (inf s) nan p q h = absurd h
eq-plus f (inf false) (inf false) p q h = refl
eq-plus f (inf false) (inf true) p q h = absurd h
eq-plus f (inf true) (inf t) p q h = absurd p.0
eq-plus f (inf s) (fin t n d) p q h = absurd h
eq-plus f (fin s m e) nan p q h = absurd h
eq-plus f (fin s m e) (inf t) p q h = absurd h
eq-plus f (fin true m e) (fin t n d) p q h = absurd p.0
eq-plus f (fin false m e) (fin true n d) p q h = absurd q.0
eq-plus f (fin false m e) (fin false n d) p q h =
    let a = m * up e * down d in
    let b = n * up d * down e in
    unique f (fin false m e) (fin false n d) false (n * up d) (down d) (down_pos d) p.1 q.1 (refl, eqb→eq a b (and_l (eqb a b) true h)) (refl, refl)
