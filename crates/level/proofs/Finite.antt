-- What `all_finite` says of each number, of two lists, and of the values that a history takes in.
use Rattle.std.proofs.Common.{◌≡◌, ℕ, zero, suc, ◌-◌, ◌<◌, ◌≤◌, Bool, true, not, ◌&&◌, T, List, [], ◌∷◌, ◌++◌, length, get_or, take, drop, sym, refl, ap, ◌∙◌, subst, arith, length-append}
use mathlib.Core.Bool.{and_assoc}
use lib.Seq.{drop-append-le}
use lib.Ieee.{Float, nan, inf, fin, binary32, binary64, fits, is_nan}
use lib.Ieee.Fits.{fits_widens, and_i, and_l, and_r}
use lib.Ieee.Scale.{finite}
use Rattle.sequence.specs.History.{latest, held, places_after}
use Rattle.float.specs.AllFinite.{all_finite}
use Rattle.level.specs.Weighing.{clean_of}

-- what is finite is a number, so it can be widened, and it is heard as it is
pub widens : (v : Float) → T (finite v) → T (fits binary32 v) → T (fits binary64 v && not (is_nan v))
unfolding is_nan
widens nan e t = absurd e
widens (inf s) e t = absurd e
widens (fin s m x) e t = and_i (fits binary64 (fin s m x)) true (fits_widens (fin s m x) t) tt

pub clean-one : (v : Float) → T (finite v) → clean_of v ≡ v
clean-one nan e = absurd e
clean-one (inf s) e = absurd e
clean-one (fin s m x) e = refl

-- each number of a list whose numbers are all finite
pub all-at : (xs : List Float) (k : ℕ) → T (all_finite xs) → k < length xs → T (finite (get_or xs k nan))
unfolding all_finite
all-at [] k t h = absurd (omega arith)
all-at (x ∷ xs) zero t h = and_l (finite x) (all_finite xs) t
all-at (x ∷ xs) (suc k) t h = all-at xs k (and_r (finite x) (all_finite xs) t) (omega arith)

-- and of its parts
pub all_take : (n : ℕ) (xs : List Float) → T (all_finite xs) → T (all_finite (take n xs))
unfolding all_finite
all_take zero xs t = tt
all_take (suc n) [] t = tt
all_take (suc n) (x ∷ xs) t = and_i (finite x) (all_finite (take n xs)) (and_l (finite x) (all_finite xs) t) (all_take n xs (and_r (finite x) (all_finite xs) t))

pub all_drop : (n : ℕ) (xs : List Float) → T (all_finite xs) → T (all_finite (drop n xs))
unfolding all_finite
all_drop zero xs t = t
all_drop (suc n) [] t = tt
all_drop (suc n) (x ∷ xs) t = all_drop n xs (and_r (finite x) (all_finite xs) t)

-- ---- the same, number by number: a proof can be taken apart by cases

infixr 5 ◌more◌
pub data Alls : List Float → Type 0 where
  none : Alls []
  ◌more◌ : {x : Float} {xs : List Float} → T (finite x) → Alls xs → Alls (x ∷ xs)

pub all-finite : {xs : List Float} → Alls xs → T (all_finite xs)
unfolding all_finite
all-finite none = tt
all-finite (◌more◌ {x} {xs} h hs) = and_i (finite x) (all_finite xs) h (all-finite hs)

pub finite-all : (xs : List Float) → T (all_finite xs) → Alls xs
unfolding all_finite
finite-all [] t = none
finite-all (x ∷ xs) t = and_l (finite x) (all_finite xs) t more finite-all xs (and_r (finite x) (all_finite xs) t)

pub only : {x : Float} → Alls (x ∷ []) → T (finite x)
only (h more none) = h

-- ---- two lists

infixl 4 ◌and◌
pub ◌and◌ : {xs ys : List Float} → Alls xs → Alls ys → Alls (xs ++ ys)
none and k = k
(h more hs) and k = h more (hs and k)

pub parts : (xs : List Float) {ys : List Float} → Alls (xs ++ ys) → Alls xs × Alls ys
parts [] h = (none, h)
parts (x ∷ xs) (h more hs) = let r = parts xs hs in (h more r.0, r.1)

pub all_and : (xs ys : List Float) → all_finite (xs ++ ys) ≡ all_finite xs && all_finite ys
unfolding all_finite
all_and [] ys = refl
all_and (x ∷ xs) ys = ap (λ (b : Bool). finite x && b) (all_and xs ys) ∙ sym (and_assoc (finite x) (all_finite xs) (all_finite ys))

-- ---- the newest values of a history are among its places

pub new-finite : (count : ℕ) (places xs : List Float) → length xs ≤ length places → Alls (places_after count places xs) → Alls xs
unfolding places_after latest
new-finite count places xs h t =
    let l = held count places in
    let j = length (l ++ xs) - length places in
    let front = (parts (drop j (l ++ xs)) t).0 in
    (parts (drop j l) (subst Alls (drop-append-le j l xs (omega (arith, h, length-append l xs))) front)).1
