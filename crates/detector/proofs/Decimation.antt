-- What is kept of a frame's outputs: every eighth, as f32.
use Rattle.std.proofs.Common.{◌≡◌, ℕ, zero, suc, ◌+◌, ◌*◌, ◌<◌, Bool, true, false, ◌&&◌, T, List, [], ◌∷◌, map, length, get_or, drop, sym, refl, ap, ◌∙◌, true≢false, arith, get_or-drop}
use lib.Ieee.{Float, nan, inf, fin, binary32, fits, up, down}
use lib.Ieee.Fits.{nan-fits, inf-fits, round-fits}
use lib.Ieee.Scale.{finite}
use Rattle.float.specs.AllFinite.{all_finite}
use Rattle.narrow.specs.Narrow.{narrow_of}
use Rattle.detector.specs.Filters.{eighths, handed_of, kept_of}

pub eighths-length : (n : ℕ) (ys : List Float) → length (eighths n ys) ≡ n
unfolding eighths
eighths-length zero ys = refl
eighths-length (suc n) ys = ap suc (eighths-length n (drop 8 ys))

pub eighths-at : (n : ℕ) (ys : List Float) (k : ℕ) → k < n → get_or (eighths n ys) k nan ≡ get_or ys (k * 8 + 7) nan
unfolding eighths
eighths-at zero ys k h = absurd (omega arith)
eighths-at (suc n) ys zero h = refl
eighths-at (suc n) ys (suc k) h =
    let e : 8 + (k * 8 + 7) ≡ suc k * 8 + 7 = omega arith in
    eighths-at n (drop 8 ys) k (omega arith) ∙ get_or-drop 8 ys (k * 8 + 7) nan ∙ ap (λ (j : ℕ). get_or ys j nan) e

map-length : (f : Float → Float) (l : List Float) → length (map f l) ≡ length l
map-length f [] = refl
map-length f (x ∷ l) = ap suc (map-length f l)

map_at : (f : Float → Float) (l : List Float) (k : ℕ) → k < length l → get_or (map f l) k nan ≡ f (get_or l k nan)
map_at f [] k h = absurd (omega arith)
map_at f (x ∷ l) zero h = refl
map_at f (x ∷ l) (suc k) h = map_at f l k (omega arith)

pub kept-length : (ys : List Float) → length (kept_of ys) ≡ 60
unfolding kept_of
kept-length ys = map-length narrow_of (eighths 60 ys) ∙ eighths-length 60 ys

pub kept_at : (ys : List Float) (k : ℕ) → k < 60 → get_or (kept_of ys) k nan ≡ narrow_of (get_or ys (k * 8 + 7) nan)
unfolding kept_of
kept_at ys k h =
    map_at narrow_of (eighths 60 ys) k (omega (arith, eighths-length 60 ys)) ∙ ap narrow_of (eighths-at 60 ys k h)

-- what is no number, or infinite, stays so
narrow-finite : (x : Float) → finite x && finite (narrow_of x) ≡ finite (narrow_of x)
unfolding narrow_of
narrow-finite nan = refl
narrow-finite (inf s) = refl
narrow-finite (fin s m e) = refl

and_swap : (a b c d : Bool) → a && c ≡ c → b && d ≡ d → (a && b) && (c && d) ≡ c && d
and_swap true b c d h k = go b c d k
  where
    go : (b c d : Bool) → b && d ≡ d → b && (c && d) ≡ c && d
    go true c d k = refl
    go false c true k = absurd (true≢false (sym k))
    go false true false k = refl
    go false false false k = refl
and_swap false b true d h k = absurd (true≢false (sym h))
and_swap false b false d h k = refl

all-narrow : (l : List Float) → all_finite l && all_finite (map narrow_of l) ≡ all_finite (map narrow_of l)
unfolding all_finite
all-narrow [] = refl
all-narrow (x ∷ l) = and_swap (finite x) (all_finite l) (finite (narrow_of x)) (all_finite (map narrow_of l)) (narrow-finite x) (all-narrow l)

-- so that what went to the narrowing is finite where what is kept is
pub kept-finite : (ys : List Float) → all_finite (handed_of ys) && all_finite (kept_of ys) ≡ all_finite (kept_of ys)
unfolding kept_of
kept-finite ys = all-narrow (handed_of ys)

narrow-fits : (x : Float) → T (fits binary32 (narrow_of x))
unfolding narrow_of
narrow-fits nan = nan-fits binary32
narrow-fits (inf s) = inf-fits binary32 s
narrow-fits (fin s m e) = round-fits binary32 s (m * up e) (down e)

pub kept-fits : (ys : List Float) (k : ℕ) → k < 60 → T (fits binary32 (get_or (kept_of ys) k nan))
kept-fits ys k h = rw (kept_at ys k h) (narrow-fits (get_or ys (k * 8 + 7) nan))
