-- What the channels have heard, newest first, with more behind it.
use Prim.Native.Nat.{ℕ, zero, suc, ◌*◌}
use native.Mathlib.Omega.{arith}
use mathlib.Core.Path.{◌≡◌, refl, ap, sym, ◌∙◌}
use mathlib.Core.List.{List, [], ◌∷◌, map, reverse, reverse_aux, reverse_aux-append}
use lib.ListN.{length, replicate, length-map, length-reverse_aux}
use lib.Ieee.{Float}
use Rattle.level.specs.Bs1770.{weighted}
use Rattle.level.specs.Weighing.{clean_of}
use Rattle.channels.specs.Bs1770.{Source, weighted_source}
use Rattle.channels.specs.Heard.{each, sources}
use Rattle.channels.proofs.Deque.{Full}

unfoldable pub behind : List (List Float) → List (List Float) → List (List Float)
behind [] xs = []
behind (h ∷ hs) [] = []
behind (h ∷ hs) (x ∷ xs) = reverse_aux x h ∷ behind hs xs

pub behind-none : (n : ℕ) (hs : List (List Float)) → length hs ≡ n → behind hs (replicate n []) ≡ hs
unfolding behind
behind-none n [] e = refl
behind-none zero (h ∷ hs) e = absurd (omega (arith, e))
behind-none (suc n) (h ∷ hs) e = ap (λ (l : List (List Float)). h ∷ l) (behind-none n hs (omega (arith, e)))

pub behind-each : (hs xs ys : List (List Float)) → behind (behind hs xs) ys ≡ behind hs (each xs ys)
unfolding behind each
behind-each [] xs ys = refl
behind-each (h ∷ hs) [] ys = refl
behind-each (h ∷ hs) (x ∷ xs) [] = refl
behind-each (h ∷ hs) (x ∷ xs) (y ∷ ys) = λ i. sym (reverse_aux-append x y h) i ∷ behind-each hs xs ys i

pub behind-length : (hs xs : List (List Float)) → length hs ≡ length xs → length (behind hs xs) ≡ length hs
unfolding behind
behind-length [] xs e = refl
behind-length (h ∷ hs) [] e = absurd (omega (arith, e))
behind-length (h ∷ hs) (x ∷ xs) e = ap suc (behind-length hs xs (omega (arith, e)))

-- each channel has heard k frames
abbrev pub Frames : ℕ → List (List Float) → Type 0
Frames k [] = Unit {0}
Frames k (h ∷ hs) = (length h ≡ k * 480) × Frames k hs

pub behind-frames : (k : ℕ) (hs xs : List (List Float)) → Frames k hs → Full xs → Frames (suc k) (behind hs (map (map clean_of) xs))
unfolding behind
behind-frames k [] xs h f = tt
behind-frames k (g ∷ hs) [] h f = tt
behind-frames k (g ∷ hs) (x ∷ xs) h f = (
  length-reverse_aux (map clean_of x) g ∙ omega (arith, length-map x clean_of, h.0, f.0),
  behind-frames k hs xs h.1 f.1,
)

pub none-frames : (n : ℕ) → Frames 0 (replicate n [])
none-frames zero = tt
none-frames (suc n) = (refl, none-frames n)

-- of nothing, it is the reverse
pub behind-sources : (ws : List Float) (xs : List (List Float)) → sources ws (map weighted (behind (replicate (length ws) []) xs)) ≡ map weighted_source (sources ws xs)
unfolding behind sources
behind-sources [] xs = refl
behind-sources (b ∷ bs) [] = refl
behind-sources (b ∷ bs) (x ∷ xs) = ap {B = List Source} (λ (l : List Source). record { weight = b; samples = weighted (reverse x) } ∷ l) (behind-sources bs xs)
