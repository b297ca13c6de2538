-- Facts on the bed's channels: how many a layout has, and what they have heard with a frame more.
use Prim.Native.Nat.{ℕ, zero, suc, ◌*◌}
use native.Mathlib.Omega.{arith}
use mathlib.Core.Path.{◌≡◌, refl, sym, ap, ap₂, ◌∙◌}
use mathlib.Core.List.{List, [], ◌∷◌, ◌++◌, map, foldl, append-nil, append_assoc}
use lib.ListN.{length, replicate, length-map}
use lib.Ieee.{Float}
use Rattle.level.specs.Bs1770.{frame_length}
use Rattle.level.specs.Weighing.{clean_of}
use Rattle.layout.specs.declared.Layout.{Layout}
use Rattle.layout.specs.Valid.{LayoutValid}
use Rattle.layout.proofs.Used.{used-length}
use Rattle.channels.specs.Channels.{parts}
use Rattle.channels.proofs.Weighings.{parts-length}
use Rattle.channels.specs.Heard.{Whole, each, cleaned, heard, channels_of, Bed, bed_next, bed_after}

-- ---- how many channels

pub channels-valid : (l : Layout) → LayoutValid l → channels_of l ≡ l.count
channels-valid l v = used-length l v.places.size ∙ omega (arith, v.places.within)

-- ---- what each channel has heard

-- one list after another for each channel
each-assoc : (xs ys zs : List (List Float)) → each xs (each ys zs) ≡ each (each xs ys) zs
unfolding each
each-assoc [] ys zs = refl
each-assoc (x ∷ xs) [] zs = refl
each-assoc (x ∷ xs) (y ∷ ys) [] = refl
each-assoc (x ∷ xs) (y ∷ ys) (z ∷ zs) = ap₂ (λ (l : List Float) (ls : List (List Float)). l ∷ ls) (sym (append_assoc x y z)) (each-assoc xs ys zs)

each_none : (n : ℕ) (xs : List (List Float)) → length xs ≡ n → each xs (replicate n []) ≡ xs
unfolding each
each_none n [] e = refl
each_none zero (x ∷ xs) e = absurd (omega (arith, e))
each_none (suc n) (x ∷ xs) e = ap₂ (λ (l : List Float) (ls : List (List Float)). l ∷ ls) (append-nil x) (each_none n xs (omega (arith, e)))

none_each : (n : ℕ) (xs : List (List Float)) → length xs ≡ n → each (replicate n []) xs ≡ xs
unfolding each
none_each zero [] e = refl
none_each (suc n) [] e = refl
none_each zero (x ∷ xs) e = absurd (omega (arith, e))
none_each (suc n) (x ∷ xs) e = ap (λ (ls : List (List Float)). x ∷ ls) (none_each n xs (omega (arith, e)))

cleaned-length : (n : ℕ) (f : List Float) → length (cleaned n f) ≡ n
cleaned-length n f = length-map (parts n f) (map clean_of) ∙ parts-length n f

-- ---- lists of frames, with one frame more

abbrev pub and_one : List (List Float) → List Float → List (List Float)
and_one fs f = fs ++ f ∷ []

pub whole-more : (n : ℕ) (fs : List (List Float)) (f : List Float) → Whole n fs → length f ≡ n * frame_length → Whole n (and_one fs f)
whole-more n [] f w e = (e, tt)
whole-more n (g ∷ fs) f w e = (w.0, whole-more n fs f w.1 e)

pub heard-more : (n : ℕ) (fs : List (List Float)) (f : List Float) → heard n (and_one fs f) ≡ each (heard n fs) (cleaned n f)
unfolding heard
heard-more n [] f = each_none n (cleaned n f) (cleaned-length n f) ∙ sym (none_each n (cleaned n f) (cleaned-length n f))
heard-more n (g ∷ fs) f = ap (each (cleaned n g)) (heard-more n fs f) ∙ each-assoc (cleaned n g) (heard n fs) (cleaned n f)

pub after_more : (l : Layout) (fs : List (List Float)) (f : List Float) → bed_after l (and_one fs f) ≡ bed_next (bed_after l fs) f
unfolding bed_after
after_more l fs f = go fs _
  where
    go : (fs : List (List Float)) (b : Bed) → foldl bed_next b (and_one fs f) ≡ bed_next (foldl bed_next b fs) f
    go [] b = refl
    go (g ∷ fs) b = go fs (bed_next b g)
