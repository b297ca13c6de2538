-- How many channels are run, and which.
use Prim.Native.Nat.{ℕ, zero, suc, ◌+◌, ◌*◌, ◌≤◌, ◌<◌, min}
use native.Mathlib.Omega.{arith}
use mathlib.Core.Path.{◌≡◌, refl, ap, sym, ◌∙◌}
use mathlib.Core.List.{List, [], ◌∷◌}
use lib.ListN.{length, take, drop, get_or}
use lib.Seq.{drop-drop}
use lib.Ieee.{Float}
use Rattle.level.specs.declared.Weighing.{Weighing}
use Rattle.level.specs.Weighing.{run_of}
use Rattle.channels.specs.declared.Channel.{Channel}
use Rattle.channels.specs.Channels.{begin_of, parts, weighings, weighings_of}
use Rattle.channels.specs.Runs.{past_channel, past_weighing, weighing_of}

pub parts-length : (n : ℕ) (xs : List Float) → length (parts n xs) ≡ n
unfolding parts
parts-length zero xs = refl
parts-length (suc n) xs = ap suc (parts-length n (drop 480 xs))

pub weighings-length : (cs : List Channel) (xss : List (List Float)) → length (weighings cs xss) ≡ min (length cs) (length xss)
unfolding weighings
weighings-length [] xss = omega arith
weighings-length (c ∷ cs) [] = omega arith
weighings-length (c ∷ cs) (xs ∷ xss) = ap suc (weighings-length cs xss) ∙ omega arith

pub in_use-length : (cs : List Channel) (n : ℕ) (xs : List Float) → n ≤ length cs → length (weighings_of cs n xs) ≡ n
in_use-length cs n xs h = weighings-length cs (parts n xs) ∙ omega (arith, parts-length n xs)

pub weighings-none : (cs : List Channel) → weighings cs [] ≡ []
unfolding weighings
weighings-none [] = refl
weighings-none (c ∷ cs) = refl

-- those that are not in use make no difference
pub in_use : (cs : List Channel) (n : ℕ) (xs : List Float) → weighings (take n cs) (parts n xs) ≡ weighings_of cs n xs
unfolding weighings parts
in_use cs zero xs = sym (weighings-none cs)
in_use [] (suc n) xs = refl
in_use (c ∷ cs) (suc n) xs = ap (λ (r : List Weighing). run_of (begin_of c) (take 480 xs) ∷ r) (in_use cs n (drop 480 xs))

-- a channel by its number is the one of the list
pub weighings-at : (cs : List Channel) (xs : List Float) (n i : ℕ) → i < n → i < length cs → get_or (weighings_of cs n xs) i past_weighing ≡ weighing_of cs xs i
unfolding weighings parts weighing_of
weighings-at cs xs zero i h l = absurd (omega arith)
weighings-at [] xs (suc n) i h l = absurd (omega arith)
weighings-at (c ∷ cs) xs (suc n) zero h l = refl
weighings-at (c ∷ cs) xs (suc n) (suc i) h l =
    let e : 480 + i * 480 ≡ suc i * 480 = omega arith in
    weighings-at cs (drop 480 xs) n i (omega arith) (omega arith)
    ∙ ap (λ (r : List Float). run_of (begin_of (get_or cs i past_channel)) (take 480 r)) (drop-drop (i * 480) 480 xs ∙ ap (λ (k : ℕ). drop k xs) e)
