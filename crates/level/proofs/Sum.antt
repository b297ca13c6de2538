-- The laws of the sum newest first: that the sum over 40 frames begins that over 300, and how many frames there are.
use Rattle.std.proofs.Common.{◌≡◌, ℕ, ◌+◌, ◌-◌, ◌<◌, ◌≤◌, min, List, ◌++◌, length, get_or, take, refl, sym, ap, ◌∙◌, arith}
use mathlib.Core.List.{foldl, foldl-append}
use lib.Seq.{take_all}
use lib.Ieee.{Float, nan}
use Rattle.sequence.specs.History.{newest, count_after}
use Rattle.sequence.specs.Latest.{push_of}
use Rattle.sequence.proofs.Newest.{newest-length, newest-turn, newest-add}
use Rattle.float.specs.Arithmetic.{◌⊕◌, ◌⊘◌, zero64, whole}
use Rattle.level.specs.Bs1770.{mean}
use Rattle.level.specs.Level.{Powers, sum_of}

-- newest first: of the first c values, down to the oldest that counts, the last is added, and then those before it
pub sum-turn : (sum : Float) (v : List Float) (oldest c : ℕ) → oldest < c → c ≤ length v
    → sum_of (sum ⊕ get_or v (c - 1) nan) (c - 1 - oldest) (take (c - 1) v) ≡ sum_of sum (c - oldest) (take c v)
unfolding sum_of
sum-turn sum v oldest c p h =
    let k : c - 1 - oldest ≡ c - oldest - 1 = omega arith in
    ap (λ (m : ℕ). sum_of (sum ⊕ get_or v (c - 1) nan) m (take (c - 1) v)) k
    ∙ sym (ap (foldl ◌⊕◌ sum) (newest-turn nan v c (c - oldest) (omega arith) h (omega arith)))

-- m values, then k more of those before them
pub sum-add : (sum : Float) (xs : List Float) (m k : ℕ) → sum_of (sum_of sum m xs) k (take (length xs - m) xs) ≡ sum_of sum (m + k) xs
unfolding sum_of
sum-add sum xs m k =
    let all = take_all (length xs) xs (omega arith) in
    sym (foldl-append ◌⊕◌ sum (newest m xs) (newest k (take (length xs - m) xs)))
    ∙ ap (λ (l : List Float). foldl ◌⊕◌ sum (newest m l ++ newest k (take (length xs - m) xs))) (sym all)
    ∙ ap (foldl ◌⊕◌ sum) (sym (newest-add nan xs (length xs) m k (omega arith)))
    ∙ ap (λ (l : List Float). foldl ◌⊕◌ sum (newest (m + k) l)) all

-- as the code forms the means of the newest 40 and 300 of at most 300 values
module _ (xs : List Float) where
  -- the divisor is the number of frames
  over : (n k : ℕ) → k ≡ min (length xs) n → sum_of zero64 n xs ⊘ whole k ≡ mean (newest n xs)
  unfolding sum_of mean
  over n k e = ap (λ (j : ℕ). foldl ◌⊕◌ zero64 (newest n xs) ⊘ whole j) (omega (arith, newest-length n xs))

  pub momentary-mean : sum_of zero64 40 xs ⊘ whole (min (length xs) 40) ≡ mean (newest 40 xs)
  momentary-mean = over 40 (min (length xs) 40) refl

  pub short_term-mean : length xs ≤ 300 → sum_of (sum_of zero64 40 xs) 260 (take (length xs - min (length xs) 40) xs) ⊘ whole (length xs) ≡ mean (newest 300 xs)
  short_term-mean h =
      let e : length xs - min (length xs) 40 ≡ length xs - 40 = omega arith in
      ap (λ (j : ℕ). sum_of (sum_of zero64 40 xs) 260 (take j xs) ⊘ whole (length xs)) e
      ∙ ap (λ (s : Float). s ⊘ whole (length xs)) (sum-add zero64 xs 40 260)
      ∙ over 300 (length xs) (omega arith)

-- where a mean is formed there is a frame: the one just added
pub some_frame : (p : Powers) (x : Float) → 0 < (push_of p x).count
unfolding push_of count_after
some_frame p x = omega arith
