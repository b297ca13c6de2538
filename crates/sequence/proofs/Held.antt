-- A count that is capped at the number of places holds the same.
use Rattle.std.proofs.Common.{◌≡◌, ℕ, min, List, length, take, sym, ap, ◌∙◌, lt_of_not-le, arith, take_all}
use native.Mathlib.Decide.{dec_le}
use Rattle.sequence.specs.History.{held}

module _ {A : Type 0} (count n : ℕ) (places : List A) (size : length places ≡ n) where
  pub held-capped : take (min count n) places ≡ held count places
  held-capped = elim (dec_le count n) [
    | yes h ↦ let e : min count n ≡ count = omega arith in ap (λ (k : ℕ). take k places) e
    | no h ↦
        let l = lt_of_not-le h in
        take_all (min count n) places (omega arith) ∙ sym (take_all count places (omega arith))
  ]
