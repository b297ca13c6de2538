-- Values that are all the same, as a loop from the front finds them; and that a number is what its bits stand for.
use Rattle.std.proofs.Common.{◌≡◌, ℕ, suc, ◌+◌, ◌<◌, List, ◌∷◌, length, get_or, drop, replicate, T, eqb, sym, ap, ◌∙◌, subst, add-one, drop-cons, eqb→eq}
use lib.Ieee.{Float, nan, binary64, fits, of_bits, to_bits}
use lib.Ieee.Bits.{of_bits-to_bits}

abbrev pub Same : Float → List Float → Type 0
Same x ys = ys ≡ replicate (length ys) x

-- the value at i is x
pub same_turn : (x : Float) (xs : List Float) (i : ℕ) → i < length xs → get_or xs i nan ≡ x → Same x (drop (i + 1) xs) → Same x (drop i xs)
same_turn x xs i h e s = subst (Same x) (sym (drop-cons xs i nan h)) (both (subst (λ (n : ℕ). Same x (drop n xs)) (add-one i) s))
  where
    both : Same x (drop (suc i) xs) → Same x (get_or xs i nan ∷ drop (suc i) xs)
    both t = λ k. e k ∷ t k

-- a number is what its bits stand for
pub by_bits : (a b : Float) → T (fits binary64 a) → T (fits binary64 b) → T (eqb (to_bits binary64 a) (to_bits binary64 b)) → a ≡ b
by_bits a b s t e =
    sym (of_bits-to_bits binary64 a s)
    ∙ ap (of_bits binary64) (eqb→eq (to_bits binary64 a) (to_bits binary64 b) e)
    ∙ of_bits-to_bits binary64 b t
