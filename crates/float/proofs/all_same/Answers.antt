-- `all_same` meets its contract.
use Rattle.std.proofs.Common.{◌≡◌, suc, Bool, true, false, ◌&&◌, T, List, [], ◌∷◌, length, refl, ap, ◌∙◌, arith, MatchBool, rules, tests}
use lib.Ieee.{Float}
use Rattle.std.specs.List.{AllWithin, list_all}
use Rattle.std.proofs.lemmas.Iterator.{cases_from_all, YieldsList-from_slice}
use Rattle.std.proofs.lemmas.Iterator.Search.{all_from_yields_List}
use Rattle.sequence.specs.All.{all}
use Rattle.float.specs.Same.{same_of, all_same}
use Rattle.float.proofs.Sameness.{Same}
use Rattle.float.proofs.all_same.Goals as goal

same-all : (p : Float → Bool) (xs : List Float) → list_all p xs ≡ all p xs
same-all p [] = refl
same-all p (x ∷ xs) = ap (λ b. p x && b) (same-all p xs)

each : (x : Float) (ys : List Float) → AllWithin (λ y. y ≡ x) ys 0 (length ys) → Same x ys
each x [] h = refl
each x (y ∷ ys) h = λ k. h 0 y (omega arith) (omega arith) k ∷ each x ys (λ i d l m. h (suc i) d (omega arith) (omega arith)) k

told : (x : Float) (r : Bool) (ys : List Float) (No : Type 0) → MatchBool r (AllWithin (λ y. y ≡ x) ys 0 (length ys)) No → T r → Same x ys
told x true ys No h t = each x ys h
told x false ys No h t = absurd t

pub returns : goal.returns
unfolding all_same
returns c =
    let a = c.args in
    let xs = a.xs.now in (
      all_from_yields_List (λ y. same_of y a.x) _ _ _ c.all.ensures.ran (YieldsList-from_slice xs cc) (λ y b q k. search (rules, tests)) ∙ same-all (λ y. same_of y a.x) xs,
      told a.x c.all.result xs _ (cases_from_all _ _ _ (λ y. y ≡ a.x) (λ y. Unit {0}) c.all.ensures.ran (YieldsList-from_slice xs cc) (λ y q k. search (rules, tests)) (λ y q k. tt)),
    )
