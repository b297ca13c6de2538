-- `Layout::within` meets its contract: what `iter().all` answers for the first count places.
use Prim.Native.Nat.{ℕ, ◌≤◌, min}
use native.Mathlib.Omega.{arith}
use mathlib.Core.Bool.{Bool, true, false, ◌&&◌}
use mathlib.Core.Path.{◌≡◌, sym, ◌∙◌}
use mathlib.Core.List.{List}
use lib.Dec.{leb}
use lib.ListN.{take}
use borrow.Author.Rules.{rules}
use borrow.Author.Tests.{le-leb}
use Rattle.std.proofs.lemmas.Iterator.{cases_from_all, YieldsList-from_slice}
use Rattle.sequence.specs.All.{all}
use Rattle.sequence.proofs.All.{all-told}
use Rattle.layout.specs.declared.Place.{Place}
use Rattle.layout.specs.Layout.{within_of, layout_within}
use Rattle.layout.proofs.Layout.within.Goals as goal

-- a count from 1 to 8
counted : (n : ℕ) (cs : List Place) (b : Bool) → (1 ≤ n) × (n ≤ 8) → b ≡ all within_of (take n cs) → b ≡ leb 1 n && leb n 8 && all within_of (take (min n 8) cs)
counted n cs b (h, k) e =
    let m : min n 8 ≡ n = omega arith in
    rw (le-leb 1 n h, le-leb n 8 k, m) e

-- any other
uncounted : (a t : Bool) → a ≡ false → false ≡ a && t
uncounted a t e = rw e

pub returns-then-contains : goal.returns-then-contains
unfolding layout_within
returns-then-contains c =
    let a = c.args.self in
    let xs = take a.count a.places in
    counted a.count a.places c.all.result (search rules)
    (all-told within_of xs c.all.result
    (cases_from_all _ _ _ (λ p. within_of p ≡ true) (λ p. within_of p ≡ false) c.all.ensures.ran (YieldsList-from_slice xs cc) (λ x q k. search rules) (λ x q k. search rules)))

pub returns-else-contains : goal.returns-else-contains
unfolding layout_within
returns-else-contains c =
    let n = c.args.self.count in
    let tested : c.contains.result ≡ leb 1 n && leb n 8 = search rules in
    c.if-contains.false ∙ uncounted (leb 1 n && leb n 8) _ (sym tested ∙ c.if-contains.false)
