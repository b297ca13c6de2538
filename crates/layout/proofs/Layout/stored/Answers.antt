-- `Layout::stored` meets its contract. The loop's invariant: the first i places are filled.
use native.Mathlib.Omega.{arith}
use mathlib.Core.Path.{◌≡◌, refl, ap, ◌∙◌}
use mathlib.Core.List.{List, map}
use lib.ListN.{take, set, length-take}
use lib.Seq.{take_all}
use Rattle.sequence.specs.History.{laid, filled}
use Rattle.sequence.proofs.Filled.{laid-turn}
use Rattle.layout.specs.declared.Place.{Place}
use Rattle.layout.specs.Layout.{placed_of, stored_of, blank, blanks}
use Rattle.layout.proofs.Blank.{blanks-length}
use Rattle.layout.proofs.Layout.stored.Goals as goal

pub loop-i-init : goal.loop-i-init
unfolding blanks
loop-i-init c = refl

pub loop-i-preserved : goal.loop-i-preserved
unfolding blanks
loop-i-preserved c =
    let l = c.loop-i in
    let xs = take c.channels.result c.args.self.places in
    (λ k. set (l.invariant k) l.i (c.placed.ensures k))
    ∙ laid-turn placed_of xs blanks l.i blank blank c.loop-i-test.true (omega (arith, blanks-length, c.channels.ensures, length-take c.channels.result c.args.self.places))

pub returns : goal.returns
unfolding stored_of filled blanks
returns c =
    let l = c.loop-i in
    let a = c.args.self in
    let xs = take c.channels.result a.places in
    let all : take l.i xs ≡ xs = take_all l.i xs c.loop-i-test.false in
    λ k. record {
      count = a.count;
      places = (l.invariant ∙ ap (λ (ys : List Place). laid (map placed_of ys) blanks) (all ∙ ap (λ n. take n a.places) c.channels.ensures)) k;
    }
