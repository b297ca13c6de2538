-- `Layout::weights` meets its contract. The loop's invariant: the first i places are filled.
use native.Mathlib.Omega.{arith}
use mathlib.Core.Path.{◌≡◌, refl, ap, ◌∙◌}
use mathlib.Core.List.{List, map}
use lib.Ieee.{nan}
use lib.ListN.{take, set, length-take}
use lib.Seq.{take_all}
use Rattle.sequence.specs.History.{laid, filled}
use Rattle.sequence.proofs.Filled.{laid-turn}
use Rattle.layout.specs.declared.Place.{Place}
use Rattle.layout.specs.Layout.{blank}
use Rattle.layout.specs.Weights.{weight_of, no_weights, weights_of}
use Rattle.layout.proofs.Blank.{no-weights-length}
use Rattle.layout.proofs.Layout.weights.Goals as goal

pub loop-i-init : goal.loop-i-init
unfolding no_weights
loop-i-init c = refl

pub loop-i-preserved : goal.loop-i-preserved
unfolding no_weights
loop-i-preserved c =
    let l = c.loop-i in
    let xs = take c.channels.result c.args.self.places in
    (λ k. set (l.invariant k) l.i (c.weight.ensures k))
    ∙ laid-turn weight_of xs no_weights l.i blank nan c.loop-i-test.true (omega (arith, no-weights-length, c.channels.ensures, length-take c.channels.result c.args.self.places))

pub returns : goal.returns
unfolding weights_of filled no_weights
returns c =
    let l = c.loop-i in
    let a = c.args.self in
    let xs = take c.channels.result a.places in
    let all : take l.i xs ≡ xs = take_all l.i xs c.loop-i-test.false in
    l.invariant ∙ ap (λ (ys : List Place). laid (map weight_of ys) no_weights) (all ∙ ap (λ n. take n a.places) c.channels.ensures)
