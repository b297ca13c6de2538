-- `sequence::push` meets its contract, by `store_free` where a place is free and by `store-full` where none is.
use native.Mathlib.Omega.{arith}
use mathlib.Core.Path.{◌∙◌}
use Rattle.sequence.specs.History.{count_after}
use Rattle.sequence.proofs.Places.{store_free, store-full}
use Rattle.sequence.proofs.push.Goals as goal

pub returns-then-count-n : goal.returns-then-count-n
unfolding count_after
returns-then-count-n g c =
    let a = c.args in
    (omega arith, store_free a.count a.v.now a.x (omega arith))

pub returns : goal.returns
unfolding count_after
returns g c =
    let a = c.args in
    (omega arith, c.slide.ensures ∙ store-full a.count a.v.now a.x (omega arith))
