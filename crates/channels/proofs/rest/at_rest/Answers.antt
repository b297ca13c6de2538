-- `at_rest` meets its contract.
use Rattle.channels.proofs.Resting.{rest-run}
use Rattle.channels.proofs.rest.at_rest.Goals as goal

pub returns-then-silent : goal.returns-then-silent
returns-then-silent c =
    let a = c.args in
    let w = c.begin-w in
    let v = c.shelf_output-v in
    let p = c.holds in
    let q = c.holds-then-holds in
    let s = c.silent in
    let b = c.tick-b in
    rest-run a.c a.xs.now w.result v.result b.result c.still.result p.result q.result s.result
    w.ensures v.ensures b.ensures c.still.ensures c.if-holds.true p.ensures.1 c.if-holds-2.true q.ensures.1 c.if-silent.true s.ensures
