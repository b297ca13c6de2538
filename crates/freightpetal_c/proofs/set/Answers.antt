-- `set` meets its contract: what opening the bytes gave, then what was kept.
use Rattle.std.proofs.lemmas.Result.{err_from_is_err_and}
use Rattle.chain.specs.Chain.{set_of}
use Rattle.freightpetal_c.proofs.Lent.{change_ok, change_err}
use Rattle.freightpetal_c.proofs.set.Goals as goal

pub returns-in_err-opened : goal.returns-in_err-opened
returns-in_err-opened c =
    let p = err_from_is_err_and c.from_residual.result c.from_residual.ensures.1 in
    rw (p.1, p.2) (change_err _ c.open-opened.ensures (λ d. set_of d c.args.s) c.in_err-opened.was)

pub returns : goal.returns
returns c = change_ok _ c.open-opened.ensures (λ d. set_of d c.args.s) c.in_ok-opened.was c.set.ensures.0 c.keep.ensures
