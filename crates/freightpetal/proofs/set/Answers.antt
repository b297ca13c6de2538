-- `set` meets its contract: by what the crate below promises, and the port's step is that. Each float of the settings fits binary64, since an f64 held it.
use Rattle.sequence.proofs.Tests.{told}
use Rattle.freightpetal.proofs.Calls.{on-set}
use Rattle.freightpetal.proofs.set.Goals as goal

pub returns : goal.returns
returns c =
    let fields = c.well_formed.1.0.1.1 in
    let key = fields.0.1.1 in
    let bed = fields.1.0.1.1 in
    let duck = fields.1.1.0.1.1 in
    on-set _ _ _ c.set.ensures
    (told _ key.0.1, told _ key.1.0.1, told _ key.1.1.0.1.1.0.1)
    (told _ bed.0.1, told _ bed.1.0.1, told _ bed.1.1.0.1.1.0.1)
    (told _ duck.1.0.1, told _ duck.1.1.0.1, told _ duck.1.1.1.0.1.1.0.1, told _ duck.1.1.1.1.0.1)
