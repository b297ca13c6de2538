-- `Latest::push` meets its contract.
use Rattle.std.proofs.Common.{◌≡◌, length, rules}
use Rattle.sequence.specs.Latest.{push_of}
use Rattle.sequence.proofs.Latest.push.Goals as goal

pub returns : goal.returns
unfolding push_of
returns g c =
    let l : length c.args.self.list ≡ g.row.N = search rules in
    rw (c.push-count.ensures.0, c.push-count.ensures.1, l)
