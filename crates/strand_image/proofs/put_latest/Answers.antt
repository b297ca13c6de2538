-- `strand_image::put_latest` meets its contract: a counted list.
use Rattle.codec.proofs.Runs.{listed}
use Rattle.strand_image.specs.Strand.{latest}
use borrow.Author.Rules.{rules}
use Rattle.strand_image.proofs.put_latest.Goals as goal

pub returns : goal.returns
unfolding latest
returns g c = listed g.T.Coded.cell.bits c.args.p.list _ (search rules) c.put_list.ensures
