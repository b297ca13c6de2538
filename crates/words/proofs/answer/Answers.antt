-- `answer` meets its contract: three runs of words.
use Rattle.words.proofs.Whole.{whole}
use borrow.Author.Rules.{rules}
use Rattle.words.proofs.answer.Goals as goal

pub returns : goal.returns
returns c =
    whole c.args.a (search rules) c.status.ensures c.strand.ensures c.strand-2.ensures
    c.lay.ensures c.lay-2.ensures c.lay-3.ensures
