-- `arguments::asked` meets its contract: of a word of six bytes the check leaves the equation of its text.
use Rattle.std.proofs.Common.{◌≡◌, arith, rules}
use Rattle.std.proofs.lemmas.Slice.Eq.{text_from_reads}
use borrow.Author.Tests.{le-ltb}
use Rattle.program.specs.Text.{ascii}
use Rattle.program.specs.Arguments.{request_of}
use Rattle.program.proofs.arguments.asked.Goals as goal

pub returns-in-45-2 : goal.returns-in-45-2
unfolding request_of
returns-in-45-2 c =
    let w = c.args.first.now in
    let e : w ≡ ascii "--help" = text_from_reads w (ascii "--help") (omega arith) (search rules) in
    rw e (simp (le-ltb _ _ c.if-count-lt2.false))
