-- `find` meets its contract: of a word of six bytes the check leaves the equation of its text.
use Rattle.std.proofs.Common.{◌≡◌, arith, rules}
use Rattle.std.proofs.lemmas.Slice.Eq.{text_from_reads}
use Rattle.program.specs.Text.{ascii}
use Rattle.beds.specs.Beds.{found_of}
use Rattle.beds.proofs.find.Goals as goal

pub returns-in-stereo : goal.returns-in-stereo
unfolding found_of
returns-in-stereo c =
    let e : c.args.word.now ≡ ascii "stereo" = text_from_reads c.args.word.now (ascii "stereo") (omega arith) (search rules) in
    rw e
