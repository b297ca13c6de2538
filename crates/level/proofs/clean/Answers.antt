-- `level::clean` meets its contract: what is finite is a number, so it can be widened.
use Rattle.std.proofs.Common.{T, sym, ◌∙◌, subst}
use lib.Ieee.Scale.{finite}
use Rattle.sequence.proofs.Tests.{told}
use Rattle.level.proofs.Finite.{widens}
use Rattle.level.proofs.clean.Goals as goal

pub float_to_float-result : goal.float_to_float-result
float_to_float-result c =
    widens c.args.v (told (finite c.args.v) (sym c.finite.ensures ∙ c.if-finite.true)) (subst T (sym c.well_formed.0.1) tt)
