-- `heard` meets its contract.
use mathlib.Core.Path.{sym, subst}
use lib.Dec.{T}
use Rattle.level.proofs.Finite.{widens, clean-one}
use Rattle.channels.proofs.fours.heard.Goals as goal

pub float_to_float-result : goal.float_to_float-result
float_to_float-result c = widens c.args.v c.requires (subst T (sym c.well_formed.0.1) tt)

pub returns : goal.returns
returns c = sym (clean-one c.args.v c.requires)
