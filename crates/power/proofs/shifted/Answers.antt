-- `power::shifted` meets its contract.
use Rattle.power.proofs.Floors.{none_left}
use Rattle.power.proofs.shifted.Goals as goal

pub returns-else-s-lt53 : goal.returns-else-s-lt53
returns-else-s-lt53 c = none_left c.args.sig c.args.s c.requires c.if-s-lt53.false
