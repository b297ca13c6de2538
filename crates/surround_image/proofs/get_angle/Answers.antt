-- `surround_image::get_angle` meets its contract.
use Rattle.surround_image.proofs.Rules.{angle_in, angle-out}
use Rattle.surround_image.proofs.get_angle.Goals as goal

pub returns-then-size-most : goal.returns-then-size-most
returns-then-size-most c = angle_in _ _ _ _ c.get-a.ensures c.size.ensures c.if-size-most.true

pub returns-else-size-most : goal.returns-else-size-most
returns-else-size-most c = angle-out _ _ _ _ c.get-a.ensures c.size.ensures c.if-size-most.false
