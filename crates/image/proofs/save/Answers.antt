-- `image::save` meets its contract: every lent byte is the image's, or none is changed.
use mathlib.Core.Path.{refl}
use Rattle.image.proofs.Calls.{save-wrong, save-right}
use Rattle.image.proofs.save.Goals as goal

pub returns-then-b-ne-BYTES : goal.returns-then-b-ne-BYTES
returns-then-b-ne-BYTES c = save-wrong _ _ c.if-b-ne-BYTES.true

pub returns : goal.returns
returns c = save-right _ _ _ _ _ c.if-b-ne-BYTES.false refl c.put_chain.ensures c.write_image.ensures
