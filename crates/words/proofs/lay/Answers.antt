-- `lay` meets its contract: the part that the words are copied to is laid over with them.
use Prim.Native.Nat.{◌+◌, ◌-◌}
use native.Mathlib.Omega.{arith}
use mathlib.Core.Path.{ap, ◌∙◌}
use lib.ListN.{length}
use borrow.Rule.Slice.PartMut.{put_mid}
use Rattle.blocks.proofs.Lists.{laid-part}
use Rattle.words.proofs.lay.Goals as goal

pub returns : goal.returns
returns c =
    let a = c.args in
    let n = length a.words.now in
    record { is = ap (put_mid a.at (a.at + n - a.at) a.to.now) c.copy_from_slice.ensures.after ∙ laid-part a.to.now a.words.now a.at (a.at + n - a.at) (omega arith) (omega arith) }
