-- `surround_image::ChannelPart::put` meets its contract.
use native.Mathlib.Omega.{arith}
use Rattle.codec.proofs.Runs.{then, single}
use Rattle.surround_image.specs.Surround.{channel}
use Rattle.surround_image.proofs.ChannelPart.put.Goals as goal

pub returns : goal.returns
unfolding channel
returns c =
    then c.put_filter.ensures (omega arith)
    (then c.put_filter-2.ensures (omega arith)
    (single c.put.ensures))
