-- `surround_image::ChannelPart::get` meets its contract.
use mathlib.Core.Path.{◌≡◌, ap, ◌∙◌}
use Prim.Native.Nat.{ℕ, ◌+◌}
use native.Mathlib.Omega.{arith}
use lib.ListN.{get_or}
use lib.Ieee.{binary64}
use Rattle.codec.specs.Fields.{num_of}
use Rattle.strand_image.specs.Strand.{state}
use Rattle.surround_image.specs.Surround.{channel}
use Rattle.surround_image.proofs.ChannelPart.get.Goals as goal

pub returns : goal.returns
unfolding channel state
returns c =
    let l = c.args.w.now in
    let i = c.args.at in
    let p : i + 8 ≡ i + 4 + 4 = omega arith in
    λ k. record {
      shelf = c.get_filter-shelf.ensures k;
      high_pass = c.get_filter-high_pass.ensures k;
      fast = (c.get-fast.ensures ∙ ap (λ (n : ℕ). num_of binary64 (get_or l n 0)) p) k;
    }
