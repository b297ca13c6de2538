-- `strand_image::get_latest` meets its contract.
use mathlib.Core.Path.{ap, ◌∙◌}
use Prim.Native.Nat.{ℕ}
use lib.ListN.{length-replicate}
use Rattle.codec.specs.Forms.{counted}
use Rattle.strand_image.specs.Strand.{latest}
use Rattle.strand_image.proofs.get_latest.Goals as goal

pub returns : goal.returns
unfolding latest
returns g c =
    let e = c.get_list-count.ensures ∙ ap (λ (n : ℕ). (counted g.T.Coded.cell n).dec c.args.w.now c.args.at) (length-replicate g.row.N _) in
    λ k. record { count = (e k).0; list = (e k).1 }
