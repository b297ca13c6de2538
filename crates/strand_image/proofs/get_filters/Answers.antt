-- `strand_image::get_filters` meets its contract.
use mathlib.Core.Path.{◌≡◌, ap, ◌∙◌}
use native.Mathlib.Omega.{arith}
use Rattle.strand_image.specs.Strand.{state, filters}
use Prim.Native.Nat.{◌+◌}
use Rattle.strand_image.proofs.get_filters.Goals as goal

pub returns : goal.returns
unfolding filters state
returns c =
    let l = c.args.w.now in
    let i = c.args.at in
    let p8 : i + 8 ≡ i + 4 + 4 = omega arith in
    let p12 : i + 12 ≡ i + 4 + 4 + 4 = omega arith in
    λ k. record {
      high_pass = c.get_state-high_pass.ensures k;
      low_pass = c.get_state-low_pass.ensures k;
      pitch1 = (c.get_state-pitch1.ensures ∙ ap (state.dec l) p8) k;
      pitch2 = (c.get_state-pitch2.ensures ∙ ap (state.dec l) p12) k;
    }
