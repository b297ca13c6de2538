-- `strand_image::get_floor` meets its contract.
use mathlib.Core.Path.{◌≡◌, ap, ◌∙◌}
use native.Mathlib.Omega.{arith}
use Rattle.strand_image.specs.Strand.{floor, window, minima}
use Prim.Native.Nat.{◌+◌}
use Rattle.strand_image.proofs.get_floor.Goals as goal

pub returns : goal.returns
unfolding floor window
returns c =
    let l = c.args.w.now in
    let i = c.args.at in
    let p4 : i + 4 ≡ i + 2 + 2 = omega arith in
    let n = c.get_window-window.ensures in
    λ k. record {
      smoothed = c.get_option-smoothed.ensures k;
      window_min = (n k).least;
      window_frames = (n k).frames;
      minima = (c.get_latest-minima.ensures ∙ ap (minima.dec l) p4) k;
    }
