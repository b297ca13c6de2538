-- `strand_image::get_decision` meets its contract.
use Rattle.codec.specs.Forms.{f64, maybe}
use mathlib.Core.Path.{◌≡◌, ap, ◌∙◌}
use native.Mathlib.Omega.{arith}
use Rattle.strand_image.specs.Strand.{decision, counts}
use Prim.Native.Nat.{◌+◌}
use lib.Dec.{lit<}
use lib.ListN.{get_or}
use Rattle.codec.proofs.Kept.{capped-lt}
use Rattle.strand_image.proofs.get_decision.Goals as goal

pub overflow_cast-hold : goal.overflow_cast-hold
overflow_cast-hold c =
    omega (arith, c.get_capped-hold.ensures, capped-lt 6001 (get_or c.args.w.now (c.args.at + 4) 0) (lit< tt))

pub returns : goal.returns
unfolding decision counts
returns c =
    let l = c.args.w.now in
    let i = c.args.at in
    let p5 : i + 5 ≡ i + 4 + 1 = omega arith in
    let n = c.get_counts-counts.ensures in
    λ k. record {
      active = (n k).active;
      probability = (n k).probability;
      onsets = (n k).onsets;
      offsets = (n k).offsets;
      hold = c.get_capped-hold.ensures k;
      power = (c.get_option-power.ensures ∙ ap ((maybe f64).dec l) p5) k;
    }
