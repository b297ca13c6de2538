-- `image::get_numbers` meets its contract.
use mathlib.Core.Path.{◌≡◌, ap, ◌∙◌}
use native.Mathlib.Omega.{arith}
use Prim.Native.Nat.{◌+◌}
use Rattle.image.specs.Chain.{numbers, strand_settings, duck}
use Rattle.image.proofs.get_numbers.Goals as goal

pub returns : goal.returns
unfolding numbers strand_settings
returns c =
    let l = c.args.w.now in
    let i = c.args.at in
    let p6 : i + 6 ≡ i + 3 + 3 = omega arith in
    λ k. record {
      key = c.get_strand_settings-key.ensures k;
      bed = c.get_strand_settings-bed.ensures k;
      duck = (c.get_duck-duck.ensures ∙ ap (duck.dec l) p6) k;
    }
