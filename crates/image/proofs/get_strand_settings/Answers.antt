-- `image::get_strand_settings` meets its contract.
use mathlib.Core.Path.{◌≡◌, ap, ◌∙◌}
use native.Mathlib.Omega.{arith}
use Prim.Native.Nat.{ℕ, ◌+◌}
use lib.ListN.{get_or}
use lib.Ieee.{binary64}
use Rattle.codec.specs.Fields.{num_of}
use Rattle.image.specs.Chain.{strand_settings}
use Rattle.image.proofs.get_strand_settings.Goals as goal

pub returns : goal.returns
unfolding strand_settings
returns c =
    let l = c.args.w.now in
    let i = c.args.at in
    let p2 : i + 2 ≡ i + 1 + 1 = omega arith in
    λ k. record {
      threshold = c.get-threshold.ensures k;
      hold_ms = c.get-hold_ms.ensures k;
      gate_lufs = record { 0 = (c.get-gate_lufs.ensures ∙ ap (λ (n : ℕ). num_of binary64 (get_or l n 0)) p2) k };
    }
