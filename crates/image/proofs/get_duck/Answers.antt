-- `image::get_duck` meets its contract.
use mathlib.Core.Path.{◌≡◌, ap, ◌∙◌}
use native.Mathlib.Omega.{arith}
use Prim.Native.Nat.{ℕ, ◌+◌}
use lib.ListN.{get_or}
use lib.Ieee.{binary64}
use Rattle.codec.specs.Fields.{num_of}
use Rattle.comis.specs.LoopBank.{db}
use lib.Dec.{eqb}
use Rattle.image.specs.Chain.{duck}
use Rattle.image.proofs.get_duck.Goals as goal

pub returns : goal.returns
unfolding duck
returns c =
    let l = c.args.w.now in
    let i = c.args.at in
    let p2 : i + 2 ≡ i + 1 + 1 = omega arith in
    let p3 : i + 3 ≡ i + 1 + 1 + 1 = omega arith in
    let p4 : i + 4 ≡ i + 1 + 1 + 1 + 1 = omega arith in
    let p5 : i + 5 ≡ i + 1 + 1 + 1 + 1 + 1 = omega arith in
    λ k. record {
      enabled = c.get-enabled.ensures k;
      target_lu = c.get-target_lu.ensures k;
      overvoice_lu = (c.get-overvoice_lu.ensures ∙ ap (λ (n : ℕ). num_of binary64 (get_or l n 0)) p2) k;
      max_reduction_db = db ((c.get-max_reduction_db.ensures ∙ ap (λ (n : ℕ). num_of binary64 (get_or l n 0)) p3) k);
      speed = (c.get-speed.ensures ∙ ap (λ (n : ℕ). num_of binary64 (get_or l n 0)) p4) k;
      bed_voice = (c.get-bed_voice.ensures ∙ ap (λ (n : ℕ). eqb (get_or l n 0) 1) p5) k;
    }
