-- `strand_image::get_strand` meets its contract.
use mathlib.Core.Path.{◌≡◌, ap, ◌∙◌}
use native.Mathlib.Omega.{arith}
use Rattle.strand_image.specs.Strand.{strand, front, state, filters, powers, floor, window, latest, history, decision}
use Prim.Native.Nat.{ℕ, ◌+◌}
use lib.ListN.{get_or}
use lib.Ieee.{binary64}
use Rattle.codec.specs.Fields.{num_of}
use Rattle.strand_image.proofs.get_strand.Goals as goal

pub overflow_add-i-6 : goal.overflow_add-i-6
overflow_add-i-6 c = omega (arith, c.ranges.at)

pub get_floor-floor-requires : goal.get_floor-floor-requires
get_floor-floor-requires c = omega (arith, c.ranges.at)

pub overflow_add-i-7 : goal.overflow_add-i-7
overflow_add-i-7 c = omega (arith, c.ranges.at)

pub get_latest-history-requires : goal.get_latest-history-requires
get_latest-history-requires c = omega (arith, c.ranges.at)

pub overflow_add-i-8 : goal.overflow_add-i-8
overflow_add-i-8 c = omega (arith, c.ranges.at)

pub get_decision-decision-requires : goal.get_decision-decision-requires
get_decision-decision-requires c = omega (arith, c.ranges.at)

pub returns : goal.returns
unfolding strand front state filters floor window latest
returns c =
    let l = c.args.w.now in
    let i = c.args.at in
    let p8 : i + 8 ≡ i + 4 + 4 = omega arith in
    let p24 : i + 24 ≡ i + 4 + 4 + 16 = omega arith in
    let p25 : i + 25 ≡ i + 4 + 4 + 16 + 1 = omega arith in
    let p567 : i + 567 ≡ i + 326 + 241 = omega arith in
    let p580 : i + 580 ≡ i + 326 + 241 + 13 = omega arith in
    let p621 : i + 621 ≡ i + 326 + 241 + 13 + 41 = omega arith in
    λ k. record {
      level = record {
        shelf = c.get_state-shelf.ensures k;
        high_pass = c.get_state-high_pass.ensures k;
        fast = (c.get-fast.ensures ∙ ap (λ (n : ℕ). num_of binary64 (get_or l n 0)) p24) k;
        powers = (c.get_latest-powers.ensures ∙ ap (powers.dec l) p25) k;
      };
      detector = record {
        filters = (c.get_filters-filters.ensures ∙ ap (filters.dec l) p8) k;
        decimated = c.get_latest-decimated.ensures k;
        floor = (c.get_floor-floor.ensures ∙ ap (floor.dec l) p567) k;
        history = (c.get_latest-history.ensures ∙ ap (history.dec l) p580) k;
      };
      decision = (c.get_decision-decision.ensures ∙ ap (decision.dec l) p621) k;
    }
