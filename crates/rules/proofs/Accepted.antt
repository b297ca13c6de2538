-- What a call that passes was tested for.
use mathlib.Core.Path.{◌≡◌}
use mathlib.Core.Bool.{false, not, ◌&&◌}
use mathlib.Core.List.{List, [], ◌∷◌}
use lib.Dec.{T, eqb}
use lib.ListN.{length}
use lib.Ieee.{Float}
use borrow.Author.Tests.{eqb-true, not-false}
use Rattle.refusal.specs.declared.Refusal.TheVariants.{ShortFrame, BadSample, BadSetting, Runaway, CounterFull, BadLayout}
use Rattle.refusal.specs.Table.{◌means◌}
use Rattle.demands.proofs.Table.{first_passes}
use Rattle.level.specs.Bs1770.{frame_length}
use Rattle.float.specs.AllFinite.{all_finite}
use Rattle.layout.specs.declared.Layout.{Layout}
use Rattle.layout.specs.Layout.{layout_within}
use Rattle.settings.specs.declared.Settings.{Settings}
use Rattle.chain.specs.declared.Chain.{Chain}
use Rattle.settings.specs.Settings.{call_ranges, outside_settings}
use Rattle.sequence.proofs.Tests.{neither, both, told}
use Rattle.chain.specs.Chain.{work_of, finite_in, full_in, channel_count, bed_length}
use Rattle.chain.specs.StrandFrames.{Whole}
use Rattle.rules.specs.Rules.{short_frame, bad_sample, frame_number, settings_number, layout_number}

-- ---- a frame

pub record Accepted (c : Chain) (key bed : List Float) : Type 0 where
  pub whole : Whole (channel_count c) key bed
  pub key_finite : T (work_of c key bed).key.finite
  pub bed_finite : T (work_of c key bed).bed.finite
  pub duck_finite : T (work_of c key bed).duck.finite
  pub key_room : (work_of c key bed).key.full ≡ false
  pub bed_room : (work_of c key bed).bed.full ≡ false

pub accepted : (c : Chain) (key bed : List Float) → frame_number c key bed ≡ 0 → Accepted c key bed
unfolding frame_number
accepted c key bed z =
    let w = work_of c key bed in
    let last = full_in w means CounterFull ∷ [] in
    let third = not (finite_in w) means Runaway ∷ last in
    let second = bad_sample key bed means BadSample ∷ third in
    let one = first_passes (short_frame c key bed) ShortFrame second z in
    let two = first_passes (bad_sample key bed) BadSample third one.1 in
    let four = first_passes (not (finite_in w)) Runaway last two.1 in
    let five = first_passes (full_in w) CounterFull [] four.1 in
    let whole = neither (not (eqb (length key) frame_length)) (not (eqb (length bed) (bed_length c))) one.0 in
    let samples = neither (not (all_finite key)) (not (all_finite bed)) two.0 in
    let strands = both (w.key.finite && w.bed.finite) w.duck.finite (not-false (finite_in w) four.0) in
    let each = both w.key.finite w.bed.finite strands.0 in
    let room = neither w.key.full w.bed.full five.0 in
    record {
      whole = record {
        key_length = eqb-true (length key) frame_length (not-false (eqb (length key) frame_length) whole.0);
        bed_length = eqb-true (length bed) (bed_length c) (not-false (eqb (length bed) (bed_length c)) whole.1);
        key_samples = told (all_finite key) (not-false (all_finite key) samples.0);
        bed_samples = told (all_finite bed) (not-false (all_finite bed) samples.1);
      };
      key_finite = told w.key.finite each.0;
      bed_finite = told w.bed.finite each.1;
      duck_finite = told w.duck.finite strands.1;
      key_room = room.0;
      bed_room = room.1;
    }

-- ---- a settings call

pub settings-accepted : (s : Settings) → settings_number s ≡ 0 → outside_settings call_ranges s ≡ false
unfolding settings_number
settings-accepted s z = (first_passes (outside_settings call_ranges s) BadSetting [] z).0

-- ---- a layout call

pub layout-accepted : (l : Layout) → layout_number l ≡ 0 → T (layout_within l)
unfolding layout_number
layout-accepted l z = told (layout_within l) (not-false (layout_within l) (first_passes (not (layout_within l)) BadLayout [] z).0)
