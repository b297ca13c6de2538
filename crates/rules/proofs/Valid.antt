-- A fresh chain is valid, and so is the chain after each call that passes.
use Prim.Native.Nat.{ℕ, ◌*◌}
use native.Mathlib.Omega.{arith}
use mathlib.Core.Path.{◌≡◌, refl}
use mathlib.Core.Bool.{Bool, true, false, cond, ◌||◌}
use mathlib.Core.List.{List}
use lib.Dec.{T, eqb}
use lib.ListN.{length}
use lib.Ieee.{Float, lt, eq, neg, fits, is_nan, of_bits}
use Rattle.level.specs.Bs1770.{frame_length}
use Rattle.level.proofs.Valid as levels
use Rattle.layout.specs.declared.Layout.{Layout}
use Rattle.layout.specs.Layout.{layout_within}
use Rattle.channels.proofs.Promised.{bed-laws}
use Rattle.detector.specs.Detector as detector
use Rattle.detector.proofs.Valid as detectors
use Rattle.vad.specs.declared.VadSettings.{VadSettings}
use Rattle.vad.specs.Valid.{HoldWithin}
use Rattle.vad.proofs.Valid as strand
use Rattle.comis.specs.declared.loop_bank.Loops.{Loops}
use Rattle.comis.specs.LoopBank.{zero_loops}
use Rattle.comis.specs.Loops.{LoopsFit, LoopsStored}
use Rattle.ratio.specs.declared.Duck.{Duck}
use Rattle.ratio.proofs.Stored.{frame_stored}
use Rattle.settings.specs.declared.Ranges.{Ranges}
use Rattle.settings.specs.declared.Settings.{Settings}
use Rattle.chain.specs.declared.Chain.{Chain}
use Rattle.settings.specs.Settings.{call_ranges, image_ranges, outside_of, outside_strand, outside_duck, outside_settings, zeroed_of, stored_strand, stored_duck, stored_of, fresh_strand, fresh_duck}
use Rattle.chain.specs.Chain.{fresh_of, bed_level_of, first_channel, bed_strand_of, work_of, kept_of, bed_length, with_settings, key_anew, bed_anew, laid_out}
use Rattle.chain.specs.Valid.{Valid}
use Rattle.settings.specs.Valid.{StrandSettingsValid, DuckValid, SettingsValid}
use Rattle.rules.specs.Rules.{HeldStrand, HeldDuck, Asked, Event, frame, settings, reset, layout, refuses, next}
use Rattle.settings.proofs.Zero.{at_most, stored_valid}
use Rattle.rules.proofs.Accepted.{Accepted, accepted, settings-accepted, layout-accepted}
use Rattle.sequence.proofs.Tests.{neither}

-- ---- settings

module _ (r : Ranges) where
  strand-stored : (s : VadSettings) → HeldStrand s → outside_strand r s ≡ false → StrandSettingsValid r (stored_strand s)
  unfolding outside_strand stored_strand
  strand-stored s h o =
      let two = neither (outside_of r.threshold s.threshold || outside_of r.hold_ms s.hold_ms) (outside_of r.gate_lufs s.gate_lufs.0) o in
      let one = neither (outside_of r.threshold s.threshold) (outside_of r.hold_ms s.hold_ms) two.0 in
      record {
        threshold = stored_valid r.threshold s.threshold h.0 one.0;
        hold_ms = stored_valid r.hold_ms s.hold_ms h.1 one.1;
        gate_lufs = stored_valid r.gate_lufs s.gate_lufs.0 h.2 two.1;
      }

  duck-stored : (d : Duck) → HeldDuck d → outside_duck r d ≡ false → DuckValid r (stored_duck d)
  unfolding outside_duck stored_duck
  duck-stored d h o =
      let target = outside_of r.ratio_lu d.target_lu in
      let overvoice = outside_of r.ratio_lu d.overvoice_lu in
      let most = outside_of r.max_reduction_db d.max_reduction_db.0 in
      let three = neither ((target || overvoice) || most) (outside_of r.speed d.speed) o in
      let two = neither (target || overvoice) most three.0 in
      let one = neither target overvoice two.0 in
      record {
        target_lu = stored_valid r.ratio_lu d.target_lu h.0 one.0;
        overvoice_lu = stored_valid r.ratio_lu d.overvoice_lu h.1 one.1;
        max_reduction_db = stored_valid r.max_reduction_db d.max_reduction_db.0 h.2 two.1;
        speed = stored_valid r.speed d.speed h.3 three.1;
      }

  pub settings-stored : (a : Asked) → outside_settings r a.values ≡ false → SettingsValid r (stored_of a.values)
  unfolding outside_settings stored_of
  settings-stored a o =
      let s = a.values in
      let two = neither (outside_strand r s.key || outside_strand r s.bed) (outside_duck r s.duck) o in
      let one = neither (outside_strand r s.key) (outside_strand r s.bed) two.0 in
      record {
        key = strand-stored s.key a.key one.0;
        bed = strand-stored s.bed a.bed one.1;
        duck = duck-stored s.duck a.duck two.1;
      }

-- what a settings call stores may stand in an image
pub call-image : (s : Settings) → SettingsValid call_ranges s → SettingsValid image_ranges s
call-image s v = v

-- ---- fresh

fresh-strand-settings : StrandSettingsValid image_ranges fresh_strand
unfolding outside_of zeroed_of lt eq neg fits of_bits
fresh-strand-settings = record {
  threshold = record { number = (tt, tt); inside = refl; stored = refl };
  hold_ms = record { number = (tt, tt); inside = refl; stored = refl };
  gate_lufs = record { number = (tt, tt); inside = refl; stored = refl };
}

fresh-duck-settings : DuckValid image_ranges fresh_duck
unfolding outside_of zeroed_of lt eq neg fits of_bits
fresh-duck-settings = record {
  target_lu = record { number = (tt, tt); inside = refl; stored = refl };
  overvoice_lu = record { number = (tt, tt); inside = refl; stored = refl };
  max_reduction_db = record { number = (tt, tt); inside = refl; stored = refl };
  speed = record { number = (tt, tt); inside = refl; stored = refl };
}

zero-loops : LoopsStored zero_loops
unfolding fits of_bits
zero-loops = record { slow = (tt, tt); mid = (tt, tt); fast = (tt, tt); hold = (tt, tt) }

pub fresh_valid : Valid fresh_of
fresh_valid = record {
  settings = record { key = fresh-strand-settings; bed = fresh-strand-settings; duck = fresh-duck-settings };
  key = strand.fresh_valid;
  bed = strand.fresh_valid;
  loops = zero-loops;
  surround = bed-laws.surround_fresh;
}

-- ---- a frame

hold-within : (s : VadSettings) → StrandSettingsValid image_ranges s → HoldWithin s
hold-within s v = at_most image_ranges.hold_ms s.hold_ms (unfold of_bits is_nan in tt) v.hold_ms.inside

loops-fit : (l : Loops) → LoopsStored l → LoopsFit l
loops-fit l v = record { slow = v.slow.1; mid = v.mid.1; fast = v.fast.1; hold = v.hold.1 }

module _ (c : Chain) (v : Valid c) where
  -- as many samples as the layout says
  pub bed_samples : (bed : List Float) → length bed ≡ bed_length c → length bed ≡ c.surround.layout.count * frame_length
  bed_samples bed n = let few = v.surround.layout.places.within in omega (arith, n, few)

  pub frame-valid : (key bed : List Float) → Accepted c key bed → Valid (kept_of c (work_of c key bed))
  unfolding work_of bed_strand_of
  frame-valid key bed a =
      let b = bed_level_of c bed in
      let h = detector.frame_of c.bed.detector (first_channel bed) in
      let hold = hold-within c.settings.bed v.settings.bed in
      let next = bed-laws.surround_next c.bed.level c.surround bed v.bed.level v.surround (bed_samples bed a.whole.bed_length)
      (strand.level-finite c.bed.decision v.bed.decision b.framed h c.settings.bed hold a.bed_finite a.bed_room) in
      record {
        settings = v.settings;
        key = strand.frame-valid c.key v.key key c.settings.key (hold-within c.settings.key v.settings.key) a.key_finite a.key_room;
        bed = strand.finish-valid c.bed.decision v.bed.decision b.framed h c.settings.bed hold a.bed_finite a.bed_room next.0
            (detectors.frame-valid c.bed.detector (first_channel bed) v.bed.detector);
        loops = frame_stored c.loops c.settings.duck _ (loops-fit c.loops v.loops) a.duck_finite;
        surround = next.1;
      }

  -- ---- a settings call, a reset and a layout call

  pub set-valid : (a : Asked) → outside_settings call_ranges a.values ≡ false → Valid (with_settings c (stored_of a.values))
  set-valid a o =
      record { settings = call-image (stored_of a.values) (settings-stored call_ranges a o); key = v.key; bed = v.bed; loops = v.loops; surround = v.surround }

  pub reset-valid : (n : ℕ) → Valid (next c (reset n))
  reset-valid n = go (eqb n 0)
    where
      go : (b : Bool) → Valid (cond b (key_anew c) (bed_anew c))
      go true = record { settings = v.settings; key = strand.reset-valid c.key v.key; bed = v.bed; loops = v.loops; surround = v.surround }
      go false = record {
        settings = v.settings;
        key = v.key;
        bed = strand.reset-valid c.bed v.bed;
        loops = v.loops;
        surround = bed-laws.surround_rest c.surround v.surround;
      }

  pub layout-valid : (l : Layout) → T (layout_within l) → Valid (laid_out c l)
  layout-valid l w = record {
    settings = v.settings;
    key = v.key;
    bed = record { level = levels.fresh_valid; detector = v.bed.detector; decision = v.bed.decision };
    loops = v.loops;
    surround = bed-laws.surround_laid l w;
  }

  pub next_valid : (e : Event) → refuses c e ≡ 0 → Valid (next c e)
  next_valid (frame key bed) z = frame-valid key bed (accepted c key bed z)
  next_valid (settings a) z = set-valid a (settings-accepted a.values z)
  next_valid (reset n) z = reset-valid n
  next_valid (layout l) z = layout-valid l (layout-accepted l z)
