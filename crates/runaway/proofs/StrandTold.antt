-- A strand's flag against the lists: level, detector, decision and answer put together, of the key and of the bed.
use Rattle.std.specs.Prelude.{Option, Some, None, unwrap_or, option_to_list}
use mathlib.Core.Path.{◌≡◌}
use mathlib.Core.Bool.{Bool, true, false, cond, ◌&&◌}
use mathlib.Core.List.{List, [], ◌∷◌, ◌++◌}
use lib.Dec.{T}
use lib.ListN.{length}
use lib.Ieee.{Float, lt}
use lib.Ieee.Fits.{and_i, and_l, and_r}
use lib.Ieee.Scale.{finite}
use Rattle.float.specs.Arithmetic.{zero64}
use Rattle.float.specs.AllFinite.{all_finite}
use Rattle.level.specs.Level as level
use Rattle.level.specs.declared.Framed as metered
use Rattle.level.specs.declared.Reading.{Reading}
use Rattle.channels.specs.declared.Surround.{Surround}
use Rattle.channels.specs.declared.BedFramed.{BedFramed}
use Rattle.channels.specs.Surround.{bed_frame_of}
use Rattle.channels.specs.Valid.{SurroundValid}
use Rattle.detector.specs.Detector as detector
use Rattle.detector.specs.Filters.{begun, run_of}
use Rattle.detector.specs.declared.Frame.{Frame}
use Rattle.detector.specs.declared.Heard.{Heard}
use Rattle.detector.proofs.Valid as detectors
use Rattle.vad.specs.declared.VadSettings.{VadSettings}
use Rattle.vad.specs.declared.Decision.{Decision}
use Rattle.vad.specs.declared.VadState.{VadState}
use Rattle.vad.specs.declared.Strand.{Strand}
use Rattle.vad.specs.declared.Framed.{Framed}
use Rattle.vad.specs.Decision.{exponent}
use Rattle.vad.specs.State.{state_of, numbers_of}
use Rattle.vad.specs.Strand.{gated_of, next_of, finish_of, frame_of}
use Rattle.vad.specs.Valid.{Valid}
use Rattle.chain.specs.Chain.{first_channel, bed_strand_of}
use Rattle.chain.specs.Numbers.{of_level, of_detector, of_decision, of_strand, of_channels}
use Rattle.runaway.specs.Runaway.{of_state, of_loudness, key_fast, bed_fast, of_bands, of_speech, to_logarithm, to_ten, to_root, to_narrowing}
use Rattle.level.proofs.Finite.{Alls, none, ◌more◌, ◌and◌, all-finite, finite-all, parts}
use Rattle.rules.proofs.AllFinite.{zero-finite, of-detector}
use Rattle.runaway.proofs.LevelTold.{handed-told, handed-tells}
use Rattle.runaway.proofs.LevelTold as levels
use Rattle.runaway.proofs.BedTold as beds
use Rattle.runaway.proofs.DetectorTold.{detector-told, detector-tells}

-- ---- what may be absent: nothing, which counts as 0 in the flags

power-told : (p : Option Float) → T (finite (unwrap_or p zero64)) → Alls (option_to_list p) × Alls (of_speech p)
power-told None h = (none, none)
power-told (Some m) h = (h more none, above (lt zero64 m))
  where
    above : (b : Bool) → Alls (cond b (m ∷ []) [])
    above true = h more none
    above false = none

level-shown : (l : Option Float) → T (finite (unwrap_or l zero64)) → Alls (option_to_list l)
level-shown None h = none
level-shown (Some x) h = h more none

or-zero : (o : Option Float) → Alls (option_to_list o) → T (finite (unwrap_or o zero64))
or-zero None h = zero-finite
or-zero (Some x) (h more none) = h

-- ---- the decision and the answer

module _ (d : Decision) (gated : Bool) (h : Frame) (r : Reading) where
  abbrev shown : VadState
  shown = state_of d gated h r

  abbrev powered : List Float
  powered = cond shown.speech_active (exponent shown.level_dbfs ∷ []) []

  pub record Decided : Type 0 where
    pub stored : Alls (of_decision d)
    pub answered : Alls (of_state shown)
    pub logarithm : Alls (of_speech d.power)
    pub power : Alls powered

  numbers-told : Alls (numbers_of d shown) → Decided
  unfolding state_of
  numbers-told (p more w more u more l more a more b more c more f1 more f2 more f3 more f4 more none) =
      let s = power-told d.power w in
      record {
        stored = p more s.0;
        answered = (p more a more b more c more f1 more f2 more f3 more f4 more none) and level-shown _ l;
        logarithm = s.1;
        power = handed-told d.active _ u;
      }

  numbers_tell : Decided → Alls (numbers_of d shown)
  unfolding state_of
  numbers_tell t = go t.stored t.answered
    where
      go : Alls (of_decision d) → Alls (of_state shown) → Alls (numbers_of d shown)
      go (p more s) (q more a more b more c more f1 more f2 more f3 more f4 more l) =
          p more or-zero d.power s more handed-tells d.active _ t.power more or-zero _ l more a more b more c more f1 more f2 more f3 more f4 more none

-- ---- what follows level and detector: of a strand t whose detector hears the 480 samples xs, and whose level after the frame is l

-- beside the strand others are stored, in the bed's channels after the first; fast is the fast power that is handed on
pub record Lists (t : Strand) (xs : List Float) (f : Framed) (others : List Float) (fast : Float) : Type 0 where
  pub stored : Alls (of_strand f.strand)
  pub beside : Alls others
  pub answered : Alls (of_state f.state)
  pub logarithm : Alls (to_logarithm t xs f fast)
  pub power : Alls (to_ten f)
  pub root : Alls (to_root f)
  pub narrowing : Alls (to_narrowing t xs)

module _ (t : Strand) (v : Valid t) (xs : List Float) (n : length xs ≡ 480) (s : VadSettings) where
  abbrev h : Heard
  h = detector.frame_of t.detector xs

  module _ (l : metered.Framed) (others : List Float) (fast : Float) where
    abbrev f : Framed
    f = finish_of t.decision l h s

    abbrev d : Decision
    d = next_of t.decision l h s

    abbrev numbers : List Float
    numbers = numbers_of d (state_of d (gated_of l s) h.frame l.reading)

    finish-told : (T l.finite → levels.Lists l.level others fast) → T f.finite → Lists t xs f others fast
    unfolding finish_of
    finish-told levelled ok =
        let front = and_l (l.finite && h.finite) (all_finite numbers) ok in
        let hf = and_r l.finite h.finite front in
        let m = levelled (and_l l.finite h.finite front) in
        let a = numbers-told d (gated_of l s) h.frame l.reading (finite-all numbers (and_r (l.finite && h.finite) (all_finite numbers) ok)) in
        let b = detector-told t.detector xs n hf in
        record {
          stored = m.stored and of-detector h.detector (detectors.frame-valid t.detector xs v.detector hf) and a.stored;
          beside = m.others;
          answered = a.answered;
          logarithm = m.logarithm and b.powers and a.logarithm;
          power = a.power;
          root = b.roots;
          narrowing = b.narrowed;
        }

    finish-tells : (levels.Lists l.level others fast → T l.finite) → Lists t xs f others fast → T f.finite
    unfolding finish_of
    finish-tells levelled a =
        let two = parts (of_level l.level ++ of_detector h.detector) a.stored in
        let one = parts (of_level l.level) two.0 in
        let bands = of_bands (run_of (begun t.detector.filters) xs) in
        let last = parts (of_loudness l.level fast ++ bands) a.logarithm in
        let first = parts (of_loudness l.level fast) last.0 in
        and_i (l.finite && h.finite) (all_finite numbers)
        (and_i l.finite h.finite
        (levelled (record { stored = one.0; others = a.beside; logarithm = first.0 }))
        (detector-tells t.detector xs n v.detector one.1 (record { powers = first.1; roots = a.root; narrowed = a.narrowing })))
        (all-finite (numbers_tell d (gated_of l s) h.frame l.reading (record { stored = two.1; answered = a.answered; logarithm = last.1; power = a.power })))

-- ---- a frame of the key

abbrev pub KeyLists : Strand → List Float → Framed → Type 0
KeyLists t xs f = Lists t xs f [] (key_fast f.strand.level)

module _ (t : Strand) (v : Valid t) (xs : List Float) (n : length xs ≡ 480) (s : VadSettings) where
  pub key-told : T (frame_of t xs s).finite → KeyLists t xs (frame_of t xs s)
  unfolding frame_of finish_of
  key-told = finish-told t v xs n s (level.frame_of t.level xs) [] _ (levels.level-told t.level xs v.level)

  pub key-tells : KeyLists t xs (frame_of t xs s) → T (frame_of t xs s).finite
  unfolding frame_of finish_of
  key-tells = finish-tells t v xs n s (level.frame_of t.level xs) [] _ (levels.level-tells t.level xs v.level.powers.size)

-- ---- a frame of the bed, of all its channels; its detector hears the first

abbrev pub BedLists : Strand → List Float → Framed → Surround → Type 0
BedLists t bed f after = Lists t (first_channel bed) f (of_channels after.others) (bed_fast f.strand.level after)

module _ (t : Strand) (v : Valid t) (u : Surround) (vu : SurroundValid u) (bed : List Float) (n : length (first_channel bed) ≡ 480) (s : VadSettings) where
  abbrev b : BedFramed
  b = bed_frame_of t.level u bed

  pub bed-told : T (bed_strand_of t b.framed bed s).finite → BedLists t bed (bed_strand_of t b.framed bed s) b.surround
  unfolding bed_strand_of finish_of
  bed-told = finish-told t v (first_channel bed) n s b.framed _ _ (beds.bed-told t.level u bed v.level vu)

  pub bed-tells : BedLists t bed (bed_strand_of t b.framed bed s) b.surround → T (bed_strand_of t b.framed bed s).finite
  unfolding bed_strand_of finish_of
  bed-tells = finish-tells t v (first_channel bed) n s b.framed _ _ (beds.bed-tells t.level u bed v.level.powers.size)
