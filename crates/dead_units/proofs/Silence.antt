-- A strand at rest stays at rest while its samples are 0: frames that begin with silence, without running through it.
use Prim.Native.Nat.{ℕ, zero, suc}
use mathlib.Core.Path.{◌≡◌, refl, ap, ◌∙◌}
use mathlib.Core.List.{List, ◌∷◌, ◌++◌, map, foldl}
use lib.ListN.{length, replicate}
use lib.Ieee.{Float, size, round, add, sum, sub, mul, of_bits}
use Rattle.biquad.specs.Tick.{tick_of}
use Rattle.float.specs.Arithmetic.{zero64}
use Rattle.level.specs.declared.Framed as metered
use Rattle.level.specs.declared.Weighing.{Weighing}
use Rattle.level.specs.Weighing as weighing
use Rattle.level.specs.Level as level
use Rattle.detector.specs.declared.filters.Bands.{Bands}
use Rattle.detector.specs.declared.Heard.{Heard}
use Rattle.detector.specs.Filters as filters
use Rattle.detector.specs.Detector as detector
use Rattle.detector.proofs.Finished.{samples-all}
use Rattle.vad.specs.declared.VadSettings.{VadSettings}
use Rattle.vad.specs.declared.Strand.{Strand}
use Rattle.vad.specs.declared.Framed.{Framed}
use Rattle.vad.specs.Strand as strand

-- ---- a fold over values that change nothing

fold-still : {A B : Type 0} (step : A → B → A) (s : A) (z : B) → step s z ≡ s → (n : ℕ) (xs : List B)
    → foldl step s (replicate n z ++ xs) ≡ foldl step s xs
fold-still step s z e zero xs = refl
fold-still step s z e (suc n) xs = ap (λ t. foldl step t (replicate n z ++ xs)) e ∙ fold-still step s z e n xs

map-still : {A B : Type 0} (g : A → B) (z : A) (n : ℕ) (xs : List A) → map g (replicate n z ++ xs) ≡ replicate n (g z) ++ map g xs
map-still g z zero xs = refl
map-still g z (suc n) xs = ap (λ l. g z ∷ l) (map-still g z n xs)

-- ---- level and detector

abbrev pub rest : Weighing
rest = level.start_of level.fresh_of

level-still : weighing.step_of rest zero64 ≡ rest
unfolding weighing.step_of level.start_of tick_of add sum sub mul round size of_bits
level-still = refl

clean-still : weighing.step_of rest (weighing.clean_of zero64) ≡ rest
unfolding of_bits
clean-still = level-still

abbrev pub bands : Bands
bands = filters.begun filters.all_at_rest

detector-still : filters.step_of bands zero64 ≡ bands
unfolding filters.step_of tick_of add sum sub mul round size of_bits
detector-still = refl

outputs-still : (s : Bands) → filters.step_of s zero64 ≡ s → (n : ℕ) (xs : List Float)
    → filters.outputs_of s (replicate n zero64 ++ xs) ≡ replicate n s.pitch ++ filters.outputs_of s xs
unfolding filters.outputs_of
outputs-still s e zero xs = refl
outputs-still s e (suc n) xs =
    ap (λ (t : Bands). t.pitch ∷ filters.outputs_of t (replicate n zero64 ++ xs)) e
    ∙ ap (λ (l : List Float). s.pitch ∷ l) (outputs-still s e n xs)

-- ---- a strand at rest, over a frame of n zeros and then xs: it hears xs alone

pub record Rests (t : Strand) : Type 0 where
  pub level : level.start_of t.level ≡ rest
  pub filters : t.detector.filters ≡ filters.all_at_rest

abbrev pub late_frame : ℕ → List Float → List Float
late_frame n xs = replicate n zero64 ++ xs

abbrev metered_late : Strand → List Float → metered.Framed
metered_late t xs = level.finish_of (weighing.run_of rest xs) t.level.powers 480

abbrev heard_late : Strand → ℕ → List Float → Heard
heard_late t n xs = detector.finish_of t.detector (filters.run_of bands xs) (replicate n zero64 ++ filters.outputs_of bands xs)

unfoldable pub late_of : Strand → ℕ → List Float → VadSettings → Framed
late_of t n xs s = strand.finish_of t.decision (metered_late t xs) (heard_late t n xs) s

module _ (t : Strand) (r : Rests t) (n : ℕ) (xs : List Float) (whole : length (late_frame n xs) ≡ 480) where
  level_late : level.frame_of t.level (late_frame n xs) ≡ metered_late t xs
  unfolding level.frame_of weighing.run_of
  level_late =
      rw (r.level, whole, map-still weighing.clean_of zero64 n xs)
      (ap (λ (w : Weighing). level.finish_of w t.level.powers 480) (fold-still weighing.step_of rest (weighing.clean_of zero64) clean-still n (map weighing.clean_of xs)))

  detector_late : detector.frame_of t.detector (late_frame n xs) ≡ heard_late t n xs
  unfolding detector.frame_of filters.run_of
  detector_late =
      (λ i. detector.finish_of t.detector (filters.run_of (filters.begun (r.filters i)) (samples-all (late_frame n xs) whole i)) (filters.outputs_of (filters.begun (r.filters i)) (samples-all (late_frame n xs) whole i)))
      ∙ (λ i. detector.finish_of t.detector (fold-still filters.step_of bands zero64 detector-still n xs i) (outputs-still bands detector-still n xs i))

  pub strand_late : (s : VadSettings) → strand.frame_of t (late_frame n xs) s ≡ late_of t n xs s
  unfolding strand.frame_of late_of
  strand_late s = λ i. strand.finish_of t.decision (level_late i) (detector_late i) s
