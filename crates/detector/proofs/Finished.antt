-- The steps of a frame put together.
use Rattle.std.proofs.Common.{◌≡◌, Bool, ◌&&◌, List, ◌++◌, length, take, ap, ◌∙◌, append-nil, arith, length-append, length-drop, drop_of_length-le, length-take, take_all}
use lib.ListN.{length-replicate}
use lib.Ieee.{Float}
use Rattle.float.specs.Arithmetic.{zero64}
use Rattle.float.specs.AllFinite.{all_finite}
use Rattle.sequence.specs.History.{held, laid}
use Rattle.detector.specs.declared.filters.Bands.{Bands}
use Rattle.detector.specs.declared.FramePowers.{FramePowers}
use Rattle.detector.specs.declared.floor.Floored.{Floored}
use Rattle.detector.specs.declared.modulation.Modulated.{Modulated}
use Rattle.detector.specs.declared.voicing.Voicing.{Voicing}
use Rattle.detector.specs.declared.Frame.{Frame}
use Rattle.detector.specs.declared.FeatureDetector.{FeatureDetector}
use Rattle.sequence.specs.Latest.{keep_of}
use Rattle.detector.specs.Filters.{no_samples, samples_of, states_of, outputs_of, Decimated, kept_of}
use Rattle.detector.specs.Floor.{floor_of}
use Rattle.detector.specs.Modulation.{modulation_of}
use Rattle.detector.specs.Voicing.{voicing_of}
use Rattle.detector.specs.Detector.{powers_of, numbers_of, shown_of, finish_of}
use Rattle.detector.proofs.Decimation.{kept-finite}
use Rattle.detector.proofs.Outputs.{outputs-length}

module _ (d : FeatureDetector) (s : Bands) (ys : List Float) where
  pub finished : (p : FramePowers) (vs : List Float) (k : Decimated) (f : Floored) (m : Modulated) (v : Voicing) (shown : Frame) (b : Bool)
      → p ≡ powers_of s
      → vs ≡ kept_of ys
      → k ≡ keep_of d.decimated vs
      → f ≡ floor_of d.floor p.e
      → m ≡ modulation_of d.history p.e
      → v ≡ voicing_of (held k.count k.list)
      → shown ≡ shown_of p f m v
      → b ≡ (all_finite (states_of s.filters) && all_finite (numbers_of p f m)) && (all_finite vs && v.finite)
      → record { detector = record { filters = s.filters; decimated = k; floor = f.next; history = m.next }; frame = shown; finite = b } ≡ finish_of d s ys
  unfolding finish_of
  finished p vs k f m v shown b ep ev ek ef em evo es eb = rw (es, eb, evo, em, ef, ek, ev, ep, kept-finite ys)

pub no-samples-length : length no_samples ≡ 480
unfolding no_samples
no-samples-length = length-replicate 480 zero64

-- what is made of places that are fresh
pub samples_into : (xs places made : List Float) → made ≡ laid (take (length places) xs) places → places ≡ no_samples → made ≡ samples_of xs
unfolding samples_of
samples_into xs places made e f = e ∙ (λ i. laid (take ((ap length f ∙ no-samples-length) i) xs) (f i))

pub samples-length : (xs : List Float) → length (samples_of xs) ≡ 480
unfolding samples_of
samples-length xs = simp (length-append, length-drop, length-take) (omega (arith, no-samples-length))

-- 480 samples are those
pub samples-all : (xs : List Float) → length xs ≡ 480 → samples_of xs ≡ xs
unfolding samples_of
samples-all xs e =
    ap (λ (l : List Float). laid l no_samples) (take_all 480 xs (omega arith))
    ∙ ap (λ (l : List Float). xs ++ l) (drop_of_length-le no_samples {i = length xs} (omega (arith, no-samples-length)))
    ∙ append-nil xs

-- the outputs fill the places for them
pub filled : (s : Bands) (xs places : List Float) → length places ≡ 480
    → laid (outputs_of s (take (length places) (samples_of xs))) places ≡ outputs_of s (samples_of xs)
filled s xs places e =
    let all : take (length places) (samples_of xs) ≡ samples_of xs = take_all (length places) (samples_of xs) (omega (arith, samples-length xs)) in
    let l = outputs_of s (samples_of xs) in
    rw all
    (ap (λ (r : List Float). l ++ r) (drop_of_length-le places {i = length l} (omega (arith, outputs-length s (samples_of xs), samples-length xs)))
    ∙ append-nil l)
