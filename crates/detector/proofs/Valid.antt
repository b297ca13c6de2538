-- A fresh detector is valid, and a frame whose numbers are all finite leaves a valid detector.
use Rattle.sequence.specs.Latest.{blanks, keep_of, push_of}
use Rattle.std.proofs.Common.{◌≡◌, ℕ, zero, suc, ◌<◌, Bool, true, false, T, eqb, ltb, List, [], ◌∷◌, length, get_or, refl, arith, ltb-true, Option, Some, None}
use mathlib.Core.List.{foldl}
use lib.Ieee.{Float, nan, binary32, binary64, fits, lt, of_bits}
use lib.Ieee.Fits.{add-fits, sub-fits, mul-fits, cond-fits}
use lib.Ieee.Scale.{finite}
use Rattle.biquad.specs.Tick.{tick_of}
use Rattle.float.specs.Choice.{min_of, max_of}
use Rattle.float.specs.Valid.{Num}
use Rattle.sequence.proofs.Counted.{counted_none, counted-more}
use Rattle.float.specs.Arithmetic.{◌⊗◌, zero64, ten64}
use Rattle.logarithm.specs.Logarithm.{log10_of}
use Rattle.level.proofs.Finite.{all-at}
use Rattle.detector.specs.declared.filters.Filters.{Filters}
use Rattle.detector.specs.declared.filters.Bands.{Bands}
use Rattle.detector.specs.declared.floor.Floor.{Floor}
use Rattle.detector.specs.declared.floor.Floored.{Floored}
use Rattle.detector.specs.declared.FeatureDetector.{FeatureDetector}
use Rattle.detector.specs.Steps.{silence_db, db_of}
use Rattle.detector.specs.Filters.{begun, states_of, step_of, run_of, outputs_of, samples_of, kept_of}
use Rattle.detector.specs.Floor.{smoothed_of, window_min_of, next_of, stored_of, floor_of}
use Rattle.detector.specs.Modulation.{modulation_of}
use Rattle.detector.specs.Detector.{fresh_of, powers_of, finish_of, frame_of}
use Rattle.detector.specs.Valid.{FiltersValid, FloorValid, Valid}
use Rattle.detector.proofs.Told.{numbers, told}
use Rattle.detector.proofs.Decimation.{kept-length, kept-fits}

-- ---- what is computed fits its format

abbrev Fit64 : Float → Type 0
Fit64 x = T (fits binary64 x)

-- whatever the numbers before
pub record Fit (f : Filters) : Type 0 where
  pub h1 : Fit64 f.high_pass.z1
  pub h2 : Fit64 f.high_pass.z2
  pub l1 : Fit64 f.low_pass.z1
  pub l2 : Fit64 f.low_pass.z2
  pub p1 : Fit64 f.pitch1.z1
  pub p2 : Fit64 f.pitch1.z2
  pub q1 : Fit64 f.pitch2.z1
  pub q2 : Fit64 f.pitch2.z2

step_fits : (s : Bands) (x : Float) → Fit (step_of s x).filters
unfolding step_of tick_of
step_fits s x = record {
  h1 = add-fits binary64 _ _;
  h2 = sub-fits binary64 _ _;
  l1 = add-fits binary64 _ _;
  l2 = sub-fits binary64 _ _;
  p1 = add-fits binary64 _ _;
  p2 = sub-fits binary64 _ _;
  q1 = add-fits binary64 _ _;
  q2 = sub-fits binary64 _ _;
}

fold-fits : (s : Bands) (xs : List Float) → Fit s.filters → Fit (foldl step_of s xs).filters
fold-fits s [] h = h
fold-fits s (x ∷ xs) h = fold-fits (step_of s x) xs (step_fits s x)

run_fits : (f : Filters) (xs : List Float) → FiltersValid f → Fit (run_of (begun f) xs).filters
unfolding run_of
run_fits f xs v =
    fold-fits (begun f) xs
    (record {
      h1 = v.high_pass.z1.1;
      h2 = v.high_pass.z2.1;
      l1 = v.low_pass.z1.1;
      l2 = v.low_pass.z2.1;
      p1 = v.pitch1.z1.1;
      p2 = v.pitch1.z2.1;
      q1 = v.pitch2.z1.1;
      q2 = v.pitch2.z2.1;
    })

silence-fits : Fit64 silence_db
unfolding of_bits fits
silence-fits = tt

db-fits : (p : Float) → Fit64 (db_of p)
unfolding db_of max_of
db-fits p =
    let x = ten64 ⊗ log10_of p in
    cond-fits binary64 (lt zero64 p) (max_of x silence_db) silence_db (cond-fits binary64 (lt x silence_db) silence_db x silence-fits (mul-fits binary64 _ _)) silence-fits

smoothed-fits : (o : Option Float) (e : Float) → Fit64 e → Fit64 (smoothed_of o e)
unfolding smoothed_of
smoothed-fits None e h = h
smoothed-fits (Some s) e h = add-fits binary64 _ _

least_fits : (f : Floor) (s : Float) → Fit64 f.window_min → Fit64 s → Fit64 (window_min_of f s)
unfolding window_min_of min_of
least_fits f s h k =
    let m = f.window_min in
    cond-fits binary64 (eqb f.window_frames 0) s (min_of m s) k (cond-fits binary64 (lt s m) s m k h)

-- ---- fresh

zero-num : Num binary64 zero64
unfolding of_bits fits
zero-num = (tt, tt)

pub fresh_valid : Valid fresh_of
unfolding blanks
fresh_valid = record {
  filters = record {
    high_pass = record { z1 = zero-num; z2 = zero-num };
    low_pass = record { z1 = zero-num; z2 = zero-num };
    pitch1 = record { z1 = zero-num; z2 = zero-num };
    pitch2 = record { z1 = zero-num; z2 = zero-num };
  };
  decimated = counted_none (Num binary32) (of_bits binary32 0) 240;
  floor = record {
    smoothed = tt;
    window_min = zero-num;
    empty = λ h. refl;
    window_frames = omega arith;
    minima = counted_none (Num binary64) zero64 8;
  };
  history = counted_none (Num binary64) zero64 40;
}

-- ---- a frame

one : (x : Float) → Num binary64 x → (k : ℕ) → k < 1 → Num binary64 (get_or (x ∷ []) k zero64)
one x h zero l = h
one x h (suc k) l = absurd (omega arith)

module _ (f : Floor) (v : FloorValid f) (s m : Float) (hs : Num binary64 s) (hm : Num binary64 m) where
  stored_valid : FloorValid (stored_of f s m)
  unfolding stored_of
  stored_valid = go (ltb f.window_frames 24) refl
    where
      go : (b : Bool) → ltb f.window_frames 24 ≡ b → FloorValid (next_of b f s m)
      go true h =
          let l = ltb-true f.window_frames 24 h in
          record { smoothed = hs; window_min = hm; empty = λ e. absurd (omega (arith, e)); window_frames = omega (arith, l); minima = v.minima }
      go false h = record {
        smoothed = hs;
        window_min = zero-num;
        empty = λ e. refl;
        window_frames = omega arith;
        minima = unfold push_of in counted-more (Num binary64) zero64 8 f.minima.count f.minima.list (m ∷ []) v.minima (one m hm);
      }

module _ (d : FeatureDetector) (s : Bands) (ys : List Float) (v : Valid d) (fit : Fit s.filters) (ok : T (finish_of d s ys).finite) where
  abbrev e : Float
  e = (powers_of s).e

  abbrev f : Floored
  f = floor_of d.floor e

  states : (k : ℕ) → k < 8 → T (finite (get_or (states_of s.filters) k nan))
  states k h = all-at (states_of s.filters) k (told d s ys ok).states h

  number : (k : ℕ) → k < 6 → T (finite (get_or (numbers d s ys) k nan))
  number k h = all-at (numbers d s ys) k (told d s ys ok).numbers-finite h

  e-fits : Fit64 e
  unfolding powers_of
  e-fits = db-fits _

  kept-good : (k : ℕ) → k < length (kept_of ys) → Num binary32 (get_or (kept_of ys) k (of_bits binary32 0))
  kept-good k h = rw (default (kept_of ys) k (of_bits binary32 0) nan h) (all-at (kept_of ys) k (told d s ys ok).kept h, kept-fits ys k (omega (arith, kept-length ys)))
    where
      default : (l : List Float) (k : ℕ) (a b : Float) → k < length l → get_or l k a ≡ get_or l k b
      default [] k a b h = absurd (omega arith)
      default (x ∷ l) zero a b h = refl
      default (x ∷ l) (suc k) a b h = default l k a b (omega arith)

  floor-valid : FloorValid f.next
  unfolding floor_of
  floor-valid =
      stored_valid d.floor v.floor f.smoothed f.least (number 0 (omega arith), smoothed-fits d.floor.smoothed e e-fits)
      (number 1 (omega arith), least_fits d.floor f.smoothed v.floor.window_min.1 (smoothed-fits d.floor.smoothed e e-fits))

  pub finish-valid : Valid (finish_of d s ys).detector
  unfolding finish_of keep_of modulation_of push_of
  finish-valid = record {
    filters = record {
      high_pass = record { z1 = (states 0 (omega arith), fit.h1); z2 = (states 1 (omega arith), fit.h2) };
      low_pass = record { z1 = (states 2 (omega arith), fit.l1); z2 = (states 3 (omega arith), fit.l2) };
      pitch1 = record { z1 = (states 4 (omega arith), fit.p1); z2 = (states 5 (omega arith), fit.p2) };
      pitch2 = record { z1 = (states 6 (omega arith), fit.q1); z2 = (states 7 (omega arith), fit.q2) };
    };
    decimated = counted-more (Num binary32) (of_bits binary32 0) 240 d.decimated.count d.decimated.list (kept_of ys) v.decimated kept-good;
    floor = floor-valid;
    history = counted-more (Num binary64) zero64 40 d.history.count d.history.list (e ∷ []) v.history (one e (number 2 (omega arith), e-fits));
  }

pub frame-valid : (d : FeatureDetector) (xs : List Float) → Valid d → T (frame_of d xs).finite → Valid (frame_of d xs).detector
unfolding frame_of
frame-valid d xs v ok =
    finish-valid d (run_of (begun d.filters) (samples_of xs)) (outputs_of (begun d.filters) (samples_of xs)) v (run_fits d.filters (samples_of xs) v.filters) ok
