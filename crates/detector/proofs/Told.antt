-- What the flag of a frame says, part by part.
use Rattle.std.proofs.Common.{Bool, ◌&&◌, T, List}
use lib.Ieee.{Float}
use lib.Ieee.Fits.{and_l, and_r}
use Rattle.sequence.specs.History.{held}
use Rattle.float.specs.AllFinite.{all_finite}
use Rattle.detector.specs.declared.filters.Bands.{Bands}
use Rattle.detector.specs.declared.FeatureDetector.{FeatureDetector}
use Rattle.sequence.specs.Latest.{keep_of}
use Rattle.detector.specs.Filters.{states_of, handed_of, kept_of}
use Rattle.detector.specs.Floor.{floor_of}
use Rattle.detector.specs.Modulation.{modulation_of}
use Rattle.detector.specs.Voicing.{voicing_of}
use Rattle.detector.specs.Detector.{powers_of, numbers_of, finish_of}

module _ (d : FeatureDetector) (s : Bands) (ys : List Float) where
  abbrev pub numbers : List Float
  numbers = numbers_of (powers_of s) (floor_of d.floor (powers_of s).e) (modulation_of d.history (powers_of s).e)

  abbrev lags : Bool
  lags = (voicing_of (held (keep_of d.decimated (kept_of ys)).count (keep_of d.decimated (kept_of ys)).list)).finite

  pub record Told : Type 0 where
    pub states : T (all_finite (states_of s.filters))
    pub numbers-finite : T (all_finite numbers)
    pub kept : T (all_finite (kept_of ys))

  parts : (a b h k v : Bool) → T ((a && b) && ((h && k) && v)) → T a × (T b × T k)
  parts a b h k v t =
      let front = and_l (a && b) ((h && k) && v) t in
      let back = and_l (h && k) v (and_r (a && b) ((h && k) && v) t) in
      (and_l a b front, (and_r a b front, and_r h k back))

  pub told : T (finish_of d s ys).finite → Told
  unfolding finish_of
  told t =
      let p = parts (all_finite (states_of s.filters)) (all_finite numbers) (all_finite (handed_of ys)) (all_finite (kept_of ys)) lags t in
      record { states = p.0; numbers-finite = p.1.0; kept = p.1.1 }
