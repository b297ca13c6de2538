-- A detector that an image can hold: every number is finite and fits its format, at most 240, 8 and 40 values are held, the places after them
-- are 0, and a window has 0 to 24 frames; the minimum of an empty one is 0.
use Rattle.std.specs.Prelude.{◌≡◌, ◌≤◌, from_bits, IfSome}
use Rattle.std.specs.Float.{binary32, binary64}
use Rattle.float.specs.Valid.{Num}
use Rattle.sequence.specs.Counted.{Counted}
use Rattle.float.specs.Arithmetic.{zero64}
use Rattle.level.specs.Valid.{Settled}
use Rattle.detector.specs.declared.filters.Filters.{Filters}
use Rattle.detector.specs.declared.floor.Floor.{Floor}
use Rattle.detector.specs.declared.FeatureDetector.{FeatureDetector}

pub record FiltersValid (f : Filters) : Type 0 where
  pub high_pass : Settled f.high_pass
  pub low_pass : Settled f.low_pass
  pub pitch1 : Settled f.pitch1
  pub pitch2 : Settled f.pitch2

pub record FloorValid (f : Floor) : Type 0 where
  pub smoothed : IfSome f.smoothed (Num binary64)
  pub window_min : Num binary64 f.window_min
  pub empty : f.window_frames ≡ 0 → f.window_min ≡ zero64
  pub window_frames : f.window_frames ≤ 24
  pub minima : Counted (Num binary64) zero64 8 f.minima.count f.minima.list

pub record Valid (d : FeatureDetector) : Type 0 where
  pub filters : FiltersValid d.filters
  pub decimated : Counted (Num binary32) (from_bits binary32 0) 240 d.decimated.count d.decimated.list
  pub floor : FloorValid d.floor
  pub history : Counted (Num binary64) zero64 40 d.history.count d.history.list
