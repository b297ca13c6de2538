-- What it is for the port's record to stand for the Rust's detector: the port has the latest 240 of the Rust's decimated values, of which there are
-- at most 300; the Rust's phase is 0; and its minimum of an empty window is infinite, where the port's isn't looked at.
use Rattle.std.specs.Prelude.{◌≡◌, ◌≤◌, false, cond, length, ◌==◌}
use Rattle.std.specs.Float.{inf}
use Rattle.sequence.specs.History.{latest, held}
use Rattle.detector.specs.declared.floor.Floor.{Floor}
use Rattle.detector.specs.declared.FeatureDetector.{FeatureDetector}
use Rattle.detector.specs.Rust.{RustFloor, RustDetector}

pub record FloorAgrees (f : Floor) (r : RustFloor) : Type 0 where
  pub smoothed : r.smoothed ≡ f.smoothed
  pub window_min : r.window_min ≡ cond (f.window_frames == 0) (inf false) f.window_min
  pub window_frames : r.window_frames ≡ f.window_frames
  pub within : f.window_frames ≤ 24
  pub minima : r.minima ≡ held f.minima.count f.minima.list
  pub places : length f.minima.list ≡ 8

pub record Agrees (d : FeatureDetector) (r : RustDetector) : Type 0 where
  pub filters : r.filters ≡ d.filters
  pub phase : r.phase ≡ 0
  pub decimated : latest 240 r.decimated ≡ held d.decimated.count d.decimated.list
  pub few : length r.decimated ≤ 300
  pub places : length d.decimated.list ≡ 240
  pub floor : FloorAgrees d.floor r.floor
  pub history : r.history ≡ held d.history.count d.history.list
  pub values : length d.history.list ≡ 40
