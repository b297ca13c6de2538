-- The noise floor by minimum statistics: the Rust's `FeatureDetector::floor`. An empty window has no minimum (the Rust's is infinite).
use Rattle.sequence.specs.Latest.{no_values, push_of}
use Rattle.sequence.specs.declared.Latest.{Latest}
use Rattle.std.specs.Prelude.{◌+◌, Bool, true, false, cond, ◌==◌, from_bits, nat_lt, Float, Option, Some, None, fold}
use Rattle.std.specs.Float.{binary64}
use Rattle.float.specs.Choice.{min_of}
use Rattle.sequence.specs.History.{held}
use Rattle.float.specs.Arithmetic.{zero64, toward}
use Rattle.detector.specs.declared.floor.Floor.{Floor}
use Rattle.detector.specs.declared.floor.Floored.{Floored}

abbrev pub fresh_floor : Floor
fresh_floor =
    record { smoothed = None; window_min = zero64; window_frames = 0; minima = no_values 8 zero64 }

-- 0.3
abbrev pub smoothing : Float
smoothing = from_bits binary64 0x3fd3333333333333

unfoldable pub smoothed_of : Option Float → Float → Float
smoothed_of None e = e
smoothed_of (Some s) e = toward s e smoothing

-- the least of the window's values, with s
unfoldable pub window_min_of : Floor → Float → Float
window_min_of f s = cond (f.window_frames == 0) s (min_of f.window_min s)

-- the least of m and of the minima of earlier windows
abbrev pub least_of : Float → Latest Float 8 → Float
least_of m l = fold min_of m (held l.count l.list)

-- with this frame the window of 25 is still open, or it is full: its minimum is kept, and a window begins
abbrev pub next_of : Bool → Floor → Float → Float → Floor
next_of true f s m = record { smoothed = Some s; window_min = m; window_frames = f.window_frames + 1; minima = f.minima }
next_of false f s m = record { smoothed = Some s; window_min = zero64; window_frames = 0; minima = push_of f.minima m }

unfoldable pub stored_of : Floor → Float → Float → Floor
stored_of f s m = next_of (nat_lt f.window_frames 24) f s m

-- s and m are what the frame stores beside the minima
abbrev pub floored_of : Floor → Float → Float → Floored
floored_of f s m = record { next = stored_of f s m; floor = least_of m f.minima; smoothed = s; least = m }

unfoldable pub floor_of : Floor → Float → Floored
floor_of f e = floored_of f (smoothed_of f.smoothed e) (window_min_of f (smoothed_of f.smoothed e))
