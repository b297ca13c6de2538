-- What saves work where a channel is silent and its filters rest. No meaning rests on it.
use Rattle.std.specs.Prelude.{ℕ, zero, suc, ◌≡◌, List, map, length, replicate, Float}
use Rattle.float.specs.Arithmetic.{zero64}
use Rattle.level.specs.declared.Weighing.{Weighing}
use Rattle.level.specs.Weighing.{clean_of}
use Rattle.level.specs.Rest.{still_step}

-- every sample is heard as 0
abbrev pub Silent : List Float → Type 0
Silent xs = map clean_of xs ≡ replicate (length xs) zero64

-- n samples for which both sections' states stay and y2 is the square of the high-pass's output
unfoldable pub still_run : Float → ℕ → Weighing → Weighing
still_run y2 zero w = w
still_run y2 (suc n) w = still_run y2 n (still_step y2 w)
