-- The tests that save work in silence: whether the samples of a frame are all the same and leave the filters as they are. No meaning rests on them.
use Rattle.std.specs.Prelude.{◌≡◌, ◌<◌, Bool, ◌&&◌, List, length, replicate, Float}
use Rattle.float.specs.Same.{same_of, all_same}
use Rattle.level.specs.Rest.{same_state}
use Rattle.detector.specs.declared.filters.Filters.{Filters}
use Rattle.detector.specs.declared.filters.Bands.{Bands}
use Rattle.detector.specs.Filters.{step_of, run_of, outputs_of}

unfoldable pub same_filters : Filters → Filters → Bool
same_filters f g =
    same_state f.high_pass g.high_pass
    && same_state f.low_pass g.low_pass
    && same_state f.pitch1 g.pitch1
    && same_state f.pitch2 g.pitch2

unfoldable pub same_bands : Bands → Bands → Bool
same_bands s t =
    same_filters s.filters t.filters && same_of s.full t.full && same_of s.band t.band && same_of s.pitch t.pitch

-- a sample v surely leaves all as it is
unfoldable pub still_of : Bands → Float → Bool
still_of s v = same_bands (step_of s v) s

-- all samples are v, which changes nothing after the first
unfoldable pub quiet_of : Bands → Float → List Float → Bool
quiet_of s v xs = all_same v xs && still_of (step_of s v) v

-- what follows: one step is the run over xs, and its output is the output for each of them
pub record Quiet (s : Bands) (v : Float) (xs : List Float) : Type 0 where
  pub runs : 0 < length xs → run_of s xs ≡ step_of s v
  pub outputs : outputs_of s xs ≡ replicate (length xs) (step_of s v).pitch
