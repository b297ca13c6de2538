-- The standard deviation of the band power over the last 400 ms: the Rust's `FeatureDetector::modulation`.
use Rattle.sequence.specs.Latest.{push_of}
use Rattle.sequence.specs.declared.Latest.{Latest}
use Rattle.std.specs.Prelude.{List, length, Float, fold}
use Rattle.root.specs.Root.{sqrt_of}
use Rattle.sequence.specs.History.{held}
use Rattle.float.specs.Arithmetic.{◌⊕◌, ◌⊖◌, ◌⊗◌, ◌⊘◌, zero64, whole}
use Rattle.detector.specs.declared.modulation.Modulated.{Modulated}

unfoldable pub total_of : List Float → Float
total_of xs = fold ◌⊕◌ zero64 xs

abbrev pub deviation : Float → Float → Float → Float
deviation mean s x = s ⊕ (x ⊖ mean) ⊗ (x ⊖ mean)

unfoldable pub deviations_of : Float → List Float → Float
deviations_of mean xs = fold (deviation mean) zero64 xs

unfoldable pub mean_of : List Float → Float
mean_of xs = total_of xs ⊘ whole (length xs)

unfoldable pub variance_of : List Float → Float
variance_of xs = deviations_of (mean_of xs) xs ⊘ whole (length xs)

abbrev pub modulated_of : Latest Float 40 → Modulated
modulated_of h =
    record { next = h; variance = variance_of (held h.count h.list); modulation = sqrt_of (variance_of (held h.count h.list)) }

unfoldable pub modulation_of : Latest Float 40 → Float → Modulated
modulation_of h e = modulated_of (push_of h e)
