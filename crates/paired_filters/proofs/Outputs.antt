-- The outputs of a frame, where all are stored.
use Prim.Native.Nat.{ℕ, ◌≤◌}
use mathlib.Core.Path.{◌≡◌, sym, ◌∙◌}
use mathlib.Core.List.{List, ◌++◌}
use lib.ListN.{length, take, drop}
use lib.Seq.{take_all}
use lib.Ieee.{Float}
use Rattle.detector.specs.declared.filters.Bands.{Bands}
use Rattle.detector.specs.Filters.{outputs_of}
use Rattle.detector.proofs.Outputs.{outputs-end}

-- past the last sample the outputs are what is stored
pub all-stored : (s : Bands) (xs out ys : List Float) (i : ℕ) → length xs ≤ i → length out ≤ i → take i out ++ outputs_of s (drop i xs) ≡ ys → out ≡ ys
all-stored s xs out ys i h g e = sym (take_all i out g) ∙ sym (outputs-end s xs out i h) ∙ e
