-- One channel from sample to sample: K-weighting, the energy of the frame, and the fast mean square.
use Rattle.std.specs.Prelude.{cond, List, map, Float}
use mathlib.Core.List.{foldl}
use Rattle.std.specs.Float.Ieee.Scale.{finite}
use Rattle.biquad.specs.declared.Ticked.{Ticked}
use Rattle.biquad.specs.Sections.{k_shelf, k_high_pass}
use Rattle.biquad.specs.Tick.{tick_of}
use Rattle.level.specs.declared.Weighing.{Weighing}
use Rattle.level.specs.Bs1770.{fast_coeff}
use Rattle.float.specs.Arithmetic.{◌⊕◌, ◌⊖◌, ◌⊗◌, zero64, one64}

-- a sample as it is heard: 0 in place of one that isn't finite
abbrev pub clean_of : Float → Float
clean_of v = cond (finite v) v zero64

-- after the two sections' outputs
abbrev pub weighed : Weighing → Ticked → Ticked → Weighing
weighed w a b = record {
  shelf = a.state;
  high_pass = b.state;
  fast = w.fast ⊗ fast_coeff ⊕ b.y ⊗ b.y ⊗ (one64 ⊖ fast_coeff);
  energy = w.energy ⊕ b.y ⊗ b.y;
}

unfoldable pub step_of : Weighing → Float → Weighing
step_of w x =
    let a = tick_of w.shelf k_shelf x in
    let b = tick_of w.high_pass k_high_pass a.y in
    weighed w a b

-- all samples of a frame
unfoldable pub run_of : Weighing → List Float → Weighing
run_of w xs = foldl step_of w (map clean_of xs)
