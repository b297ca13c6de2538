-- What saves work in silence: the test whether a sample leaves a section as it is, and the steps with the shelf left out. No meaning rests on it.
use Rattle.std.specs.Prelude.{Bool, ◌&&◌, List, Float}
use mathlib.Core.List.{foldl}
use Rattle.biquad.specs.declared.State.{State}
use Rattle.biquad.specs.declared.Coefficients.{Coefficients}
use Rattle.biquad.specs.Sections.{k_shelf, k_high_pass}
use Rattle.biquad.specs.Tick.{tick_of}
use Rattle.float.specs.Same.{same_of, all_same}
use Rattle.level.specs.declared.Weighing.{Weighing}
use Rattle.level.specs.Bs1770.{fast_coeff}
use Rattle.float.specs.Arithmetic.{◌⊕◌, ◌⊖◌, ◌⊗◌, one64}
use Rattle.level.specs.Weighing.{weighed}

-- surely the same: the same bits, and no NaN
unfoldable pub same_state : State → State → Bool
same_state s t = same_of s.z1 t.z1 && same_of s.z2 t.z2

-- a sample x surely leaves the section's state as it is
unfoldable pub holds_of : State → Coefficients → Float → Bool
holds_of s c x = same_state (tick_of s c x).state s

-- all samples are surely x, which leaves the shelf's state as it is
unfoldable pub rests_of : Weighing → Float → List Float → Bool
rests_of w x xs = all_same x xs && holds_of w.shelf k_shelf x

-- ---- the steps

-- the shelf's output for a sample x
abbrev pub shelf_output : Weighing → Float → Float
shelf_output w x = (tick_of w.shelf k_shelf x).y

-- a sample for which the shelf's output is v and its state stays
unfoldable pub held_step : Float → Weighing → Weighing
held_step v w = weighed w (record { state = w.shelf; y = v }) (tick_of w.high_pass k_high_pass v)

-- one for each sample
unfoldable pub held_run : Float → Weighing → List Float → Weighing
held_run v w xs = foldl (λ (u : Weighing) (x : Float). held_step v u) w xs

-- a sample for which both sections' states stay and y2 is the square of the high-pass's output
abbrev pub still_step : Float → Weighing → Weighing
still_step y2 w = record { shelf = w.shelf; high_pass = w.high_pass; fast = w.fast ⊗ fast_coeff ⊕ y2 ⊗ (one64 ⊖ fast_coeff); energy = w.energy ⊕ y2 }
