-- One sample through a second-order section: the Rust's `State::tick`, each operation rounded in its order.
use Rattle.std.specs.Prelude.{Float}
use Rattle.float.specs.Arithmetic.{◌⊕◌, ◌⊖◌, ◌⊗◌, zero64}
use Rattle.biquad.specs.declared.State.{State}
use Rattle.biquad.specs.declared.Coefficients.{Coefficients}
use Rattle.biquad.specs.declared.Ticked.{Ticked}

abbrev pub at_rest : State
at_rest = record { z1 = zero64; z2 = zero64 }

-- b x - a y: what one sample and its output leave for a later output
abbrev pub tap : Float → Float → Float → Float → Float
tap b a x y = b ⊗ x ⊖ a ⊗ y

abbrev pub output_of : State → Coefficients → Float → Float
output_of s c x = c.b0 ⊗ x ⊕ s.z1

abbrev pub next_of : State → Coefficients → Float → Float → State
next_of s c x y = record { z1 = tap c.b1 c.a1 x y ⊕ s.z2; z2 = tap c.b2 c.a2 x y }

unfoldable pub tick_of : State → Coefficients → Float → Ticked
tick_of s c x = record { state = next_of s c x (output_of s c x); y = output_of s c x }
