-- The smoother: the Rust's `EnvelopeDetector::process`, each operation rounded in its order. Definitions only.
use Rattle.std.specs.Prelude.{Bool, true, ◌&&◌, cond, Float}
use Rattle.std.specs.Float.Ieee.{neg, lt}
use Rattle.std.specs.Float.Ieee.Scale as scale
use Rattle.float.specs.Arithmetic.{◌⊕◌, ◌⊖◌, ◌⊗◌, ◌⊘◌, zero64}
use Rattle.power.specs.Power.{exp_of}
use Rattle.comis.specs.declared.envelope.EnvelopeDetector.{EnvelopeDetector}
use Rattle.comis.specs.declared.envelope.Stepped.{Stepped}
use Rattle.comis.specs.declared.envelope.Coefficient.{Coefficient}

-- a target above the current value picks the attack, any other, a NaN too, the release
abbrev pub time_constant : Float → Float → Float → Float → Float
time_constant current target attack release = cond (lt current target) attack release

-- whether a step takes time; else it jumps to the target
abbrev pub gradual : Float → Float → Bool
gradual tc dt = (lt zero64 tc && scale.finite tc) && lt zero64 dt

-- what is handed to the power
abbrev pub exponent : Float → Float → Float
exponent tc dt = neg dt ⊘ tc

unfoldable pub coeff_of : Float → Float → Coefficient
coeff_of tc dt =
    cond (gradual tc dt)
    (record { value = exp_of (exponent tc dt); finite = scale.finite (exponent tc dt) })
    (record { value = zero64; finite = true })

-- the distance to the target, by the coefficient
abbrev pub toward : Float → Float → Float → Float
toward current target c = target ⊕ (current ⊖ target) ⊗ c

unfoldable pub process_of : EnvelopeDetector → Float → Float → Float → Float → Stepped
process_of self target attack release dt =
    let c = coeff_of (time_constant self.current target attack release) dt in
    record { envelope = record { current = toward self.current target c.value }; finite = c.finite }
