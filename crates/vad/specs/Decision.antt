-- The decision of `Vad::frame`: gate, smoothing, threshold with hysteresis, hold, counts and speech power. Counts wrap at 2 ^ 64.
use Rattle.std.specs.Prelude.{ℕ, ◌+◌, ◌-◌, ◌%◌, ◌^◌, Bool, true, false, cond, ◌==◌, from_bits, nat_le, Float, Option, Some, None}
use Rattle.std.specs.Float.{binary64}
use Rattle.std.specs.Float.Ieee.{lt, le}
use Rattle.float.specs.Choice.{max_of}
use Rattle.power.specs.Power.{exp10_of}
use Rattle.float.specs.Arithmetic.{◌⊖◌, ◌⊘◌, zero64, toward}
use Rattle.vad.specs.declared.VadSettings.{VadSettings}
use Rattle.vad.specs.declared.Decision.{Decision}
use Rattle.vad.specs.Hold.{hold_frames}

-- nothing is heard below the gate
unfoldable pub heard_of : Bool → Float → Float
heard_of gated probability = cond gated zero64 probability

-- 0.5 where the frame's is strictly above p, else 0.2
abbrev pub pace : Float → Float → Float
pace p probability = cond (lt p probability) (from_bits binary64 0x3fe0000000000000) (from_bits binary64 0x3fc999999999999a)

unfoldable pub smoothed_of : Float → Float → Float
smoothed_of p probability = toward p probability (pace p probability)

-- max(on - 0.15, 0.05)
unfoldable pub off_of : Float → Float
off_of on = max_of (on ⊖ from_bits binary64 0x3fc3333333333333) (from_bits binary64 0x3fa999999999999a)

abbrev pub flag_of : Bool → ℕ
flag_of b = cond b 1 0

abbrev pub more : ℕ → ℕ
more n = (n + 1) % 2 ^ 64

-- speech turns on, or stays on; n frames of hold
unfoldable pub onset_of : Decision → ℕ → Decision
onset_of d n = record {
  active = true;
  probability = d.probability;
  onsets = cond d.active d.onsets (more d.onsets);
  offsets = d.offsets;
  hold = n;
  power = d.power;
}

-- the hold is over, or it isn't
abbrev pub held_of : Decision → Bool → Decision
held_of d true = record {
  active = false;
  probability = d.probability;
  onsets = d.onsets;
  offsets = more d.offsets;
  hold = d.hold;
  power = d.power;
}
held_of d false = record {
  active = d.active;
  probability = d.probability;
  onsets = d.onsets;
  offsets = d.offsets;
  hold = d.hold - 1;
  power = d.power;
}

unfoldable pub offset_of : Decision → Decision
offset_of d = held_of d (d.hold == 0)

-- on at or above, off strictly below while speech is on; between them nothing changes
unfoldable pub switch_of : Decision → Float → Float → ℕ → Decision
switch_of d on off n = cond (le on d.probability) (onset_of d n) (cond d.active (cond (lt d.probability off) (offset_of d) d) d)

-- the first power, or 0.01 of the way to it
unfoldable pub mean_of : Option Float → Float → Float
mean_of None p = p
mean_of (Some m) p = toward m p (from_bits binary64 0x3f847ae147ae147b)

abbrev pub with_power : Decision → Option Float → Decision
with_power d p = record {
  active = d.active;
  probability = d.probability;
  onsets = d.onsets;
  offsets = d.offsets;
  hold = d.hold;
  power = p;
}

-- a frame's level, dBFS, as it goes to the power
abbrev pub exponent : Float → Float
exponent level = level ⊘ from_bits binary64 0x4024000000000000

unfoldable pub voiced_of : Decision → Float → Decision
voiced_of d level = cond d.active (with_power d (Some (mean_of d.power (exp10_of (exponent level))))) d

abbrev pub with_probability : Decision → Float → Decision
with_probability d p = record {
  active = d.active;
  probability = p;
  onsets = d.onsets;
  offsets = d.offsets;
  hold = d.hold;
  power = d.power;
}

unfoldable pub decide_of : Decision → Float → Float → VadSettings → Decision
decide_of d probability level s =
    voiced_of
    (switch_of (with_probability d (smoothed_of d.probability probability)) s.threshold (off_of s.threshold) (hold_frames s.hold_ms))
    level

-- an onset, at the limit or past it
unfoldable pub full_of : Decision → Decision → Bool
full_of before after = cond before.active false (cond after.active (nat_le 4294967295 before.onsets) false)
