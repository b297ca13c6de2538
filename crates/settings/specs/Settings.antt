-- Settings: their ranges, and what is stored of them.
use Rattle.std.specs.Prelude.{Bool, true, cond, ◌||◌, Float}
use Rattle.std.specs.Float.{binary64}
use Rattle.std.specs.Float.Ieee.{lt, eq, neg, of_bits}
use Rattle.std.specs.Float.Ieee.Scale.{finite}
use Rattle.float.specs.Arithmetic.{zero64}
use Rattle.float.specs.Silence.{silence_lufs}
use Rattle.vad.specs.declared.VadSettings.{VadSettings}
use Rattle.ratio.specs.declared.Duck.{Duck}
use Rattle.settings.specs.declared.Range.{Range}
use Rattle.settings.specs.declared.Ranges.{Ranges}
use Rattle.settings.specs.declared.Settings.{Settings}

-- ---- ranges, both ends allowed

abbrev pub from : Float → Float → Range
from low high = record { low = low; high = high }

-- threshold 0 to 1, hold_ms 0 to 60,000, gate_lufs -100 to 0, target_lu and overvoice_lu 0 to 40, max_reduction_db 0 to 60, and the speed's
abbrev pub ranges_with : Range → Ranges
ranges_with speed = record {
  threshold = from zero64 (of_bits binary64 0x3ff0000000000000);
  hold_ms = from zero64 (of_bits binary64 0x40ed4c0000000000);
  gate_lufs = from silence_lufs zero64;
  ratio_lu = from zero64 (of_bits binary64 0x4044000000000000);
  max_reduction_db = from zero64 (of_bits binary64 0x404e000000000000);
  speed = speed;
}

-- 0.01 to 100
abbrev pub speeds : Range
speeds = from (of_bits binary64 0x3f847ae147ae147b) (of_bits binary64 0x4059000000000000)

-- of a settings call, and of an image
abbrev pub call_ranges : Ranges
call_ranges = ranges_with speeds

abbrev pub image_ranges : Ranges
image_ranges = ranges_with speeds

-- ---- refusal 3: outside, or not finite

unfoldable pub outside_of : Range → Float → Bool
outside_of r x = cond (finite x) (lt x r.low || lt r.high x) true

unfoldable pub outside_strand : Ranges → VadSettings → Bool
outside_strand r s =
    (outside_of r.threshold s.threshold || outside_of r.hold_ms s.hold_ms) || outside_of r.gate_lufs s.gate_lufs.0

unfoldable pub outside_duck : Ranges → Duck → Bool
outside_duck r d =
    ((outside_of r.ratio_lu d.target_lu || outside_of r.ratio_lu d.overvoice_lu)
    || outside_of r.max_reduction_db d.max_reduction_db.0) || outside_of r.speed d.speed

unfoldable pub outside_settings : Ranges → Settings → Bool
outside_settings r s = (outside_strand r s.key || outside_strand r s.bed) || outside_duck r s.duck

-- ---- negative zero is stored as zero

unfoldable pub zeroed_of : Float → Float
zeroed_of x = cond (eq x zero64) zero64 x

unfoldable pub stored_strand : VadSettings → VadSettings
stored_strand s = record {
  threshold = zeroed_of s.threshold;
  hold_ms = zeroed_of s.hold_ms;
  gate_lufs = record { 0 = zeroed_of s.gate_lufs.0 };
}

unfoldable pub stored_duck : Duck → Duck
stored_duck d = record {
  enabled = d.enabled;
  target_lu = zeroed_of d.target_lu;
  overvoice_lu = zeroed_of d.overvoice_lu;
  max_reduction_db = record { 0 = zeroed_of d.max_reduction_db.0 };
  speed = zeroed_of d.speed;
  bed_voice = d.bed_voice;
}

unfoldable pub stored_of : Settings → Settings
stored_of s = record { key = stored_strand s.key; bed = stored_strand s.bed; duck = stored_duck s.duck }

-- ---- of a fresh chain

-- threshold 0.5, hold 300 ms, gate -50 LUFS
abbrev pub fresh_strand : VadSettings
fresh_strand = record {
  threshold = of_bits binary64 0x3fe0000000000000;
  hold_ms = of_bits binary64 0x4072c00000000000;
  gate_lufs = record { 0 = neg (of_bits binary64 0x4049000000000000) };
}

-- enabled, target 5, overvoice 13, at most 24 dB, speed 1, bed_voice on
abbrev pub fresh_duck : Duck
fresh_duck = record {
  enabled = true;
  target_lu = of_bits binary64 0x4014000000000000;
  overvoice_lu = of_bits binary64 0x402a000000000000;
  max_reduction_db = record { 0 = of_bits binary64 0x4038000000000000 };
  speed = of_bits binary64 0x3ff0000000000000;
  bed_voice = true;
}

abbrev pub fresh_settings : Settings
fresh_settings = record { key = fresh_strand; bed = fresh_strand; duck = fresh_duck }
