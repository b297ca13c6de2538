-- Settings that are stored: in range, finite, without negative zero.
use Rattle.std.specs.Prelude.{false, ◌≡◌, Float}
use Rattle.std.specs.Float.{binary64}
use Rattle.float.specs.Valid.{Num}
use Rattle.vad.specs.declared.VadSettings.{VadSettings}
use Rattle.ratio.specs.declared.Duck.{Duck}
use Rattle.settings.specs.declared.Range.{Range}
use Rattle.settings.specs.declared.Ranges.{Ranges}
use Rattle.settings.specs.declared.Settings.{Settings}
use Rattle.settings.specs.Settings.{outside_of, zeroed_of}

pub record SettingValid (r : Range) (x : Float) : Type 0 where
  pub number : Num binary64 x
  pub inside : outside_of r x ≡ false
  pub stored : zeroed_of x ≡ x  -- no negative zero

pub record StrandSettingsValid (r : Ranges) (s : VadSettings) : Type 0 where
  pub threshold : SettingValid r.threshold s.threshold
  pub hold_ms : SettingValid r.hold_ms s.hold_ms
  pub gate_lufs : SettingValid r.gate_lufs s.gate_lufs.0

pub record DuckValid (r : Ranges) (d : Duck) : Type 0 where
  pub target_lu : SettingValid r.ratio_lu d.target_lu
  pub overvoice_lu : SettingValid r.ratio_lu d.overvoice_lu
  pub max_reduction_db : SettingValid r.max_reduction_db d.max_reduction_db.0
  pub speed : SettingValid r.speed d.speed

pub record SettingsValid (r : Ranges) (s : Settings) : Type 0 where
  pub key : StrandSettingsValid r s.key
  pub bed : StrandSettingsValid r s.bed
  pub duck : DuckValid r s.duck
