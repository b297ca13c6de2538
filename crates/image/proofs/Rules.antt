-- What settings are read as: in range and without negative zero as they are, else as the fresh ones.
use mathlib.Core.Path.{◌≡◌, sym, ap, ◌∙◌}
use mathlib.Core.Bool.{true, false}
use Rattle.codec.specs.Fields.{ruled}
use Rattle.codec.proofs.Kept.{true-T, ruled-same, ruled-other}
use Rattle.settings.specs.declared.Settings.{Settings}
use Rattle.settings.specs.Settings.{image_ranges, outside_settings, fresh_settings}
use Rattle.image.specs.Chain.{signed_settings, settings_rule}

module _ (s t : Settings) (e : s ≡ t) where
  as_read : ruled settings_rule fresh_settings s ≡ ruled settings_rule fresh_settings t
  as_read = ap (ruled settings_rule fresh_settings) e

  pub settings-outside : outside_settings image_ranges s ≡ true → fresh_settings ≡ ruled settings_rule fresh_settings t
  settings-outside h = sym (ruled-other settings_rule fresh_settings s (rw h)) ∙ as_read

  pub settings-signed : outside_settings image_ranges s ≡ false → signed_settings s ≡ true → fresh_settings ≡ ruled settings_rule fresh_settings t
  settings-signed h g = sym (ruled-other settings_rule fresh_settings s (rw (h, g))) ∙ as_read

  pub settings-good : outside_settings image_ranges s ≡ false → signed_settings s ≡ false → s ≡ ruled settings_rule fresh_settings t
  settings-good h g = sym (ruled-same settings_rule fresh_settings s (true-T {b = settings_rule s} (rw (h, g)))) ∙ as_read
