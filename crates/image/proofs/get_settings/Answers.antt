-- `image::get_settings` meets its contract: what breaks a rule is read as the fresh settings.
use mathlib.Core.Path.{sym, ◌∙◌}
use Rattle.image.specs.Chain.{settings}
use Rattle.image.proofs.Rules.{settings-outside, settings-signed, settings-good}
use Rattle.image.proofs.get_settings.Goals as goal

pub returns-then-outside_image : goal.returns-then-outside_image
unfolding settings
returns-then-outside_image c = c.new.ensures ∙ settings-outside _ _ c.get_numbers-s.ensures (sym c.outside_image.ensures ∙ c.if-outside_image.true)

pub returns-then-signed_settings : goal.returns-then-signed_settings
unfolding settings
returns-then-signed_settings c = c.new-then-signed_settings.ensures ∙ settings-signed _ _ c.get_numbers-s.ensures (sym c.outside_image.ensures ∙ c.if-outside_image.false) (sym c.signed_settings.ensures ∙ c.if-signed_settings.true)

pub returns : goal.returns
unfolding settings
returns c = settings-good _ _ c.get_numbers-s.ensures (sym c.outside_image.ensures ∙ c.if-outside_image.false) (sym c.signed_settings.ensures ∙ c.if-signed_settings.false)
