-- A chain that an image can hold: settings, strands, loops and channels of the bed that an image can hold.
use Rattle.vad.specs.Valid as strand
use Rattle.channels.specs.Valid.{SurroundValid}
use Rattle.comis.specs.Loops.{LoopsStored}
use Rattle.settings.specs.Settings.{image_ranges}
use Rattle.settings.specs.Valid.{SettingsValid}
use Rattle.chain.specs.declared.Chain.{Chain}

pub record Valid (c : Chain) : Type 0 where
  pub settings : SettingsValid image_ranges c.settings
  pub key : strand.Valid c.key
  pub bed : strand.Valid c.bed
  pub loops : LoopsStored c.loops
  pub surround : SurroundValid c.surround
