-- What a chain keeps beside the bed strand's level, as an image can hold it: the layout is one that is accepted, as it is stored, every number is
-- finite and fits an f64, and channels that are not in use are at rest.
use Rattle.std.specs.Prelude.{◌-◌}
use Rattle.std.specs.Float.{binary64}
use Rattle.float.specs.Valid.{Num}
use Rattle.sequence.specs.Counted.{Counted}
use Rattle.level.specs.Valid.{Settled}
use Rattle.layout.specs.Valid.{LayoutValid}
use Rattle.channels.specs.declared.Channel.{Channel}
use Rattle.channels.specs.declared.Surround.{Surround}
use Rattle.channels.specs.Channels.{resting}
use Rattle.channels.specs.Surround.{other_channels}

pub record ChannelValid (c : Channel) : Type 0 where
  pub shelf : Settled c.shelf
  pub high_pass : Settled c.high_pass
  pub fast : Num binary64 c.fast

pub record SurroundValid (s : Surround) : Type 0 where
  pub layout : LayoutValid s.layout
  pub others : Counted ChannelValid resting other_channels (s.layout.count - 1) s.others
