-- How many words a place and a channel take: the law that their implementations of `Part` give.
use Rattle.std.specs.Prelude.{◌≡◌, refl}
use Rattle.strand_image.specs.Strand.{state}
use Rattle.surround_image.specs.Surround.{place, channel}

pub place-size : place.size ≡ 3
unfolding place
place-size = refl

pub channel-size : channel.size ≡ 9
unfolding channel state
channel-size = refl
