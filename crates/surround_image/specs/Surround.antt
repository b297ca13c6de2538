-- The 88 words of a bed's channels, as codecs: how many there are, where each of eight is, and the numbers of channels 2 to 8. Definitions only.
use Rattle.std.specs.Prelude.{Bool, not, ◌&&◌, ◌||◌, List, ℕ, ◌-◌, ◌≤◌, eqb, leb}
use Rattle.codec.specs.Fields.{ruled}
use Rattle.codec.specs.Codec.{Cell, Codec}
use Rattle.codec.specs.Forms.{f64, below, one, pair, pair_by, as_a, also, rows}
use Rattle.strand_image.specs.Strand.{state}
use Rattle.layout.specs.declared.Place.{Place}
use Rattle.layout.specs.Layout.{most, size_of, blank}
use Rattle.channels.specs.declared.Channel.{Channel}
use Rattle.channels.specs.declared.Surround.{Surround}
use Rattle.channels.specs.Channels.{resting}
use Rattle.channels.specs.Surround.{other_channels}

-- ---- where a channel is

-- at most m degrees from 0, on either side
abbrev pub angle_rule : ℕ → ℕ → Bool
angle_rule m w = leb (size_of w) m

-- the word of an angle from -m to m; any other is read as 0
abbrev pub angle : ℕ → Cell ℕ
angle m = record { bits = λ w. w; read = ruled (angle_rule m) 0; Good = λ w. size_of w ≤ m; blank = 0 }

-- azimuth, elevation and whether it is an LFE, whose two angles are zero
abbrev pub place_rule : ℕ × (ℕ × ℕ) → Bool
place_rule p = eqb p.1.1 0 || eqb p.0 0 && eqb p.1.0 0

abbrev pub to_place : ℕ × (ℕ × ℕ) → Place
to_place p = record { azimuth = p.0; elevation = p.1.0; lfe = p.1.1 }

unfoldable pub place : Codec Place
place = as_a (λ p. (p.azimuth, (p.elevation, p.lfe))) to_place
    (also place_rule (0, (0, 0)) (pair (one (angle 180)) (pair (one (angle 90)) (one (below 2)))))

-- ---- a channel's numbers

unfoldable pub channel : Codec Channel
channel = as_a (λ c. (c.shelf, (c.high_pass, c.fast))) (λ p. record { shelf = p.0; high_pass = p.1.0; fast = p.1.1 })
    (pair state (pair state (one f64)))

-- ---- all of them

-- 1 to 8; any other number is read as 1
abbrev pub count_rule : ℕ → Bool
count_rule n = not (eqb n 0)

unfoldable pub count : Codec ℕ
count = also count_rule 1 (one (below 9))

-- the places of m channels, and channels 2 to m; what is unused is zero
abbrev pub parts : ℕ → Codec (List Place × List Channel)
parts m = pair (rows place blank most m) (rows channel resting other_channels (m - 1))

unfoldable pub surround : Codec Surround
surround = as_a (λ s. (s.layout.count, (s.layout.places, s.others)))
    (λ p. record { layout = record { count = p.0; places = p.1.0 }; others = p.1.1 })
    (pair_by count 87 parts)
