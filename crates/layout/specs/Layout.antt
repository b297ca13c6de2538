-- A bed's layout: which words are accepted, and how an accepted layout is stored. Each field is a 64-bit word, a negative angle in two's complement.
use Rattle.std.specs.Prelude.{ℕ, ◌-◌, ◌^◌, min, max, Bool, cond, ◌&&◌, List, map, leb, ltb, eqb, take, replicate}
use Rattle.sequence.specs.All.{all}
use Rattle.sequence.specs.History.{filled}
use Rattle.layout.specs.declared.Place.{Place}
use Rattle.layout.specs.declared.Layout.{Layout}

-- the most channels of a bed
abbrev pub most : ℕ
most = 8

-- the channels that a frame has of a bed of n: one of a bed without any, and eight of a larger one; every layout that is accepted has 1 to 8
abbrev pub channel_count : ℕ → ℕ
channel_count n = max (min n most) 1

-- how many degrees an angle is from 0, on either side; a number that is no word counts as it is. `specs/Laws.antt` says so of whole numbers with
-- a sign
unfoldable pub size_of : ℕ → ℕ
size_of a = cond (ltb a (2 ^ 63)) a (cond (ltb a (2 ^ 64)) (2 ^ 64 - a) a)

-- ---- what is accepted

-- azimuths run from -180 to 180, elevations from -90 to 90, an LFE's too; the flag is 0 or 1
unfoldable pub within_of : Place → Bool
within_of p = leb (size_of p.azimuth) 180 && leb (size_of p.elevation) 90 && leb p.lfe 1

-- the places in use
abbrev pub used : Layout → List Place
used l = take (min l.count most) l.places

-- 1 to 8 channels, each within the ranges
unfoldable pub layout_within : Layout → Bool
layout_within l = leb 1 l.count && leb l.count most && all within_of (used l)

-- ---- what is stored

abbrev pub blank : Place
blank = record { azimuth = 0; elevation = 0; lfe = 0 }

unfoldable pub blanks : List Place
blanks = replicate most blank

-- an LFE's two angles are 0
unfoldable pub placed_of : Place → Place
placed_of p = cond (eqb p.lfe 0) p (record { azimuth = 0; elevation = 0; lfe = p.lfe })

-- and what is unused is 0
unfoldable pub stored_of : Layout → Layout
stored_of l = record { count = l.count; places = filled blank most (map placed_of (used l)) }

-- a fresh chain's: one channel at 0, 0
abbrev pub mono_of : Layout
mono_of = record { count = 1; places = blanks }
