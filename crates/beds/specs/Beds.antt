-- The beds that have a name: their channels' places, in ffmpeg's order of the layout. Definitions only.
use Rattle.std.specs.Prelude.{ℕ, ◌-◌, ◌^◌, cond, List, [], ◌∷◌, length, Option, Some, None, bytes_eq}
use Prim.Native.String.{String}
use Rattle.sequence.specs.History.{filled}
use Rattle.program.specs.Text.{ascii}
use Rattle.layout.specs.declared.Place.{Place}
use Rattle.layout.specs.declared.Layout.{Layout}
use Rattle.layout.specs.Layout.{most, blank}
use Rattle.beds.specs.declared.Bed.{Bed}
use Rattle.beds.specs.declared.Bed.TheVariants.{Mono, Stereo, FiveOne, SevenOne}

-- ---- places

abbrev pub centre : Place
centre = record { azimuth = 0; elevation = 0; lfe = 0 }

-- so many degrees to the left, and to the right, whose azimuths are below 0
abbrev pub left : ℕ → Place
left n = record { azimuth = n; elevation = 0; lfe = 0 }

abbrev pub right : ℕ → Place
right n = record { azimuth = 2 ^ 64 - n; elevation = 0; lfe = 0 }

abbrev pub low_frequency : Place
low_frequency = record { azimuth = 0; elevation = 0; lfe = 1 }

-- ---- beds

abbrev pub places_for : Bed → List Place
places_for Mono = centre ∷ []
places_for Stereo = left 30 ∷ right 30 ∷ []
places_for FiveOne = left 30 ∷ right 30 ∷ centre ∷ low_frequency ∷ left 110 ∷ right 110 ∷ []
places_for SevenOne = left 30 ∷ right 30 ∷ centre ∷ low_frequency ∷ left 135 ∷ right 135 ∷ left 90 ∷ right 90 ∷ []

unfoldable pub layout_for : Bed → Layout
layout_for b = record { count = length (places_for b); places = filled blank most (places_for b) }

-- ---- names

abbrev pub name_of : Bed → String
name_of Mono = "mono"
name_of Stereo = "stereo"
name_of FiveOne = "5.1"
name_of SevenOne = "7.1"

-- the bed of that name
unfoldable pub found_of : List ℕ → Option Bed
found_of w =
    cond (bytes_eq w (ascii (name_of Mono))) (Some Mono)
    (cond (bytes_eq w (ascii (name_of Stereo))) (Some Stereo)
    (cond (bytes_eq w (ascii (name_of FiveOne))) (Some FiveOne)
    (cond (bytes_eq w (ascii (name_of SevenOne))) (Some SevenOne) None)))
