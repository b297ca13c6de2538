-- A place and a layout that an image can hold: within the ranges, and stored as they are.
use Rattle.std.specs.Prelude.{◌≤◌, ◌≡◌, T}
use Rattle.sequence.specs.Counted.{Counted}
use Rattle.layout.specs.declared.Place.{Place}
use Rattle.layout.specs.declared.Layout.{Layout}
use Rattle.layout.specs.Layout.{most, within_of, blank, placed_of}

abbrev pub PlaceValid : Place → Type 0
PlaceValid p = T (within_of p) × (placed_of p ≡ p)

pub record LayoutValid (l : Layout) : Type 0 where
  pub some : 1 ≤ l.count
  pub places : Counted PlaceValid blank most l.count l.places
