-- The rules for the 88 words of a bed's channels, word by word and in the specification's order: what the words l from place i on have to be.
-- Definitions only.
use Rattle.std.specs.Prelude.{◌≡◌, ◌⊎◌, List, ℕ, suc, ◌+◌, ◌-◌, ◌*◌, ◌^◌, ◌≤◌, ◌<◌, get_or}
use Rattle.strand_image.specs.Words.{Finite64, Flag, FilterWords}

-- whole degrees from -m to m; a negative number is in two's complement
abbrev pub AngleWord : ℕ → ℕ → Type 0
AngleWord m w = (w ≤ m) ⊎ (2 ^ 64 - m ≤ w)

-- azimuth, elevation, LFE flag; an LFE's two angles are zero
pub record PlaceWords (l : List ℕ) (i : ℕ) : Type 0 where
  pub azimuth : AngleWord 180 (get_or l i 0)
  pub elevation : AngleWord 90 (get_or l (i + 1) 0)
  pub lfe : Flag (get_or l (i + 2) 0)
  pub lfe_azimuth : get_or l (i + 2) 0 ≡ 1 → get_or l i 0 ≡ 0
  pub lfe_elevation : get_or l (i + 2) 0 ≡ 1 → get_or l (i + 1) 0 ≡ 0

-- shelf, high-pass, fast mean square
pub record ChannelWords (l : List ℕ) (i : ℕ) : Type 0 where
  pub shelf : FilterWords l i
  pub high_pass : FilterWords l (i + 4)
  pub fast : Finite64 (get_or l (i + 8) 0)

-- the count, three words a channel for eight, nine words for each of channels 2 to 8; unused words are zero
pub record SurroundWords (l : List ℕ) (i : ℕ) : Type 0 where
  pub some : 1 ≤ get_or l i 0
  pub most : get_or l i 0 ≤ 8
  pub places : (k : ℕ) → k < get_or l i 0 → PlaceWords l (i + 1 + 3 * k)
  pub unused_places : (j : ℕ) → 3 * get_or l i 0 ≤ j → j < 24 → get_or l (i + 1 + j) 0 ≡ 0
  pub others : (k : ℕ) → suc k < get_or l i 0 → ChannelWords l (i + 25 + 9 * k)
  pub unused_others : (j : ℕ) → 9 * (get_or l i 0 - 1) ≤ j → j < 63 → get_or l (i + 25 + j) 0 ≡ 0
