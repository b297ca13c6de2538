-- What is promised of the bed's level beside its contract.
use Rattle.std.specs.Prelude.{◌*◌, ◌≡◌, List, T, length, Float}
use Rattle.level.specs.declared.Level.{Level}
use Rattle.level.specs.Bs1770.{frame_length}
use Rattle.level.specs.Valid as level
use Rattle.layout.specs.declared.Layout.{Layout}
use Rattle.layout.specs.Layout.{layout_within, stored_of}
use Rattle.channels.specs.declared.Surround.{Surround}
use Rattle.channels.specs.Surround.{mono_surround, resting_of, bed_frame_of}
use Rattle.channels.specs.Heard.{ReadsBs1770, HearsSamples, KeepsDeque, ReadsLayout, KeepsLayout, OneSource, OneIsLevel, MonoIsLevel}
use Rattle.channels.specs.Valid.{SurroundValid}

pub record BedLaws : Type 0 where
  -- the level of any channels reads what BS.1770 defines, hears finite samples as they are, and keeps and reads what the Rust does
  pub reads : ReadsBs1770
  pub hears : HearsSamples
  pub keeps : KeepsDeque
  -- and so does a chain's bed, on any layout
  pub reads_layout : ReadsLayout
  pub keeps_layout : KeepsLayout
  -- one channel of weight 1 is the level of one channel
  pub one_source : OneSource
  pub one_is_level : OneIsLevel
  pub mono_is_level : MonoIsLevel
  -- what a chain keeps may stand in an image: fresh, after an accepted layout, after a frame whose numbers are finite, and after a reset
  pub surround_fresh : SurroundValid mono_surround
  pub surround_laid : (l : Layout) → T (layout_within l) → SurroundValid (resting_of (stored_of l))
  pub surround_next : (l : Level) (s : Surround) (f : List Float) → level.Valid l → SurroundValid s → length f ≡ s.layout.count * frame_length
      → T (bed_frame_of l s f).framed.finite → level.Valid (bed_frame_of l s f).framed.level × SurroundValid (bed_frame_of l s f).surround
  pub surround_rest : (s : Surround) → SurroundValid s → SurroundValid (resting_of s.layout)
