-- The specification's rules for the words of a payload of either edition, word by word and in its order. Definitions only.
use Rattle.std.specs.Prelude.{◌≡◌, false, List, ℕ, ◌≤◌, ◌<◌, get_or}
use Rattle.std.specs.Float.{binary64}
use Rattle.std.specs.Float.Ieee.{of_bits, lt}
use Rattle.settings.specs.declared.Range.{Range}
use Rattle.settings.specs.Settings.{image_ranges}
use Rattle.strand_image.specs.Words.{Finite64, Flag, StrandWords}
use Rattle.surround_image.specs.Words.{SurroundWords}
use Rattle.image.specs.Layout.{after_body, edition, first_unused, payload_words}
use Rattle.image.specs.Edition1 as first

-- a setting: finite, not below its range nor above it, and no negative zero
pub record SettingWord (r : Range) (w : ℕ) : Type 0 where
  pub finite : Finite64 w
  pub low : lt (of_bits binary64 w) r.low ≡ false
  pub high : lt r.high (of_bits binary64 w) ≡ false
  pub plain : w ≡ 0x8000000000000000 → ⊥

-- words 1 to 1,272, in either edition: settings, key strand, bed strand, loops
pub record BodyWords (p : List ℕ) : Type 0 where
  pub key_threshold : SettingWord image_ranges.threshold (get_or p 1 0)
  pub key_hold_ms : SettingWord image_ranges.hold_ms (get_or p 2 0)
  pub key_gate_lufs : SettingWord image_ranges.gate_lufs (get_or p 3 0)
  pub bed_threshold : SettingWord image_ranges.threshold (get_or p 4 0)
  pub bed_hold_ms : SettingWord image_ranges.hold_ms (get_or p 5 0)
  pub bed_gate_lufs : SettingWord image_ranges.gate_lufs (get_or p 6 0)
  pub enabled : Flag (get_or p 7 0)
  pub target_lu : SettingWord image_ranges.ratio_lu (get_or p 8 0)
  pub overvoice_lu : SettingWord image_ranges.ratio_lu (get_or p 9 0)
  pub max_reduction_db : SettingWord image_ranges.max_reduction_db (get_or p 10 0)
  pub speed : SettingWord image_ranges.speed (get_or p 11 0)
  pub bed_voice : Flag (get_or p 12 0)
  pub key : StrandWords p 13
  pub bed : StrandWords p 641
  pub slow : Finite64 (get_or p 1269 0)
  pub mid : Finite64 (get_or p 1270 0)
  pub fast : Finite64 (get_or p 1271 0)
  pub hold_remaining : Finite64 (get_or p 1272 0)

-- edition 1: from word 1,273 on zeros
pub record PayloadWordsOne (p : List ℕ) : Type 0 where
  pub edition : get_or p 0 0 ≡ first.edition
  pub body : BodyWords p
  pub unused : (k : ℕ) → after_body ≤ k → k < first.payload_words → get_or p k 0 ≡ 0

-- edition 2: the bed's channels from word 1,273 on
pub record PayloadWords (p : List ℕ) : Type 0 where
  pub edition : get_or p 0 0 ≡ edition
  pub body : BodyWords p
  pub surround : SurroundWords p after_body
  pub unused : (k : ℕ) → first_unused ≤ k → k < payload_words → get_or p k 0 ≡ 0
