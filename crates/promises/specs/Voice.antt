-- What is promised of a strand beside its contract: it answers as the Rust's `Vad` does, and may stand in an image.
use Rattle.std.specs.Prelude.{◌≡◌, false, List, T, Float}
use Rattle.vad.specs.Agrees.{StrandAgrees, StrandAnswers}
use Rattle.vad.specs.declared.VadSettings.{VadSettings}
use Rattle.vad.specs.declared.Strand.{Strand}
use Rattle.vad.specs.Strand.{fresh_of, frame_of, reset_of}
use Rattle.vad.specs.Valid.{Valid, HoldWithin}

pub record Voice : Type 0 where
  -- after any list of accepted frames and resets from fresh, a strand stands for the Rust's `Vad`: the latest 240 of its 300 decimated
  -- values, the phase 0, and the speech level that follows from the stored power
  pub agrees : StrandAgrees
  -- and the next frame's answer is the Rust's
  pub answers : StrandAnswers
  -- a fresh strand may stand in an image, and so may a strand after a reset
  pub fresh : Valid fresh_of
  pub reset : (t : Strand) → Valid t → Valid (reset_of t)
  -- and after a frame whose numbers are finite and which doesn't take the onsets past their limit, with a hold of at most 60,000 ms
  pub kept : (t : Strand) → Valid t → (xs : List Float) (s : VadSettings) → HoldWithin s → T (frame_of t xs s).finite → (frame_of t xs s).full ≡ false
      → Valid (frame_of t xs s).strand
