-- What is promised of a run with a layout of the bed, beside the contracts.
use Rattle.std.specs.Prelude.{◌≡◌, ℕ, true, T, List, Float}
use Rattle.layout.specs.declared.Layout.{Layout}
use Rattle.layout.specs.Layout.{layout_within, stored_of, mono_of}
use Rattle.channels.specs.Surround.{resting_of}
use Rattle.vad.specs.Strand as strand
use Rattle.chain.specs.declared.Chain.{Chain}
use Rattle.chain.specs.Chain.{fresh_of, with_bed, whole_frame, frame_of}
use Rattle.frame_bytes.specs.Bytes.{key_at, bed_at}
use Rattle.ducklines.specs.Frames.{count_of, fresh_run}

pub record RunLayouts : Type 0 where
  -- a run with an accepted layout begins with a chain that is fresh but for that layout,
  pub accepted : (l : Layout) → T (layout_within l) → (fresh_run l).chain ≡ with_bed fresh_of strand.fresh_of (resting_of (stored_of l))
  -- and with one channel at 0, 0 with a fresh chain
  pub mono : (fresh_run mono_of).chain ≡ fresh_of
  -- frames leave the layout as it is
  pub kept : (c : Chain) (key bed : List Float) → (frame_of c key bed).chain.surround.layout ≡ c.surround.layout
  -- a frame of the bytes has as many samples as the chain asks for, so that none is refused with 1
  pub whole : (c : Chain) (b : List ℕ) (k : ℕ) → whole_frame c (key_at (count_of c) b k) (bed_at (count_of c) b k) ≡ true
