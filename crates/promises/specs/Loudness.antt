-- What is promised of a strand's level beside its contract: it reads what BS.1770 defines, and keeps what the Rust keeps in its deque.
use Rattle.std.specs.Prelude.{◌≡◌, List, T, negsuc, Float, length}
use Rattle.std.specs.Float.{binary64}
use Rattle.std.specs.Float.Ieee.{of_int}
use Rattle.power.specs.Power.{exp_of}
use Rattle.level.specs.declared.Level.{Level}
use Rattle.level.specs.Bs1770.{fast_coeff}
use Rattle.float.specs.Arithmetic.{◌⊘◌, whole}
use Rattle.level.specs.Level.{fresh_of, frame_of}
use Rattle.level.specs.Deque.{meter_of, meter_next, meter_reading}
use Rattle.level.specs.Heard.{ReadsBs1770, EarlyFrames, FirstFrame, HearsSamples}
use Rattle.level.specs.Valid.{Valid}

pub record Loudness : Type 0 where
  -- after any list of frames of 480 samples, a frame reads what BS.1770 says of all samples heard
  pub bs1770 : ReadsBs1770
  -- and where every sample is finite, what is heard are the samples themselves
  pub samples : HearsSamples
  -- the means are over the frames that there are: up to the 40th momentary and short-term are the same, and the first frame reads its own power
  pub early : EarlyFrames
  pub first : FirstFrame
  -- the record of a count and 300 places stands for the Rust's deque, in what is kept and in what is read
  pub deque : (l : Level) (xs : List Float) → length l.powers.list ≡ 300 → meter_of (frame_of l xs).level ≡ meter_next (meter_of l) xs
  pub deque_reading : (l : Level) (xs : List Float) → length l.powers.list ≡ 300 → (frame_of l xs).reading ≡ meter_reading (meter_of l) xs
  -- a fresh level may stand in an image, and so may the level after a frame whose numbers are finite
  pub fresh : Valid fresh_of
  pub kept : (l : Level) (xs : List Float) → Valid l → T (frame_of l xs).finite → Valid (frame_of l xs).level
  -- the fast reading's coefficient is exp(-1 / 2400) by the stand-in
  pub fast_coefficient : fast_coeff ≡ exp_of (of_int binary64 (negsuc 0) ⊘ whole 2400)
