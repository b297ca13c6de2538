-- The examples of the specification that are marked P, as one list.
use Rattle.logarithm.specs.Examples.{LogExamples}
use Rattle.power.specs.Examples.{PowerExamples}
use Rattle.detector.specs.Examples.{SmoothstepExamples}
use Rattle.vad.specs.Examples.{HoldExamples}
use Rattle.ratio.specs.Examples.{RatioExamples}

pub record Examples : Type 0 where
  -- log2 of 1, 2 and 0.5 is 0, 1 and -1; of 3, N is 26,591,258
  pub logarithm : LogExamples
  -- 2 ^ 0 = 1, 2 ^ -1 = 0.5, 2 ^ 0.5 = 1,518,500,249 / 2 ^ 30
  pub power : PowerExamples
  -- smoothstep(9, 4, 14) = 0.5; at 4 it is 0, at 14 it is 1
  pub smoothstep : SmoothstepExamples
  -- target 5, bed -20, dialogue -20 needs 5; bed -100 needs nothing and its loop keeps its value
  pub ratio : RatioExamples
  -- hold_ms 14.9 gives 1 frame, 15 gives 2
  pub hold : HoldExamples
