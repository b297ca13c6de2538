-- The examples of the specification for the ducker: by computation, and fast by its law.
use mathlib.Core.Path.{refl}
use lib.Ieee.{size, round, add, sum, sub, neg, lt, eq, le, of_int, of_bits}
use Rattle.comis.specs.LoopBank.{step_slow, step_mid}
use Rattle.comis.specs.Engine.{required_reduction}
use Rattle.comis.proofs.Stays.{fast_stays}
use Rattle.ratio.specs.Examples.{RatioExamples}

pub ratio-examples : RatioExamples
unfolding required_reduction step_slow step_mid size round add sum sub neg lt eq le of_int of_bits
ratio-examples =
    record {
      need = refl;
      no_need = refl;
      slow_stays = λ l c s dt. refl;
      mid_stays = λ l c s dt. refl;
      fast_stays = fast_stays;
    }
