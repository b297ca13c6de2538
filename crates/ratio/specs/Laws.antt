-- What is promised of the ducker beside the contracts, which give its steps.
use Rattle.std.specs.Prelude.{◌≡◌, List, T}
use Rattle.std.specs.Float.Ieee.{le}
use Rattle.float.specs.Arithmetic.{zero64}
use Rattle.comis.specs.declared.loop_bank.Loops.{Loops}
use Rattle.comis.specs.LoopBank.{zero_loops}
use Rattle.comis.specs.Loops.{LoopsFit, LoopsStored}
use Rattle.ratio.specs.declared.Duck.{Duck}
use Rattle.ratio.specs.declared.Inputs.{Inputs}
use Rattle.ratio.specs.Frame.{frame_of}
use Rattle.ratio.specs.Lists.{answers_of, DuckStored, AllStored}
use Rattle.ratio.specs.Rust as rust

pub record DuckerLaws : Type 0 where
  -- after any list of frames the answers are those of the Rust, which keeps more than the loops
  pub ratio_rust : (d : Duck) (calls : List rust.Call) → DuckStored d → AllStored calls → rust.answers (rust.new d) calls ≡ answers_of zero_loops calls
  -- in an accepted frame the reduction is at least 0 and at most max_reduction_db, whatever the loops and the readings are
  pub reduction_bounds : (l : Loops) (d : Duck) (i : Inputs) → T (le zero64 d.max_reduction_db.0) → T (frame_of l d i).finite
      → T (le zero64 (frame_of l d i).reduction.0) × T (le (frame_of l d i).reduction.0 d.max_reduction_db.0)
  -- the loops that an accepted frame stores may stand in an image
  pub frame_stored : (l : Loops) (d : Duck) (i : Inputs) → LoopsFit l → T (frame_of l d i).finite → LoopsStored (frame_of l d i).loops
