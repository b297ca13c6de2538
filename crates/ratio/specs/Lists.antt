-- A list of frames, each on the loops that the one before left, and the settings that the Rust is given. Definitions only.
use Rattle.std.specs.Prelude.{List, [], ◌∷◌}
use Rattle.std.specs.Float.{binary64}
use Rattle.float.specs.Valid.{NoMinus}
use Rattle.comis.specs.declared.loop_bank.Loops.{Loops}
use Rattle.ratio.specs.declared.Duck.{Duck}
use Rattle.ratio.specs.Frame.{frame_of}
use Rattle.ratio.specs.Rust.{Call, Answer}

unfoldable pub answers_of : Loops → List Call → List Answer
answers_of l [] = []
answers_of l (c ∷ cs) =
    let f = frame_of l c.duck c.inputs in
    record { reduction = f.reduction.0; status = f.status } ∷ answers_of f.loops cs

-- The numbers as a settings call stores them: held by binary64, without a minus sign, so that negative zero isn't among them.
pub record DuckStored (d : Duck) : Type 0 where
  pub target : NoMinus binary64 d.target_lu
  pub overvoice : NoMinus binary64 d.overvoice_lu
  pub most : NoMinus binary64 d.max_reduction_db.0
  pub speed : NoMinus binary64 d.speed

-- in every frame of a list
pub data AllStored : List Call → Type 0 where
  none : AllStored []
  more : {c : Call} {cs : List Call} → DuckStored c.duck → AllStored cs → AllStored (c ∷ cs)
