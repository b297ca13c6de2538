-- The loops as an image may hold them: four finite numbers. Definitions only.
use Rattle.std.specs.Prelude.{T}
use Rattle.std.specs.Float.{binary64}
use Rattle.std.specs.Float.Ieee.{fits}
use Rattle.float.specs.Valid.{Num}
use Rattle.comis.specs.declared.loop_bank.Loops.{Loops}

-- each is a value that binary64 holds, finite or not
pub record LoopsFit (l : Loops) : Type 0 where
  pub slow : T (fits binary64 l.slow.0)
  pub mid : T (fits binary64 l.mid.0)
  pub fast : T (fits binary64 l.fast.0)
  pub hold : T (fits binary64 l.hold_remaining_seconds)

-- each is a finite number that binary64 holds
pub record LoopsStored (l : Loops) : Type 0 where
  pub slow : Num binary64 l.slow.0
  pub mid : Num binary64 l.mid.0
  pub fast : Num binary64 l.fast.0
  pub hold : Num binary64 l.hold_remaining_seconds
