-- A level that an image can hold: every number is finite and fits an f64, at most 300 powers are held, and the places after them are 0.
use Rattle.std.specs.Float.{binary64}
use Rattle.biquad.specs.declared.State.{State}
use Rattle.float.specs.Valid.{Num}
use Rattle.sequence.specs.Counted.{Counted}
use Rattle.level.specs.declared.Level.{Level}
use Rattle.level.specs.Bs1770.{short_term_frames}
use Rattle.float.specs.Arithmetic.{zero64}

pub record Settled (s : State) : Type 0 where
  pub z1 : Num binary64 s.z1
  pub z2 : Num binary64 s.z2

pub record Valid (l : Level) : Type 0 where
  pub shelf : Settled l.shelf
  pub high_pass : Settled l.high_pass
  pub fast : Num binary64 l.fast
  pub powers : Counted (Num binary64) zero64 short_term_frames l.powers.count l.powers.list
