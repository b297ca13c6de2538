-- `frames` meets its contract: after i frames run and text are those of the first i.
use Rattle.std.proofs.Common.{arith}
use Rattle.ducklines.proofs.Ran.{frames_turn, frames_end}
use Rattle.ducklines.proofs.frames.Goals as goal

pub frame-s-requires : goal.frame-s-requires
frame-s-requires c = omega (arith, frames_end _ _ _ _ _ c.loop-i.invariant)

pub loop-i-preserved : goal.loop-i-preserved
loop-i-preserved c = frames_turn _ _ _ _ _ _ c.loop-i.invariant c.frame-s.ensures
