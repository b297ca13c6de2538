-- `frames` meets its contract: after i frames run and text are those of the first i.
use Rattle.std.proofs.Common.{◌≡◌}
use Rattle.ducklines.specs.Frames.{frames_in}
use Rattle.ducklines.proofs.frames.Given as goal

abbrev pub invariant-loop-i : goal.invariant-loop-i
invariant-loop-i l = record { run = l.s; bytes = l.text } ≡ frames_in l.initial.s l.buffer l.i l.initial.text
