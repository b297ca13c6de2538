-- `strands` meets its contract: after c strands their samples are in the first places.
use Prim.Native.Nat.{◌*◌}
use mathlib.Core.Path.{◌≡◌}
use Rattle.sequence.specs.History.{laid}
use Rattle.frame_bytes.specs.Bytes.{samples_at}
use Rattle.frame_bytes.proofs.strands.Given as goal

abbrev pub invariant-loop-c : goal.invariant-loop-c
invariant-loop-c l = l.x ≡ laid (samples_at l.buffer l.first (l.c * 480)) l.initial.x
