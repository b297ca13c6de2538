-- `samples` meets its contract: the first k samples are in their places.
use Rattle.std.proofs.Common.{◌≡◌, length, take}
use Rattle.frame_bytes.specs.Bytes.{samples_at}
use Rattle.replay.proofs.input.samples.Given as goal

abbrev pub invariant-loop-k : goal.invariant-loop-k
invariant-loop-k l = take l.k l.x ≡ take l.k (samples_at l.b 0 (length l.initial.x))
