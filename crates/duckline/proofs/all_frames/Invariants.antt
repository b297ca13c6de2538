-- `all_frames` is safe: less than a frame of eight channels is held from read to read.
use Prim.Native.Nat.{◌<◌}
use Rattle.duckline.proofs.all_frames.Given as goal

abbrev pub invariant-loop : goal.invariant-loop
invariant-loop l = l.held < 17280
