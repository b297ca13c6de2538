-- `read_on` meets its contract. The loop's invariant: each read so far brought a byte at least, and what they brought stands behind what was held.
use Rattle.std.proofs.Common.{◌≤◌, length, take}
use Rattle.recorded.specs.Reads.{ReadOn}
use Rattle.recorded.proofs.file.read_on.Given as goal

abbrev pub invariant-loop : goal.invariant-loop
invariant-loop g l = record {
  enough : l.counter ≤ l.end;
  within : l.end ≤ length l.buffer;
  kept : ReadOn (g.R.Read.remaining l.initial.from) (g.R.Read.remaining l.from) (take l.held l.initial.buffer) (take l.end l.buffer);
}
