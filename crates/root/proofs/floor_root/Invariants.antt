-- `root::floor_root` meets its contract. After i steps the root and what is beyond its square hold all digits of a * 4 ^ i but 54.
use Prim.Native.Nat.{◌+◌, ◌*◌, ◌≤◌}
use Rattle.root.proofs.Digits.{Brought}
use Rattle.root.proofs.floor_root.Given as goal

abbrev pub invariant-loop : goal.invariant-loop
invariant-loop l = (l.part.rem ≤ 2 * l.part.root) × Brought l.a l.counter (l.part.root * l.part.root + l.part.rem) l.rest
