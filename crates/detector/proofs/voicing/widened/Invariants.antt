-- `widened` meets its contract: an f32 as an f64 is the same number.
use Rattle.std.proofs.Common.{◌≡◌, length, take}
use Rattle.detector.proofs.voicing.widened.Given as goal

abbrev pub invariant-loop-i : goal.invariant-loop-i
invariant-loop-i l = (length l.y-items ≡ 240) × (length l.d ≡ 240) × (take l.i l.y-items ≡ take l.i l.d)
