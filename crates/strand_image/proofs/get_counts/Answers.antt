-- `strand_image::get_counts` meets its contract: onsets are the offsets and the flag.
use native.Mathlib.Omega.{arith}
use mathlib.Core.Path.{◌∙◌}
use mathlib.Core.Bool.{Bool, true, false}
use Prim.Native.Nat.{◌+◌, ◌<◌}
use lib.Dec.{lit<}
use lib.ListN.{get_or}
use lib.Ieee.{of_bits}
use Rattle.codec.specs.Fields.{flag_bits}
use Rattle.codec.proofs.Kept.{capped-lt, flag-from}
use Rattle.strand_image.proofs.Rules.{counts-good, counts_bad}
use Rattle.strand_image.proofs.get_counts.Goals as goal

flag-lt : (b : Bool) → flag_bits b < 2
flag-lt true = lit< tt
flag-lt false = lit< tt

pub overflow_add-offsets : goal.overflow_add-offsets
overflow_add-offsets c =
    omega (arith, c.get_capped-offsets.ensures, capped-lt 4294967296 (get_or c.args.w.now (c.args.at + 3) 0) (lit< tt), c.from.ensures ∙ flag-from c.get-active.result, flag-lt c.get-active.result)

pub returns-then-onsets-offsets : goal.returns-then-onsets-offsets
returns-then-onsets-offsets c = counts-good _ _ _ _ _ _ _ c.get-active.ensures c.get-probability.ensures c.get_capped-onsets.ensures c.get_capped-offsets.ensures (c.from.ensures ∙ flag-from c.get-active.result) c.if-onsets-offsets.true

pub returns : goal.returns
unfolding of_bits
returns c = counts_bad _ _ _ _ _ _ _ c.get-active.ensures c.get-probability.ensures c.get_capped-onsets.ensures c.get_capped-offsets.ensures (c.from.ensures ∙ flag-from c.get-active.result) c.if-onsets-offsets.false
