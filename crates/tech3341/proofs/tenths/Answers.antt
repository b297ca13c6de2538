-- `tech3341::tenths` is safe: only what fits is cut to a whole number.
use Rattle.std.proofs.Common.{T, sym, subst}
use lib.Ieee.{of_bits, neg}
use Rattle.tech3341.proofs.tenths.Goals as goal

pub truncating_f64_to_u64-requires : goal.truncating_f64_to_u64-requires
unfolding of_bits neg
truncating_f64_to_u64-requires c =
    record { lower_bound = subst T (sym c.if-t.true) tt; upper_bound = subst T (sym c.if-t-2.true) tt }
