-- `output` meets its contract: past the end there is no number.
use Rattle.std.proofs.Common.{rules}
use lib.Ieee.{of_bits}
use Rattle.detector.proofs.filters.output.Goals as goal

pub returns : goal.returns
unfolding of_bits
returns c = search rules
