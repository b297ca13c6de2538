-- `any_reads` meets its contract.
use Rattle.ducklines.proofs.Cut.{any_reads}
use Rattle.promises.proofs.any_reads.Goals as goal

pub returns : goal.returns
returns c = any_reads
