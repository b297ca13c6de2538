-- `run_layouts` meets its contract.
use Rattle.ducklines.proofs.Layouts.{run_layouts}
use Rattle.promises.proofs.run_layouts.Goals as goal

pub returns : goal.returns
returns c = run_layouts
