-- `state_text` meets its contract, state by state.
use Rattle.std.proofs.Common.{refl}
use Rattle.line_text.proofs.state_text.Goals as goal

pub returns-in-ReleaseToUnity : goal.returns-in-ReleaseToUnity
returns-in-ReleaseToUnity c = rw c.in-ReleaseToUnity.is refl

pub returns-in-DuckToTarget : goal.returns-in-DuckToTarget
returns-in-DuckToTarget c = rw c.in-DuckToTarget.is refl

pub returns-in-InterviewPassthrough : goal.returns-in-InterviewPassthrough
returns-in-InterviewPassthrough c = rw c.in-InterviewPassthrough.is refl

pub returns-in-DuckToOvervoice : goal.returns-in-DuckToOvervoice
returns-in-DuckToOvervoice c = rw c.in-DuckToOvervoice.is refl
