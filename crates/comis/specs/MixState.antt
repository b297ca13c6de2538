-- The four states by the two voice decisions: the Rust's `MixState::from_vad` and `is_ducking`. Definitions only.
use Rattle.std.specs.Prelude.{Bool, true, false, ℕ}
use Rattle.comis.specs.declared.mix_state.MixState.{MixState}
use Rattle.comis.specs.declared.mix_state.MixState.TheVariants.{ReleaseToUnity, DuckToTarget, InterviewPassthrough, DuckToOvervoice}

abbrev pub from_vad : Bool → Bool → MixState
from_vad false false = ReleaseToUnity
from_vad true false = DuckToTarget
from_vad false true = InterviewPassthrough
from_vad true true = DuckToOvervoice

abbrev pub is_ducking : MixState → Bool
is_ducking ReleaseToUnity = false
is_ducking DuckToTarget = true
is_ducking InterviewPassthrough = false
is_ducking DuckToOvervoice = true

-- the number of a state in an answer: release, duck, interview, overvoice
abbrev pub state_number : MixState → ℕ
state_number ReleaseToUnity = 0
state_number DuckToTarget = 1
state_number InterviewPassthrough = 2
state_number DuckToOvervoice = 3
