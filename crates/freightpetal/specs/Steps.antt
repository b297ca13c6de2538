-- A save and a restore as steps of the port, by what the functions give back.
use Rattle.refusal.specs.declared.Refusal.{Refusal}
use Rattle.std.specs.Prelude.{List, ℕ, Result}
use Rattle.demands.specs.Calls.{Step, gets}
use Rattle.chain.specs.declared.Chain.{Chain}
use Rattle.chain.specs.Chain.{Changed}
use Rattle.rules.specs.Rules.{Answered}
use Rattle.image.specs.Port.{reply_of}

-- the chain c stays, and the lent bytes are l
abbrev pub after_save : Chain → Result Unit Refusal → List ℕ → Step Chain Answered
after_save c v l = gets (reply_of v) l c

-- the bytes b stay
abbrev pub after_restore : Changed → List ℕ → Step Chain Answered
after_restore r b = gets (reply_of r.outcome) b r.chain
