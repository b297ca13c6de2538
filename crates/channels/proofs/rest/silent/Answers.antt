-- `silent` meets its contract.
use native.Mathlib.Omega.{arith}
use mathlib.Core.Bool.{Bool, true, false}
use mathlib.Core.Path.{◌≡◌}
use mathlib.Core.List.{List}
use lib.Dec.{T}
use lib.ListN.{length}
use lib.Ieee.{Float, nan}
use Rattle.std.proofs.Common.{rules, tests, MatchBool}
use Rattle.std.specs.List.{AllWithin}
use Rattle.std.proofs.lemmas.Iterator.{cases_from_all, YieldsList-from_slice}
use Rattle.float.specs.Arithmetic.{zero64}
use Rattle.level.specs.Weighing.{clean_of}
use Rattle.channels.specs.Rest.{Silent}
use Rattle.channels.proofs.Resting.{silent-each}
use Rattle.channels.proofs.rest.silent.Goals as goal

abbrev Heard : Float → Type 0
Heard x = clean_of x ≡ zero64

told : (r : Bool) (xs : List Float) (No : Type 0) → MatchBool r (AllWithin Heard xs 0 (length xs)) No → T r → Silent xs
told true xs No h t = silent-each xs (λ k l. h k nan (omega arith) l)
told false xs No h t = absurd t

pub returns : goal.returns
returns c =
    let xs = c.args.xs.now in
    told c.all.result xs _
    (cases_from_all _ _ _ Heard (λ x. Unit {0}) c.all.ensures.ran (YieldsList-from_slice xs cc) (λ x q k. search (rules, tests)) (λ x q k. tt))
