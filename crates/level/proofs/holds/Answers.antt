-- `level::holds` meets its contract.
use Rattle.std.proofs.Common.{sym, ap, ◌∙◌}
use Rattle.biquad.specs.declared.State.{State}
use Rattle.biquad.specs.declared.Ticked.{Ticked}
use Rattle.level.specs.Rest.{same_state, holds_of}
use Rattle.level.proofs.holds.Goals as goal

pub returns : goal.returns
unfolding holds_of
returns c =
    let e = ap (λ (u : Ticked). u.state) c.tick.ensures in
    let s = c.same_state.ensures in
    (s.0 ∙ ap (λ (u : State). same_state u c.args.s) e, λ t. sym e ∙ s.1 t)
