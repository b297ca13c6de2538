-- `Surround::filtered` meets its contract.
use mathlib.Core.Path.{◌≡◌, ◌∙◌}
use lib.ListN.{length}
use Rattle.sequence.proofs.Sized.{unmapped}
use Rattle.channels.proofs.Alone.{one-is-all}
use Rattle.channels.proofs.Surround.filtered.Goals as goal

pub returns-then-self-eq1 : goal.returns-then-self-eq1
returns-then-self-eq1 c =
    let a = c.args in
    let good = c.well_formed.0 in
    let e : length a.self.layout.places ≡ 8 = search (unmapped, good) in
    λ h. c.filtered_one.ensures ∙ one-is-all a.self a.own a.xs.now a.first e c.if-self-eq1.true h
