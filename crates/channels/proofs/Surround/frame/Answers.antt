-- `Surround::frame` meets its contract: what the filters leave, then what the powers read.
use mathlib.Core.Path.{◌≡◌, ap, ◌∙◌}
use Rattle.level.specs.Level.{start_of, read_of}
use Rattle.channels.specs.declared.Filtered.{Filtered}
use Rattle.channels.specs.Surround.{own_of, filtered_of}
use Rattle.channels.proofs.Bed.{read_after, filtered-bed}
use Rattle.channels.proofs.Surround.frame.Goals as goal

pub returns : goal.returns
unfolding start_of
returns c =
    let a = c.args in
    let f = c.filtered-f in
    let read = c.read-read.ensures in
    λ h.
    let left : f.result ≡ filtered_of a.self (own_of a.level) a.xs.now = f.ensures h in
    ap (read_after a.self f.result) read
    ∙ ap (λ (x : Filtered). read_after a.self x (read_of x.joint a.level.powers)) left
    ∙ filtered-bed a.level a.self a.xs.now
