-- `level::sum_newest` meets its contract: the newest first are the latest, reversed.
use Rattle.std.proofs.Common.{◌≡◌, ◌-◌, length, drop, reverse, sym, ap, ◌∙◌, arith}
use Rattle.std.proofs.lemmas.Grind.{common_steps}
use Rattle.std.specs.List.{fold}
use mathlib.Core.List.{foldl}
use Rattle.sequence.specs.History.{latest}
use Rattle.sequence.proofs.Fold.{fold_is}
use Rattle.sequence.proofs.Newest.{newest-latest}
use Rattle.float.specs.Arithmetic.{◌⊕◌}
use Rattle.level.specs.Level.{sum_of}
use Rattle.level.proofs.sum_newest.Goals as goal

pub returns : goal.returns
unfolding sum_of latest
returns c =
    let a = c.args in
    let xs = a.xs.now in
    let e : c.fold.result ≡ fold ◌⊕◌ a.from (reverse (drop (length xs - a.n) xs)) = grind (arith, common_steps) in
    e ∙ fold_is ◌⊕◌ a.from (reverse (latest a.n xs)) ∙ ap (foldl ◌⊕◌ a.from) (sym (newest-latest a.n xs))
