-- `all_stored` meets its contract.
use mathlib.Core.Bool.{Bool, ◌&&◌}
use mathlib.Core.Path.{◌≡◌, refl, ap, ◌∙◌}
use mathlib.Core.List.{List, [], ◌∷◌}
use Rattle.std.proofs.Common.{rules, tests}
use Rattle.std.specs.List.{list_all}
use Rattle.std.proofs.lemmas.Iterator.{YieldsList-from_slice}
use Rattle.std.proofs.lemmas.Iterator.Search.{all_from_yields_List}
use Rattle.sequence.specs.All.{all}
use Rattle.level.specs.declared.Weighing.{Weighing}
use Rattle.channels.specs.Channels.{stored_finite, all_stored}
use Rattle.channels.proofs.all_stored.Goals as goal

same-all : (p : Weighing → Bool) (ws : List Weighing) → list_all p ws ≡ all p ws
same-all p [] = refl
same-all p (w ∷ ws) = ap (λ b. p w && b) (same-all p ws)

pub returns : goal.returns
unfolding all_stored stored_finite
returns c =
    all_from_yields_List stored_finite _ _ _ c.all.ensures.ran (YieldsList-from_slice c.args.ws.now cc) (λ x b q k. search (rules, tests))
    ∙ same-all stored_finite c.args.ws.now
