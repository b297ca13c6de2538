-- `join` meets its contract: a fold over each weight and its filters.
use mathlib.Core.Path.{◌≡◌, refl, ap, ◌∙◌}
use mathlib.Core.List.{List, [], ◌∷◌}
use lib.Ieee.{Float}
use Rattle.std.proofs.Common.{rules, tests}
use Rattle.std.specs.List.{fold, zip}
use Rattle.std.proofs.lemmas.Iterator.{YieldsList-from_slice, YieldsList-from_zip}
use Rattle.std.proofs.lemmas.Iterator.Consumers.{fold_from_yields_List}
use Rattle.level.specs.Bs1770.{frame_length}
use Rattle.level.specs.declared.Joint.{Joint}
use Rattle.level.specs.declared.Weighing.{Weighing}
use Rattle.level.specs.Level.{no_channel, joined_of}
use Rattle.channels.specs.Channels.{join_all}
use Rattle.channels.proofs.join.Goals as goal

abbrev one_more : Joint → Float × Weighing → Joint
one_more j p = joined_of j p.0 p.1 frame_length

fold-all : (j : Joint) (bs : List Float) (ws : List Weighing) → fold one_more j (zip bs ws) ≡ join_all j bs ws
unfolding join_all
fold-all j [] ws = refl
fold-all j (b ∷ bs) [] = refl
fold-all j (b ∷ bs) (w ∷ ws) = fold-all (joined_of j b w frame_length) bs ws

pub returns : goal.returns
returns c =
    let a = c.args in
    fold_from_yields_List _ one_more _ _ c.fold.ensures.ran (YieldsList-from_zip (YieldsList-from_slice a.weights.now cc) (YieldsList-from_slice a.ws.now cc)) (λ j p r q k. search (rules, tests))
    ∙ ap (λ (s : Joint). fold one_more s (zip a.weights.now a.ws.now)) c.new.ensures
    ∙ fold-all no_channel a.weights.now a.ws.now
