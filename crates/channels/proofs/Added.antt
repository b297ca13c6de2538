-- The sums over the channels, as they are run, are BS.1770's of all that they heard.
use mathlib.Core.Path.{◌≡◌, refl}
use mathlib.Core.List.{List, [], ◌∷◌, map, foldl}
use lib.Ieee.{Float}
use Rattle.float.specs.Arithmetic.{◌⊕◌, ◌⊗◌}
use Rattle.level.specs.declared.Joint.{Joint}
use Rattle.level.specs.Bs1770.{weighted, smoothed}
use Rattle.level.specs.Level.{joined_of}
use Rattle.level.proofs.Filter.{weighing_at}
use Rattle.channels.specs.Bs1770.{Source, share}
use Rattle.channels.specs.Channels.{join_all}
use Rattle.channels.specs.Heard.{sources}

-- what was heard, newest first, K-weighted, with the weights
abbrev pub weighted_at : List Float → List (List Float) → List Source
weighted_at ws hs = sources ws (map weighted hs)

pub join-at : (j : Joint) (ws : List Float) (hs : List (List Float)) → join_all j ws (map (weighing_at 480) hs) ≡ record {
  power = foldl (λ (s : Float) (c : Source). s ⊕ share c) j.power (weighted_at ws hs);
  fast = foldl (λ (s : Float) (c : Source). s ⊕ c.weight ⊗ smoothed c.samples) j.fast (weighted_at ws hs);
}
unfolding join_all joined_of weighing_at sources
join-at j [] hs = refl
join-at j (b ∷ bs) [] = refl
join-at j (b ∷ bs) (h ∷ hs) = join-at (joined_of j b (weighing_at 480 h) 480) bs hs
