-- `Surround::filtered_all` meets its contract: the channels' filters, the first as it was run, and what they leave.
use mathlib.Core.Path.{◌≡◌, refl, ap, sym, ◌∙◌}
use mathlib.Core.List.{List, ◌∷◌}
use lib.ListN.{length}
use lib.Ieee.{Float}
use Rattle.sequence.proofs.Sized.{unmapped}
use Rattle.level.specs.Weighing.{run_of}
use Rattle.channels.specs.declared.Channel.{Channel}
use Rattle.channels.specs.Channels.{begin_of, samples_of}
use Rattle.channels.specs.Runs.{past_channel, weighing_of}
use Rattle.channels.proofs.Bed.{all-filtered}
use Rattle.channels.proofs.Cut.{places-from}
use Rattle.channels.proofs.Surround.filtered_all.Goals as goal

-- the level's own channel is the first
own_first : (c : Channel) (o : List Channel) (xs : List Float) → run_of (begin_of c) (samples_of 0 xs) ≡ weighing_of (c ∷ o) xs 0
unfolding weighing_of
own_first c o xs = refl

pub returns : goal.returns
returns c =
    let a = c.args in
    let n = c.channels-n in
    let cs = c.all_channels-channels in
    let w = c.weigh-ws in
    let k = c.keep in
    let b = c.weights-weights in
    let j = c.join-joint in
    let s = c.all_stored-finite in
    let good = c.well_formed.0.1.1.0 in
    let e : length a.self.layout.places ≡ 8 = search (unmapped, good) in
    let eight : length k.result ≡ 8 = search unmapped in
    λ h.
    let first = h ∙ own_first a.own a.self.others a.xs.now ∙ ap (λ (l : List Channel). weighing_of l a.xs.now 0) (sym cs.ensures) in
    all-filtered a.self a.own a.xs.now e n.result cs.result b.result w.result k.result _ j.result s.result
    n.ensures cs.ensures b.ensures (w.ensures first) k.ensures (places-from past_channel 7 1 k.result eight) j.ensures s.ensures
