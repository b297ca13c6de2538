-- A frame of any channels, as the code puts it together, is the bed's.
use Prim.Native.Nat.{ℕ, min}
use mathlib.Core.Bool.{Bool, ◌&&◌}
use mathlib.Core.Path.{◌≡◌, refl, ap, sym, ◌∙◌}
use mathlib.Core.List.{List, [], ◌∷◌}
use lib.ListN.{length, take, drop, get_or}
use lib.Ieee.{Float}
use Rattle.level.specs.declared.Weighing.{Weighing}
use Rattle.level.specs.declared.Joint.{Joint}
use Rattle.level.specs.declared.Read.{Read}
use Rattle.level.specs.declared.Level.{Level}
use Rattle.level.specs.Level.{no_channel, read_of}
use Rattle.layout.specs.Layout.{most}
use Rattle.layout.specs.Weights.{used_weights, weights_of}
use Rattle.layout.proofs.Used.{used-length, weights-used}
use Rattle.channels.specs.declared.Channel.{Channel}
use Rattle.channels.specs.declared.Surround.{Surround}
use Rattle.channels.specs.declared.Filtered.{Filtered}
use Rattle.channels.specs.declared.BedFramed.{BedFramed}
use Rattle.channels.specs.Channels.{resting, weighings_of, join_all, all_stored, kept_in, finish_joint, joint_frame_of}
use Rattle.channels.specs.Surround.{own_of, level_of, bed_frame_of, filtered_by, filtered_of}
use Rattle.channels.specs.Runs.{past_channel}

-- the first of some channels, whatever an array answers past its end
first_of : (cs : List Channel) (ws : List Weighing) (c : Channel) → get_or (kept_in (c ∷ cs) ws) 0 past_channel ≡ get_or (kept_in (c ∷ cs) ws) 0 resting
unfolding kept_in
first_of cs [] c = refl
first_of cs (w ∷ ws) c = refl

-- ---- what the filters leave

-- what the code makes of all channels after the frame, and of their sums
abbrev pub made_of : Joint → Bool → List Channel → List Channel → Filtered
made_of j stored after others = record { joint = j; finite = stored; own = get_or after 0 past_channel; others = others }

module _ (s : Surround) (c : Channel) (xs : List Float) (e : length s.layout.places ≡ most) where
  module _ (n : ℕ) (cs : List Channel) (weights : List Float) (ws : List Weighing) (after others : List Channel) (j : Joint) (stored : Bool) where
    pub all-filtered : n ≡ min s.layout.count most → cs ≡ c ∷ s.others → weights ≡ weights_of s.layout → take n ws ≡ weighings_of cs n xs
        → after ≡ kept_in cs (take n ws) → others ≡ drop 1 after → j ≡ join_all no_channel (take n weights) (take n ws) → stored ≡ all_stored (take n ws)
        → made_of j stored after others ≡ filtered_of s c xs
    unfolding filtered_of filtered_by
    all-filtered en ec ew run ea eo ej es =
        let all = c ∷ s.others in
        let used = used_weights s.layout in
        let count : n ≡ length used = en ∙ sym (used-length s.layout e) in
        let ran : take n ws ≡ weighings_of all (length used) xs = run ∙ (λ i. weighings_of (ec i) (count i) xs) in
        let bs : take n weights ≡ used = (λ i. take (en i) (ew i)) ∙ weights-used s.layout e in
        let kept : after ≡ kept_in all (weighings_of all (length used) xs) = ea ∙ (λ i. kept_in (ec i) (ran i)) in
        (λ i. made_of ((ej ∙ (λ k. join_all no_channel (bs k) (ran k))) i) ((es ∙ ap all_stored ran) i) (kept i) ((eo ∙ ap (drop 1) kept) i))
        ∙ ap (λ (own : Channel). record {
          joint = join_all no_channel used (weighings_of all (length used) xs);
          finite = all_stored (weighings_of all (length used) xs);
          own = own;
          others = drop 1 (kept_in all (weighings_of all (length used) xs));
        }) (first_of s.others (weighings_of all (length used) xs) c)

-- ---- and what is read after them

abbrev pub read_after : Surround → Filtered → Read → BedFramed
read_after s f r = record {
  framed = record { level = level_of f.own r.powers; reading = r.reading; finite = f.finite && r.finite };
  surround = record { layout = s.layout; others = f.others };
}

pub filtered-bed : (l : Level) (s : Surround) (xs : List Float)
    → read_after s (filtered_of s (own_of l) xs) (read_of (filtered_of s (own_of l) xs).joint l.powers) ≡ bed_frame_of l s xs
unfolding bed_frame_of joint_frame_of finish_joint filtered_of filtered_by
filtered-bed l s xs = refl
