-- A chain's bed on any layout: its level and the other channels are the level of all channels, frame after frame. So it reads what BS.1770 says,
-- and keeps what the Rust keeps.
use native.Mathlib.Omega.{arith}
use Rattle.std.proofs.lemmas.List.{take-replicate}
use mathlib.Core.Path.{◌≡◌, refl, ap, ◌∙◌}
use mathlib.Core.List.{List, [], ◌∷◌, foldl}
use lib.ListN.{length, drop, get_or}
use lib.Ieee.{Float}
use Rattle.level.specs.declared.Weighing.{Weighing}
use Rattle.level.specs.declared.Level.{Level}
use Rattle.sequence.specs.Latest.{blanks}
use Rattle.level.specs.Level.{fresh_of}
use Rattle.layout.specs.declared.Layout.{Layout}
use Rattle.layout.specs.Weights.{used_weights}
use Rattle.layout.proofs.Used.{few-used}
use Rattle.channels.specs.declared.Channel.{Channel}
use Rattle.channels.specs.declared.Surround.{Surround}
use Rattle.channels.specs.Channels.{resting, weighings_of, kept_in, JointLevel, finish_joint, joint_frame_of}
use Rattle.channels.specs.Surround.{resting_others, resting_of, own_of, joint_of, bed_frame_of}
use Rattle.channels.specs.Deque.{meters_of}
use Rattle.channels.specs.Heard.{Bed, bed_next, bed_after, ReadsLayout, KeepsLayout}
use Rattle.channels.proofs.Deque.{keeps-deque}
use Rattle.channels.proofs.Bs1770.{reads-from}

-- ---- a frame of the bed is one of all channels

all-kept : (cs : List Channel) (ws : List Weighing) (c : Channel) → get_or (kept_in (c ∷ cs) ws) 0 resting ∷ drop 1 (kept_in (c ∷ cs) ws) ≡ kept_in (c ∷ cs) ws
unfolding kept_in
all-kept cs [] c = refl
all-kept cs (w ∷ ws) c = refl

pub next-joint : (l : Level) (s : Surround) (f : List Float)
    → joint_of (bed_frame_of l s f).framed.level (bed_frame_of l s f).surround ≡ (joint_frame_of (joint_of l s) (used_weights s.layout) f).level
unfolding bed_frame_of joint_frame_of finish_joint
next-joint l s f =
    let ws = weighings_of (own_of l ∷ s.others) (length (used_weights s.layout)) f in
    λ i. record { channels = all-kept s.others ws (own_of l) i; powers = (joint_frame_of (joint_of l s) (used_weights s.layout) f).level.powers }

abbrev joined : Bed → JointLevel
joined b = joint_of b.level b.surround

nexts : (l : Layout) (fs : List (List Float)) (b : Bed) → b.surround.layout ≡ l
    → (joined (foldl bed_next b fs) ≡ foldl (λ (j : JointLevel) (f : List Float). (joint_frame_of j (used_weights l) f).level) (joined b) fs)
    × ((foldl bed_next b fs).surround.layout ≡ l)
unfolding bed_frame_of
nexts l [] b e = (refl, e)
nexts l (f ∷ fs) b e =
    let r = nexts l fs (bed_next b f) e in
    let one = next-joint b.level b.surround f ∙ ap (λ (k : Layout). (joint_frame_of (joined b) (used_weights k) f).level) e in
    (r.0 ∙ ap (λ (j : JointLevel). foldl (λ (i : JointLevel) (g : List Float). (joint_frame_of i (used_weights l) g).level) j fs) one, r.1)

-- ---- from fresh

pub layout-bs1770 : ReadsLayout
unfolding bed_after bed_frame_of resting_others blanks
layout-bs1770 l fs f w e =
    let fresh : Bed = record { level = fresh_of; surround = resting_of l } in
    let n = length (used_weights l) in
    let r = nexts l fs fresh refl in
    (λ i. (joint_frame_of (r.0 i) (used_weights (r.1 i)) f).reading)
    ∙ reads-from (used_weights l) fs f (joint_of fresh_of (resting_of l)) w (few-used l) refl
    (λ i. record { channels = take-replicate n 8 resting (few-used l) i; frames = [] })
    e

pub layout-deque : KeepsLayout
unfolding bed_frame_of
layout-deque l s f o p e =
    let n = length (used_weights s.layout) in
    let k = keeps-deque (used_weights s.layout) (joint_of l s) f (omega (arith, few-used s.layout, o)) p e in
    (ap (meters_of n) (next-joint l s f) ∙ k.0, k.1)
