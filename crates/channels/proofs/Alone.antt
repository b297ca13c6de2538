-- One channel, of any weight; and of weight 1, which is the key's level in its state, its readings and whether it is finite.
use Prim.Native.Nat.{ℕ}
use native.Mathlib.Omega.{arith}
use mathlib.Core.Bool.{◌&&◌}
use Rattle.std.proofs.Math.Bool.{and-true}
use mathlib.Core.Path.{◌≡◌, ap, sym, ◌∙◌}
use mathlib.Core.List.{List, [], ◌∷◌}
use lib.ListN.{length, take}
use lib.Seq.{take_all}
use lib.Ieee.{Float}
use Rattle.float.specs.Arithmetic.{one64}
use Rattle.level.specs.declared.Weighing.{Weighing}
use Rattle.level.specs.declared.Read.{Read}
use Rattle.level.specs.declared.Level.{Level}
use Rattle.level.specs.declared.Framed.{Framed}
use Rattle.level.specs.Weighing.{run_of}
use Rattle.level.specs.Level.{no_channel, joined_of, read_of, start_of, framed_of, finish_of, frame_of}
use Rattle.layout.specs.Layout.{most}
use Rattle.layout.specs.Weights.{used_weights}
use Rattle.layout.proofs.Stored.{mono_weights}
use Rattle.layout.proofs.Used.{used-one}
use Rattle.channels.specs.declared.Channel.{Channel}
use Rattle.channels.specs.declared.Surround.{Surround}
use Rattle.channels.specs.Channels.{begin_of, kept_of, parts, weighings, weighings_of, join_all, stored_finite, all_stored, kept_in, JointFramed, finish_joint, joint_frame_of}
use Rattle.channels.specs.Surround.{joint_of, bed_framed_of, bed_frame_of, filtered_by, filtered_of, filtered_one}
use Rattle.channels.specs.Heard.{OneIsLevel, MonoIsLevel}
use Rattle.channels.proofs.Weighings.{weighings-none}

module _ (l : Level) (s : Surround) (weight : Float) where
  -- what the level's own channel comes to, its filters after the frame being w
  abbrev read : Weighing → Read
  read w = read_of (joined_of no_channel weight w 480) l.powers

  abbrev framed : Weighing → Framed
  framed w = framed_of w (read w)

  abbrev joint : Weighing → JointFramed
  joint w = record { level = joint_of (framed w).level s; reading = (framed w).reading; finite = (framed w).finite }

  finish-one : (w : Weighing) → finish_joint (joint_of l s) (weight ∷ []) (w ∷ []) ≡ joint w
  unfolding finish_joint join_all kept_in all_stored stored_finite
  finish-one w = λ i. record {
    level = joint_of (framed w).level s;
    reading = (framed w).reading;
    finite = and-true (stored_finite w) i && (read w).finite;
  }

  one-frame : (xs : List Float) → joint_frame_of (joint_of l s) (weight ∷ []) xs ≡ joint (run_of (start_of l) (take 480 xs))
  unfolding joint_frame_of weighings parts start_of
  one-frame xs =
      let w = run_of (start_of l) (take 480 xs) in
      ap (λ (ws : List Weighing). finish_joint (joint_of l s) (weight ∷ []) (w ∷ ws)) (weighings-none s.others) ∙ finish-one w

-- ---- as the code runs it

filtered-alone : (cs : List Channel) (c : Channel) (weight : Float) (w : Weighing) → filtered_by (c ∷ cs) (weight ∷ []) (w ∷ [])
    ≡ record { joint = joined_of no_channel weight w 480; finite = stored_finite w; own = kept_of w; others = cs }
unfolding filtered_by join_all kept_in all_stored stored_finite
filtered-alone cs c weight w = λ i. record { joint = joined_of no_channel weight w 480; finite = and-true (stored_finite w) i; own = kept_of w; others = cs }

one-filtered : (s : Surround) (c : Channel) (weight : Float) (xs : List Float)
    → filtered_by (c ∷ s.others) (weight ∷ []) (weighings_of (c ∷ s.others) 1 xs)
    ≡ record { joint = joined_of no_channel weight (run_of (begin_of c) (take 480 xs)) 480; finite = stored_finite (run_of (begin_of c) (take 480 xs)); own = kept_of (run_of (begin_of c) (take 480 xs)); others = s.others }
unfolding weighings parts
one-filtered s c weight xs =
    let w = run_of (begin_of c) (take 480 xs) in
    ap (λ (ws : List Weighing). filtered_by (c ∷ s.others) (weight ∷ []) (w ∷ ws)) (weighings-none s.others)
    ∙ filtered-alone s.others c weight w

pub one-is-all : (s : Surround) (c : Channel) (xs : List Float) (w : Weighing) → length s.layout.places ≡ most → s.layout.count ≡ 1
    → w ≡ run_of (begin_of c) (take 480 xs) → filtered_one s w ≡ filtered_of s c xs
unfolding filtered_one filtered_of
one-is-all s c xs w e n h =
    ap (filtered_one s) h
    ∙ sym
    (ap (λ (ws : List Float). filtered_by (c ∷ s.others) ws (weighings_of (c ∷ s.others) (length ws) xs)) (used-one s.layout e n)
    ∙ one-filtered s c _ xs)

-- ---- of weight 1

module _ (l : Level) (s : Surround) (f : List Float) (e : length f ≡ 480) where
  finished : ℕ → JointFramed
  finished n = record {
    level = joint_of (finish_of (run_of (start_of l) f) l.powers n).level s;
    reading = (finish_of (run_of (start_of l) f) l.powers n).reading;
    finite = (finish_of (run_of (start_of l) f) l.powers n).finite;
  }

  is-level : joint_frame_of (joint_of l s) (one64 ∷ []) f ≡ record { level = joint_of (frame_of l f).level s; reading = (frame_of l f).reading; finite = (frame_of l f).finite }
  unfolding frame_of finish_of finished
  is-level =
      one-frame l s one64 f
      ∙ ap (λ (xs : List Float). joint l s one64 (run_of (start_of l) xs)) (take_all 480 f (omega (arith, e)))
      ∙ ap finished (sym e)

pub one_is_level : OneIsLevel
one_is_level l s f e =
    let p = is-level l s f e in
    (ap (λ (r : JointFramed). r.level) p, ap (λ (r : JointFramed). r.reading) p, ap (λ (r : JointFramed). r.finite) p)

pub mono_is_level : MonoIsLevel
unfolding bed_frame_of
mono_is_level l s f m e =
    ap (λ (ws : List Float). bed_framed_of s.layout (joint_frame_of (joint_of l s) ws f)) (ap used_weights m ∙ mono_weights)
    ∙ ap (bed_framed_of s.layout) (is-level l s f e)
