-- What a chain keeps beside the bed strand's level may stand in an image: fresh, on an accepted layout, after a frame whose numbers are all finite,
-- and after a reset.
use Prim.Native.Nat.{ℕ, zero, suc, ◌+◌, ◌-◌, ◌*◌, ◌≤◌, ◌<◌}
use native.Mathlib.Omega.{arith}
use mathlib.Core.Path.{◌≡◌, ap, sym, subst, ◌∙◌}
use mathlib.Core.List.{List, [], ◌∷◌, map}
use lib.Dec.{T}
use lib.ListN.{length, drop, get_or, length-map, length-append, length-drop, length-replicate, get_or-append}
use lib.Seq.{get_or-append-add, get_or-drop}
use lib.Ieee.{Float, binary64, fits}
use lib.Ieee.Fits.{add-fits, and_l, and_r}
use lib.Ieee.Scale.{finite}
use Rattle.float.specs.Valid.{Num}
use Rattle.float.specs.Arithmetic.{zero64}
use Rattle.sequence.specs.History.{laid}
use Rattle.sequence.specs.Counted.{Counted}
use Rattle.sequence.proofs.Filled.{all-blank}
use Rattle.sequence.proofs.Counted.{counted-more, counted_cons, counted-rest}
use Rattle.level.specs.declared.Weighing.{Weighing}
use Rattle.level.specs.declared.Joint.{Joint}
use Rattle.level.specs.declared.Level.{Level}
use Rattle.level.specs.Weighing.{clean_of, run_of}
use Rattle.sequence.specs.Latest.{push_of}
use Rattle.level.specs.Level.{no_channel, joined_of, read_of, stored_of}
use Rattle.level.specs.Valid as level
use Rattle.level.proofs.Finite.{all-at}
use Rattle.level.proofs.Valid.{Fit, fold-fits, zero-num, one}
use Rattle.layout.specs.declared.Layout.{Layout}
use Rattle.layout.specs.Layout as layout
use Rattle.layout.specs.Weights.{used_weights}
use Rattle.layout.specs.Valid.{LayoutValid}
use Rattle.layout.proofs.Stored.{mono_valid, stored_valid}
use Rattle.layout.proofs.Used.{used-length}
use Rattle.channels.specs.declared.Channel.{Channel}
use Rattle.channels.specs.declared.Surround.{Surround}
use Rattle.channels.specs.Channels.{resting, begin_of, kept_of, parts, weighings, weighings_of, join_all, stored_finite, all_stored, kept_in, finish_joint, joint_frame_of}
use Rattle.channels.specs.Surround.{other_channels, resting_others, resting_of, mono_surround, own_of, bed_frame_of}
use Rattle.channels.specs.Valid.{ChannelValid, SurroundValid}
use Rattle.channels.proofs.Weighings.{parts-length, in_use-length}

-- ---- at rest

rest-valid : ChannelValid resting
rest-valid = record { shelf = record { z1 = zero-num; z2 = zero-num }; high_pass = record { z1 = zero-num; z2 = zero-num }; fast = zero-num }

-- on a layout that may stand in an image
pub rests-valid : (l : Layout) → LayoutValid l → SurroundValid (resting_of l)
unfolding resting_others
rests-valid l v = record {
  layout = v;
  others = record {
    within = omega (arith, v.places.within);
    size = length-replicate other_channels resting;
    good = λ k h. subst ChannelValid (sym (all-blank resting other_channels k)) rest-valid;
    rest = λ k h. all-blank resting other_channels k;
  };
}

pub surround_fresh : SurroundValid mono_surround
surround_fresh = rests-valid layout.mono_of mono_valid

pub surround_laid : (l : Layout) → T (layout.layout_within l) → SurroundValid (resting_of (layout.stored_of l))
surround_laid l t = rests-valid (layout.stored_of l) (stored_valid l t)

pub surround_rest : (s : Surround) → SurroundValid s → SurroundValid (resting_of s.layout)
surround_rest s v = rests-valid s.layout v.layout

-- ---- a channel's numbers after a frame

run_fits : (c : Channel) (xs : List Float) → ChannelValid c → Fit (run_of (begin_of c) xs)
unfolding run_of
run_fits c xs v =
    fold-fits (begin_of c) (map clean_of xs)
    (record {
      shelf_1 = v.shelf.z1.1;
      shelf_2 = v.shelf.z2.1;
      high_pass_1 = v.high_pass.z1.1;
      high_pass_2 = v.high_pass.z2.1;
      fast = v.fast.1;
    })

kept-valid : (w : Weighing) → Fit w → T (stored_finite w) → ChannelValid (kept_of w)
unfolding stored_finite
kept-valid w h t =
    let stored : (k : ℕ) → k < 5 → T (finite (get_or (stored_of w) k _)) = λ k m. all-at (stored_of w) k t m in
    record {
      shelf = record { z1 = (stored 0 (omega arith), h.shelf_1); z2 = (stored 1 (omega arith), h.shelf_2) };
      high_pass = record { z1 = (stored 2 (omega arith), h.high_pass_1); z2 = (stored 3 (omega arith), h.high_pass_2) };
      fast = (stored 4 (omega arith), h.fast);
    }

all_valid : (cs : List Channel) (xss : List (List Float)) → ((k : ℕ) → k < length xss → ChannelValid (get_or cs k resting)) → T (all_stored (weighings cs xss))
    → (k : ℕ) → k < length (weighings cs xss) → ChannelValid (get_or (map kept_of (weighings cs xss)) k resting)
unfolding weighings all_stored
all_valid [] xss v t k h = absurd (omega arith)
all_valid (c ∷ cs) [] v t k h = absurd (omega arith)
all_valid (c ∷ cs) (xs ∷ xss) v t zero h =
    let w = run_of (begin_of c) xs in
    kept-valid w (run_fits c xs (v 0 (omega arith))) (and_l (stored_finite w) (all_stored (weighings cs xss)) t)
all_valid (c ∷ cs) (xs ∷ xss) v t (suc k) h =
    all_valid cs xss (λ j l. v (suc j) (omega arith)) (and_r (stored_finite (run_of (begin_of c) xs)) (all_stored (weighings cs xss)) t) k (omega arith)

-- ---- the sum over the channels fits

joint-fits : (j : Joint) (bs : List Float) (ws : List Weighing) → T (fits binary64 j.power) → T (fits binary64 (join_all j bs ws).power)
unfolding join_all
joint-fits j [] ws h = h
joint-fits j (b ∷ bs) [] h = h
joint-fits j (b ∷ bs) (w ∷ ws) h = joint-fits (joined_of j b w 480) bs ws (unfold joined_of in add-fits binary64 _ _)

-- ---- all channels after a frame

module _ (cs : List Channel) (n : ℕ) (f : List Float) (ok : Counted ChannelValid resting layout.most n cs) where
  abbrev run : List Weighing
  run = weighings_of cs n f

  front_length : length (map kept_of run) ≡ n
  front_length = length-map run kept_of ∙ in_use-length cs n f (omega (arith, ok.within, ok.size))

  pub kept-counted : T (all_stored (weighings_of cs n f)) → Counted ChannelValid resting layout.most n (kept_in cs (weighings_of cs n f))
  unfolding kept_in
  kept-counted t = record {
    within = ok.within;
    size =
        length-append (map kept_of run) (drop (length (map kept_of run)) cs)
        ∙ omega (arith, front_length, length-drop (length (map kept_of run)) cs, ok.size, ok.within);
    good = λ k h. subst ChannelValid (sym (get_or-append (map kept_of run) (drop (length (map kept_of run)) cs) resting k (omega (arith, front_length))))
        (all_valid cs (parts n f) (λ j l. ok.good j (omega (arith, parts-length n f))) t k (omega (arith, length-map run kept_of, front_length)));
    rest = last;
  }
    where
      last : (k : ℕ) → n ≤ k → get_or (laid (map kept_of run) cs) k resting ≡ resting
      last k h =
          let j = k - n in
          let at : k ≡ length (map kept_of run) + j = omega (arith, front_length) in
          ap (λ (i : ℕ). get_or (laid (map kept_of run) cs) i resting) at
          ∙ get_or-append-add (map kept_of run) (drop (length (map kept_of run)) cs) j resting
          ∙ get_or-drop (length (map kept_of run)) cs j resting
          ∙ ok.rest (length (map kept_of run) + j) (omega (arith, front_length))

-- ---- a frame of the bed

module _ (l : Level) (s : Surround) (f : List Float) (vl : level.Valid l) (vs : SurroundValid s) where
  abbrev m : ℕ
  m = s.layout.count - 1

  abbrev all : List Channel
  all = own_of l ∷ s.others

  counted : Counted ChannelValid resting layout.most (suc m) all
  counted = counted_cons ChannelValid resting other_channels (own_of l) m s.others (record { shelf = vl.shelf; high_pass = vl.high_pass; fast = vl.fast }) vs.others

  used : length (used_weights s.layout) ≡ suc m
  used = used-length s.layout vs.layout.places.size ∙ omega (arith, vs.layout.some, vs.layout.places.within)

  ran : T (all_stored (weighings_of all (length (used_weights s.layout)) f)) → Counted ChannelValid resting layout.most (suc m) (kept_in all (weighings_of all (length (used_weights s.layout)) f))
  ran t =
      subst (λ (k : ℕ). Counted ChannelValid resting layout.most (suc m) (kept_in all (weighings_of all k f))) (sym used)
      (kept-counted all (suc m) f counted (subst (λ (k : ℕ). T (all_stored (weighings_of all k f))) used t))

  -- whatever its length
  pub next_valid : T (bed_frame_of l s f).framed.finite → level.Valid (bed_frame_of l s f).framed.level × SurroundValid (bed_frame_of l s f).surround
  unfolding bed_frame_of joint_frame_of finish_joint read_of push_of
  next_valid t =
      let ws = weighings_of all (length (used_weights s.layout)) f in
      let j = join_all no_channel (used_weights s.layout) ws in
      let r = (read_of j l.powers).finite in
      let all-ok = ran (and_l (all_stored ws) r t) in
      let first = all-ok.good 0 (omega arith) in (
        record {
          shelf = first.shelf;
          high_pass = first.high_pass;
          fast = first.fast;
          powers =
              counted-more (Num binary64) zero64 300 l.powers.count l.powers.list (j.power ∷ []) vl.powers
              (one j.power (all-at _ 0 (and_r (all_stored ws) r t) (omega arith), joint-fits no_channel (used_weights s.layout) ws zero-num.1));
        },
        record {
          layout = vs.layout;
          others = counted-rest ChannelValid resting other_channels m (kept_in all ws) all-ok;
        },
      )

pub surround_next : (l : Level) (s : Surround) (f : List Float) → level.Valid l → SurroundValid s → length f ≡ s.layout.count * 480
    → T (bed_frame_of l s f).framed.finite → level.Valid (bed_frame_of l s f).framed.level × SurroundValid (bed_frame_of l s f).surround
surround_next l s f vl vs e t = next_valid l s f vl vs t
