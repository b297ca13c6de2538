-- The same of the bed's level, with its channels: the flag says that what every channel stores and the powers that go to the logarithm are finite, and
-- holds where they are.
use native.Mathlib.Omega.{arith}
use mathlib.Core.Path.{◌≡◌, refl, ap, sym, subst, ◌∙◌}
use mathlib.Core.List.{List, [], ◌∷◌, ◌++◌, map}
use lib.Dec.{T}
use lib.ListN.{length, get_or, take, drop}
use lib.Ieee.{Float, binary64, fits}
use lib.Ieee.Fits.{add-fits, div-fits, and_i, and_r}
use Rattle.float.specs.Arithmetic.{◌⊕◌, ◌⊗◌, zero64}
use Rattle.float.specs.AllFinite.{all_finite}
use Rattle.level.specs.declared.Weighing.{Weighing}
use Rattle.level.specs.declared.Joint.{Joint}
use Rattle.level.specs.declared.Level.{Level}
use Rattle.level.specs.Weighing.{run_of}
use Rattle.level.specs.Bs1770.{mean}
use Rattle.sequence.specs.Latest.{push_of}
use Rattle.level.specs.Level as level
use Rattle.level.specs.Valid.{Valid}
use Rattle.level.proofs.Finite.{Alls, ◌and◌, all-finite, finite-all, only, parts, new-finite}
use Rattle.level.proofs.Valid.{zero-num}
use Rattle.layout.specs.Weights.{used_weights}
use Rattle.channels.specs.declared.Channel.{Channel}
use Rattle.channels.specs.declared.Surround.{Surround}
use Rattle.channels.specs.declared.BedFramed.{BedFramed}
use Rattle.channels.specs.Channels as channels
use Rattle.channels.specs.Surround.{own_of, bed_frame_of}
use Rattle.channels.specs.Valid.{SurroundValid}
use Rattle.channels.proofs.Valid.{next_valid}
use Rattle.chain.specs.Numbers.{of_channel, of_channels}
use Rattle.rules.proofs.AllFinite.{of-level, of-surround}
use Rattle.runaway.specs.Runaway.{of_loudness, joint_fast, bed_fast}
use Rattle.runaway.proofs.LevelTold.{Lists, numbers-told, numbers_tell}

-- ---- the channels after a frame

-- those in use have the fast powers that were added
fast-is : (j : Joint) (bs : List Float) (cs : List Channel) (xs : List Float)
    → (channels.join_all j bs (channels.weighings_of cs (length bs) xs)).fast ≡ joint_fast j.fast bs (channels.kept_in cs (channels.weighings_of cs (length bs) xs))
unfolding channels.join_all channels.parts channels.weighings channels.kept_in joint_fast level.joined_of
fast-is j [] cs xs = refl
fast-is j (b ∷ bs) [] xs = refl
fast-is j (b ∷ bs) (c ∷ cs) xs = fast-is (level.joined_of j b (run_of (channels.begin_of c) (take 480 xs)) 480) bs cs (drop 480 xs)

-- a sum that fits
fast-fits : (sum : Float) (bs : List Float) (cs : List Channel) → T (fits binary64 sum) → T (fits binary64 (joint_fast sum bs cs))
unfolding joint_fast
fast-fits sum [] cs h = h
fast-fits sum (b ∷ bs) [] h = h
fast-fits sum (b ∷ bs) (c ∷ cs) h = fast-fits (sum ⊕ b ⊗ c.fast) bs cs (add-fits binary64 sum (b ⊗ c.fast))

-- what the channels that were run store
stored-finite : (cs : List Channel) (ws : List Weighing) → Alls (of_channels (channels.kept_in cs ws)) → T (channels.all_stored ws)
unfolding channels.kept_in channels.all_stored
stored-finite cs ws h = go ws (drop (length (map channels.kept_of ws)) cs) h
  where
    go : (ws : List Weighing) (rest : List Channel) → Alls (of_channels (map channels.kept_of ws ++ rest)) → T (channels.all_stored ws)
    go [] rest h = tt
    go (w ∷ ws) rest h =
        let p = parts (level.stored_of w) h in
        and_i (channels.stored_finite w) (channels.all_stored ws) (unfold channels.stored_finite in all-finite p.0) (go ws rest p.1)

-- the first, and the others behind it
first-others : (c : Channel) (cs : List Channel) (ws : List Weighing)
    → get_or (channels.kept_in (c ∷ cs) ws) 0 channels.resting ∷ drop 1 (channels.kept_in (c ∷ cs) ws) ≡ channels.kept_in (c ∷ cs) ws
unfolding channels.kept_in
first-others c cs [] = refl
first-others c cs (w ∷ ws) = refl

-- ---- a frame

module _ (l : Level) (s : Surround) (xs : List Float) where
  abbrev weights : List Float
  weights = used_weights s.layout

  abbrev run : List Weighing
  run = channels.weighings_of (own_of l ∷ s.others) (length weights) xs

  abbrev j : Joint
  j = channels.join_all level.no_channel weights run

  abbrev f : BedFramed
  f = bed_frame_of l s xs

  abbrev after : Level
  after = f.framed.level

  abbrev numbers : List Float
  numbers =
      let m = level.means_of (push_of l.powers j.power) in
      level.numbers_of j m (level.reading_of j m)

  all_after : own_of after ∷ f.surround.others ≡ channels.kept_in (own_of l ∷ s.others) run
  unfolding bed_frame_of channels.joint_frame_of channels.finish_joint
  all_after = first-others (own_of l) s.others run

  fast-after : j.fast ≡ bed_fast after f.surround
  unfolding bed_frame_of channels.joint_frame_of channels.finish_joint
  fast-after = fast-is level.no_channel weights (own_of l ∷ s.others) xs ∙ ap (joint_fast zero64 weights) (sym all_after)

  handed-on : T f.framed.finite → Alls (of_loudness after j.fast)
  unfolding bed_frame_of channels.joint_frame_of channels.finish_joint level.read_of level.means_of
  handed-on t = numbers-told _ _ _ _ _ _ _ (finite-all numbers (and_r (channels.all_stored run) (all_finite numbers) t))

  pub bed-told : Valid l → SurroundValid s → T f.framed.finite → Lists after (of_channels f.surround.others) (bed_fast after f.surround)
  bed-told vl vs t =
      let v = next_valid l s xs vl vs t in
      record {
        stored = of-level after v.0;
        others = of-surround f.surround v.1;
        logarithm = subst (λ (x : Float). Alls (of_loudness after x)) fast-after (handed-on t);
      }

  all-stored : Alls (of_channel (own_of after)) → Alls (of_channels f.surround.others) → T (channels.all_stored run)
  all-stored first others = stored-finite (own_of l ∷ s.others) run (subst (λ (cs : List Channel). Alls (of_channels cs)) all_after (first and others))

  joint-fits : T (fits binary64 j.fast)
  joint-fits = subst (λ (x : Float). T (fits binary64 x)) (sym fast-after) (fast-fits zero64 (used_weights f.surround.layout) (own_of after ∷ f.surround.others) zero-num.1)

  pub bed-tells : length l.powers.list ≡ 300 → Lists after (of_channels f.surround.others) (bed_fast after f.surround) → T f.framed.finite
  unfolding bed_frame_of channels.joint_frame_of channels.finish_joint level.read_of level.means_of level.lufs_of push_of mean
  bed-tells n a =
      let stored = parts (of_channel (own_of after)) a.stored in
      let power = only (new-finite l.powers.count l.powers.list _ (omega (arith, n)) stored.1) in
      let handed = subst (λ (x : Float). Alls (of_loudness after x)) (sym fast-after) a.logarithm in
      and_i (channels.all_stored run) (all_finite numbers) (all-stored stored.0 a.others)
      (all-finite (numbers_tell _ _ _ _ (div-fits binary64 _ _) (div-fits binary64 _ _) joint-fits power handed))
