-- The flag of a level of one channel against the lists: it says that what is stored and the powers that go to the logarithm are finite, and holds where
-- they are.
use native.Mathlib.Omega.{arith}
use mathlib.Core.Path.{◌≡◌, subst}
use mathlib.Core.Bool.{Bool, true, false, cond}
use mathlib.Core.List.{List, [], ◌∷◌, ◌++◌}
use lib.Dec.{T}
use lib.ListN.{length}
use lib.Ieee.{Float, binary64, lt, fits}
use lib.Ieee.Fits.{add-fits, div-fits, and_i, and_r}
use lib.Ieee.Scale.{finite}
use Rattle.float.specs.Choice.{max_of}
use Rattle.level.specs.Bs1770.{mean, loudness}
use Rattle.float.specs.Arithmetic.{zero64}
use Rattle.float.specs.AllFinite.{all_finite}
use Rattle.level.specs.declared.Level.{Level}
use Rattle.level.specs.Weighing.{run_of}
use Rattle.level.specs.Deque.{joint}
use Rattle.sequence.specs.Latest.{push_of}
use Rattle.level.specs.Level as level
use Rattle.level.specs.Valid.{Valid}
use Rattle.level.specs.declared.Weighing.{Weighing}
use Rattle.runaway.specs.Runaway.{above_zero, of_loudness, key_fast}
use Rattle.chain.specs.Numbers.{of_level}
use Rattle.level.proofs.Finite.{Alls, none, ◌more◌, ◌and◌, all-finite, finite-all, only, parts, new-finite}
use Rattle.level.proofs.Readings.{loudness-finite}
use Rattle.level.proofs.Valid.{frame-valid}
use Rattle.rules.proofs.AllFinite.{zero-finite, of-level}

-- ---- a power, as the flags have it: 0 in place of one that isn't above 0

-- a number that is handed on, or 0 in its place
pub handed-told : (b : Bool) (x : Float) → T (finite (cond b x zero64)) → Alls (cond b (x ∷ []) [])
handed-told true x h = h more none
handed-told false x h = none

pub handed-tells : (b : Bool) (x : Float) → Alls (cond b (x ∷ []) []) → T (finite (cond b x zero64))
handed-tells true x (h more none) = h
handed-tells false x h = zero-finite

pub above-told : (p : Float) → T (finite (max_of zero64 p)) → Alls (above_zero p)
unfolding max_of
above-told p h = handed-told (lt zero64 p) p h

pub above-tells : (p : Float) → Alls (above_zero p) → T (finite (max_of zero64 p))
unfolding max_of
above-tells p h = handed-tells (lt zero64 p) p h

above-finite : (p : Float) → Alls (above_zero p) → lt zero64 p ≡ true → T (finite p)
above-finite p h e = only (subst (λ (b : Bool). Alls (cond b (p ∷ []) [])) e h)

-- ---- the numbers of a frame

module _ (power a b f : Float) where
  abbrev handed : List Float
  handed = above_zero a ++ above_zero b ++ above_zero f

  pub numbers-told : (x y z : Float) → Alls (power ∷ max_of zero64 a ∷ max_of zero64 b ∷ max_of zero64 f ∷ x ∷ y ∷ z ∷ []) → Alls handed
  numbers-told x y z (p more ha more hb more hf more t) = above-told a ha and above-told b hb and above-told f hf

  pub numbers_tell : T (fits binary64 a) → T (fits binary64 b) → T (fits binary64 f) → T (finite power) → Alls handed
      → Alls (power ∷ max_of zero64 a ∷ max_of zero64 b ∷ max_of zero64 f ∷ loudness a ∷ loudness b ∷ loudness f ∷ [])
  numbers_tell fa fb ff p t =
      let two = parts (above_zero a ++ above_zero b) t in
      let one = parts (above_zero a) two.0 in
      p more above-tells a one.0 more above-tells b one.1 more above-tells f two.1
      more loudness-finite a fa (above-finite a one.0) more loudness-finite b fb (above-finite b one.1) more loudness-finite f ff (above-finite f two.1) more none

-- ---- a frame

-- of the level l after it: what the strand stores and what is stored beside it, in the bed's other channels, and what goes to the logarithm
pub record Lists (l : Level) (beside : List Float) (fast : Float) : Type 0 where
  pub stored : Alls (of_level l)
  pub others : Alls beside
  pub logarithm : Alls (of_loudness l fast)

module _ (l : Level) (xs : List Float) where
  abbrev w : Weighing
  w = run_of (level.start_of l) xs

  abbrev after : Level
  after = (level.frame_of l xs).level

  abbrev numbers : List Float
  numbers =
      let j = joint w (length xs) in
      let m = level.means_of (push_of l.powers j.power) in
      level.numbers_of j m (level.reading_of j m)

  handed-on : T (level.frame_of l xs).finite → Alls (of_loudness after (key_fast after))
  unfolding level.frame_of level.finish_of level.read_of level.means_of level.joined_of
  handed-on t = numbers-told _ _ _ _ _ _ _ (finite-all numbers (and_r (all_finite (level.stored_of w)) (all_finite numbers) t))

  pub level-told : Valid l → T (level.frame_of l xs).finite → Lists after [] (key_fast after)
  level-told v t = record { stored = of-level after (frame-valid l xs v t); others = none; logarithm = handed-on t }

  pub level-tells : length l.powers.list ≡ 300 → Lists after [] (key_fast after) → T (level.frame_of l xs).finite
  unfolding level.frame_of level.finish_of level.read_of level.means_of level.joined_of level.lufs_of push_of mean
  level-tells n a =
      let stored = parts (level.stored_of w) a.stored in
      and_i (all_finite (level.stored_of w)) (all_finite numbers) (all-finite stored.0)
      (all-finite (numbers_tell _ _ _ _ (div-fits binary64 _ _) (div-fits binary64 _ _) (add-fits binary64 _ _) (only (new-finite l.powers.count l.powers.list _ (omega (arith, n)) stored.1)) a.logarithm))
