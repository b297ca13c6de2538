-- The detector's flag against the lists: what it says of the powers, the variance, the lags' products and the pitch outputs, and that it holds where
-- they and the stored numbers are finite. The lags' flag is that of their products, by induction on the lags.
use Rattle.sequence.specs.Latest.{keep_of, push_of}
use Rattle.std.specs.Prelude.{option_to_list}
use Prim.Native.Nat.{ℕ, zero, suc, ◌+◌}
use native.Mathlib.Omega.{arith}
use mathlib.Core.Path.{◌≡◌, refl, subst, sym, ◌∙◌}
use mathlib.Core.Bool.{Bool, true, false, cond, ◌&&◌, and-true, and_assoc}
use mathlib.Core.List.{List, [], ◌∷◌, ◌++◌}
use lib.Dec.{T, ltb}
use lib.ListN.{length, take, drop}
use lib.Ieee.{Float, lt}
use lib.Ieee.Fits.{and_i, and_l, and_r}
use lib.Ieee.Scale.{finite}
use Rattle.root.specs.Root.{sqrt_of}
use Rattle.sequence.specs.History.{latest, held}
use Rattle.float.specs.Arithmetic.{◌⊗◌, ◌⊘◌}
use Rattle.float.specs.AllFinite.{all_finite}
use Rattle.detector.specs.declared.voicing.Ends.{Ends}
use Rattle.detector.specs.declared.filters.Bands.{Bands}
use Rattle.detector.specs.declared.floor.Floor.{Floor}
use Rattle.detector.specs.declared.FeatureDetector.{FeatureDetector}
use Rattle.detector.specs.declared.Heard.{Heard}
use Rattle.detector.specs.Filters.{begun, states_of, run_of, outputs_of, eighths, kept_of}
use Rattle.detector.specs.Floor.{next_of, stored_of, floor_of}
use Rattle.detector.specs.Modulation.{modulation_of}
use Rattle.detector.specs.Voicing.{tiny, energy_of, correlation_of, energies_at, with_ratio, without, turn_of, lag_of, lags_of, silent, ends_of, start_of, uneven_of, window_of, voicing_of}
use Rattle.detector.specs.Detector.{powers_of, numbers_of, finish_of, frame_of}
use Rattle.detector.specs.Valid.{Valid}
use Rattle.detector.proofs.Decimation.{kept-length}
use Rattle.detector.proofs.Finished.{samples-all}
use Rattle.chain.specs.Numbers as stored
use Rattle.runaway.specs.Runaway.{of_bands, head_tails, of_window, of_voicing, of_detector}
use Rattle.level.proofs.Finite.{Alls, none, ◌more◌, ◌and◌, all-finite, finite-all, only, parts, new-finite}
use Rattle.runaway.proofs.LevelTold.{above-told, above-tells}

-- ---- the lags

module _ (e : Ends) (sum : Float) where
  abbrev product : Float
  product = e.head ⊗ e.tail

  abbrev turned : Bool → Ends
  turned b = cond b (without e (e.finite && finite product)) (with_ratio e (e.finite && finite product) (sum ⊘ sqrt_of product))

  turn-head : (turn_of e sum).head ≡ e.head
  unfolding turn_of
  turn-head = go (lt (sqrt_of product) tiny)
    where
      go : (b : Bool) → (turned b).head ≡ e.head
      go true = refl
      go false = refl

  turn-tail : (turn_of e sum).tail ≡ e.tail
  unfolding turn_of
  turn-tail = go (lt (sqrt_of product) tiny)
    where
      go : (b : Bool) → (turned b).tail ≡ e.tail
      go true = refl
      go false = refl

  turn-finite : (turn_of e sum).finite ≡ e.finite && finite product
  unfolding turn_of
  turn-finite = go (lt (sqrt_of product) tiny)
    where
      go : (b : Bool) → (turned b).finite ≡ e.finite && finite product
      go true = refl
      go false = refl

module _ (x : List Float) where
  lags_are : (n lag : ℕ) (e : Ends) → (lags_of x n lag e).finite ≡ e.finite && all_finite (head_tails x n lag e.head e.tail)
  unfolding lags_of lag_of head_tails all_finite
  lags_are zero lag e = sym (and-true e.finite)
  lags_are (suc n) lag e =
      let g = energies_at x lag e in
      let r = correlation_of x lag in
      lags_are n (lag + 1) (turn_of g r)
      ∙ (λ i. turn-finite g r i && all_finite (head_tails x n (lag + 1) (turn-head g r i) (turn-tail g r i)))
      ∙ and_assoc e.finite (finite (g.head ⊗ g.tail)) (all_finite (head_tails x n (lag + 1) g.head g.tail))

  window_are : (window_of x).finite ≡ all_finite (of_window x)
  unfolding window_of
  window_are = go (uneven_of (energy_of (take 120 x)) (energy_of (drop 120 x)))
    where
      go : (b : Bool) → (cond b silent (ends_of (lags_of x 61 15 (start_of x)))).finite ≡ all_finite (cond b [] (head_tails x 61 15 (energy_of (take 225 x)) (energy_of (drop 15 x))))
      go true = unfold all_finite in refl
      go false = unfold start_of in lags_are 61 15 (start_of x)

voicing_are : (xs : List Float) → (voicing_of xs).finite ≡ all_finite (of_voicing xs)
unfolding voicing_of of_voicing
voicing_are xs = go (ltb (length xs) 240)
  where
    go : (b : Bool) → (cond b silent (window_of (latest 240 xs))).finite ≡ all_finite (cond b [] (of_window (latest 240 xs)))
    go true = unfold all_finite in refl
    go false = window_are (latest 240 xs)

-- ---- what the floor stores

module _ (f : Floor) (s m : Float) where
  floor-tells : length f.minima.list ≡ 8
      → Alls (option_to_list (stored_of f s m).smoothed) → Alls ((stored_of f s m).window_min ∷ []) → Alls (stored_of f s m).minima.list
      → T (finite s) × T (finite m)
  unfolding stored_of push_of
  floor-tells n = go (ltb f.window_frames 24)
    where
      go : (b : Bool) → Alls (option_to_list (next_of b f s m).smoothed) → Alls ((next_of b f s m).window_min ∷ []) → Alls (next_of b f s m).minima.list → T (finite s) × T (finite m)
      go true a w l = (only a, only w)
      go false a w l = (only a, only (new-finite f.minima.count f.minima.list (m ∷ []) (omega (arith, n)) l))

-- ---- a frame, from the filters' sums s and the pitch outputs ys on

pub record Lists (s : Bands) (ys : List Float) (after : FeatureDetector) : Type 0 where
  pub powers : Alls (of_bands s)
  pub roots : Alls (of_detector after)
  pub narrowed : Alls (eighths 60 ys)

module _ (d : FeatureDetector) (s : Bands) (ys : List Float) where
  abbrev after : FeatureDetector
  after = (finish_of d s ys).detector

  abbrev numbers : List Float
  numbers = numbers_of (powers_of s) (floor_of d.floor (powers_of s).e) (modulation_of d.history (powers_of s).e)

  abbrev voiced : List Float
  voiced = held (keep_of d.decimated (kept_of ys)).count (keep_of d.decimated (kept_of ys)).list

  abbrev front : Bool
  front = all_finite (states_of s.filters) && all_finite numbers

  abbrev outputs : Bool
  outputs = all_finite (eighths 60 ys) && all_finite (kept_of ys)

  finish-told : T (finish_of d s ys).finite → Lists s ys after
  unfolding finish_of powers_of modulation_of
  finish-told t =
      let x = and_l front (outputs && (voicing_of voiced).finite) t in
      let y = and_r front (outputs && (voicing_of voiced).finite) t in
      go (finite-all numbers (and_r (all_finite (states_of s.filters)) (all_finite numbers) x))
      (finite-all (of_voicing voiced) (subst T (voicing_are voiced) (and_r outputs (voicing_of voiced).finite y)))
      (finite-all (eighths 60 ys) (and_l (all_finite (eighths 60 ys)) (all_finite (kept_of ys)) (and_l outputs (voicing_of voiced).finite y)))
    where
      go : Alls numbers → Alls (of_voicing voiced) → Alls (eighths 60 ys) → Lists s ys after
      go (a more b more c more p more q more v more none) r h = record { powers = above-told _ p and above-told _ q; roots = v more r; narrowed = h }

  finish-tells : length d.decimated.list ≡ 240 → length d.floor.minima.list ≡ 8 → length d.history.list ≡ 40
      → Alls (stored.of_detector after) → Lists s ys after → T (finish_of d s ys).finite
  unfolding finish_of powers_of modulation_of push_of keep_of floor_of
  finish-tells n k m a t =
      let f = floor_of d.floor (powers_of s).e in
      let states = states_of s.filters in
      let decimated = (keep_of d.decimated (kept_of ys)).list in
      let smooth = option_to_list f.next.smoothed in
      let least = f.next.window_min ∷ [] in
      let minima = f.next.minima.list in
      let five = parts (states ++ decimated ++ smooth ++ least ++ minima) a in
      let four = parts (states ++ decimated ++ smooth ++ least) five.0 in
      let three = parts (states ++ decimated ++ smooth) four.0 in
      let two = parts (states ++ decimated) three.0 in
      let first = parts states two.0 in
      let floored = floor-tells d.floor f.smoothed f.least k two.1 three.1 four.1 in
      let e = only (new-finite d.history.count d.history.list _ (omega (arith, m)) five.1) in
      let kept = new-finite d.decimated.count d.decimated.list (kept_of ys) (omega (arith, n, kept-length ys)) first.1 in
      let powers = parts _ t.powers in
      let roots = both t.roots in
      and_i front (outputs && (voicing_of voiced).finite)
      (and_i (all_finite states) (all_finite numbers) (all-finite first.0)
      (all-finite (floored.0 more floored.1 more e more above-tells _ powers.0 more above-tells _ powers.1 more roots.0 more none)))
      (and_i outputs (voicing_of voiced).finite
      (and_i (all_finite (eighths 60 ys)) (all_finite (kept_of ys)) (all-finite t.narrowed) (all-finite kept))
      (subst T (sym (voicing_are voiced)) (all-finite roots.1)))
    where
      both : {x : Float} {xs : List Float} → Alls (x ∷ xs) → T (finite x) × Alls xs
      both (h more hs) = (h, hs)

-- ---- a frame of 480 samples

module _ (d : FeatureDetector) (xs : List Float) (n : length xs ≡ 480) where
  abbrev sums : Bands
  sums = run_of (begun d.filters) xs

  abbrev pitches : List Float
  pitches = outputs_of (begun d.filters) xs

  heard : finish_of d sums pitches ≡ frame_of d xs
  unfolding frame_of
  heard = λ i. finish_of d (run_of (begun d.filters) (sym (samples-all xs n) i)) (outputs_of (begun d.filters) (sym (samples-all xs n) i))

  pub detector-told : T (frame_of d xs).finite → Lists sums pitches (frame_of d xs).detector
  detector-told t = subst (λ (h : Heard). T h.finite → Lists sums pitches h.detector) heard (finish-told d sums pitches) t

  pub detector-tells : Valid d → Alls (stored.of_detector (frame_of d xs).detector) → Lists sums pitches (frame_of d xs).detector → T (frame_of d xs).finite
  detector-tells v =
      subst (λ (h : Heard). Alls (stored.of_detector h.detector) → Lists sums pitches h.detector → T h.finite) heard
      (finish-tells d sums pitches v.decimated.size v.floor.minima.size v.history.size)
