-- After any frames the level reads what BS.1770 says of all that was heard: its state is a function of that, and one frame more keeps it so.
use Rattle.std.proofs.Common.{◌≡◌, ℕ, suc, ◌+◌, ◌*◌, ◌<◌, ◌≤◌, min, T, List, [], ◌∷◌, ◌++◌, map, reverse, length, take, drop, sym, refl, ap, ◌∙◌, add-zero, add-suc, suc-add, zero-add, arith, length-append}
use mathlib.Core.List.{foldl, reverse_aux, reverse_aux-append, reverse-cons}
use lib.ListN.{length-map, length-reverse, length-reverse_aux}
use lib.Ieee.{Float, binary64, of_bits, of_int, round}
use lib.Ieee.Fits.{and_l, and_r}
use lib.Ieee.Scale.{finite}
use Rattle.float.proofs.Exact.{nil_and, by_one}
use Rattle.biquad.specs.Sections.{k_shelf, k_high_pass}
use Rattle.sequence.specs.History.{latest, pushed}
use Rattle.sequence.specs.Latest.{blanks}
use Rattle.sequence.proofs.Deque.{pushed-latest}
use Rattle.sequence.proofs.Newest.{newest-of-latest}
use Rattle.sequence.proofs.Series.{series_take}
use Rattle.level.specs.declared.Weighing.{Weighing}
use Rattle.level.specs.declared.Reading.{Reading}
use Rattle.level.specs.declared.Level.{Level}
use Rattle.level.specs.Bs1770.{filtered, weighted, energy, power, powers, frames_in, mean, mean_power, smoothed, loudness, momentary, short_term, fast}
use Rattle.float.specs.Arithmetic.{◌⊘◌, zero64, whole}
use Rattle.float.specs.AllFinite.{all_finite}
use Rattle.level.specs.Weighing.{clean_of, run_of}
use Rattle.level.specs.Level.{lufs_of, fresh_of, frame_of}
use Rattle.level.specs.Deque.{Meter, new_meter, meter_run, deque_mean, joint, kept, frames_with, meter_next, meter_reading, meter_of}
use Rattle.level.specs.Heard.{Whole, heard, joined, level_after, bs1770, ReadsBs1770, EarlyFrames, FirstFrame, HearsSamples}
use Rattle.level.proofs.Deque.{mean-deque, level-deque, level-deque-reading, level-places}
use Rattle.level.proofs.Finite.{clean-one}
use Rattle.level.proofs.Filter.{state_at, shelf-rest, high_pass-rest, weighted-length, weighing_at, run_at, weighted-drop}
use Rattle.level.proofs.Squares.{mean-sum, joined-power, joined-fast}

-- ---- the Rust's level after k frames whose samples are xs, newest first

unfoldable pub meter_at : ℕ → List Float → Meter
meter_at k xs = record {
  shelf = state_at k_shelf xs;
  high_pass = state_at k_high_pass (filtered k_shelf xs);
  fast = smoothed (weighted xs);
  frames = latest 300 (reverse (powers k (weighted xs)));
}

-- what is read of the weighted samples ys, newest first
unfoldable pub reading_at : List Float → Reading
reading_at ys = record {
  power = power ys;
  momentary = lufs_of (mean_power 40 ys);
  short_term = lufs_of (mean_power 300 ys);
  fast = lufs_of (smoothed ys);
}

-- the latest n of k frames
frames-taken : (n k : ℕ) (ys : List Float) → take n (powers k ys) ≡ powers (min n k) ys
unfolding powers
frames-taken = series_take power (drop 480) powers (λ ys. refl) (λ n ys. refl)

-- the port's next level
abbrev next : Level → List Float → Level
next l f = (frame_of l f).level

fresh_at : new_meter ≡ meter_at 0 []
unfolding meter_at filtered smoothed powers latest
fresh_at = λ i. record { shelf = shelf-rest i; high_pass = high_pass-rest i; fast = zero64; frames = [] }

-- ---- one frame f more, of 480 samples

module _ (k : ℕ) (f xs : List Float) (e : length f ≡ 480) where
  -- all that was heard with it
  all : List Float
  all = reverse_aux (map clean_of f) xs

  size : length (map clean_of f) ≡ 480
  size = length-map f clean_of ∙ e

  run : meter_run (meter_at k xs) f ≡ weighing_at 480 all
  unfolding meter_at run_of weighing_at energy all
  run = run_at (map clean_of f) 0 xs ∙ ap (λ (n : ℕ). weighing_at n all) (add-zero (length (map clean_of f)) ∙ size)

  behind : drop 480 (weighted all) ≡ weighted xs
  unfolding all
  behind = ap (λ (n : ℕ). drop n (weighted all)) (sym size ∙ sym (add-zero (length (map clean_of f)))) ∙ weighted-drop (map clean_of f) 0 xs

  power_at : (joint (meter_run (meter_at k xs) f) (length f)).power ≡ power (weighted all)
  power_at =
      ap (λ (n : ℕ). (joint (meter_run (meter_at k xs) f) n).power) e
      ∙ joined-power (meter_run (meter_at k xs) f) (take 480 (weighted all)) (ap (λ (w : Weighing). w.energy) run ∙ unfold weighing_at in refl)

  fast-at : (joint (meter_run (meter_at k xs) f) (length f)).fast ≡ smoothed (weighted all)
  fast-at = joined-fast (meter_run (meter_at k xs) f) (length f) (weighted all) (ap (λ (w : Weighing). w.fast) run ∙ unfold weighing_at in refl)

  -- the deque takes the new frame's power
  frames-at : frames_with (meter_at k xs).frames (joint (meter_run (meter_at k xs) f) (length f)) ≡ latest 300 (reverse (powers (suc k) (weighted all)))
  unfolding meter_at powers
  frames-at =
      ap (pushed 300 (latest 300 (reverse (powers k (weighted xs))))) power_at
      ∙ pushed-latest 300 (reverse (powers k (weighted xs))) (power (weighted all)) (omega arith)
      ∙ ap (latest 300) (sym (reverse-cons (power (weighted all)) (powers k (weighted xs))))
      ∙ ap (λ (l : List Float). latest 300 (reverse (power (weighted all) ∷ powers k l))) (sym behind)

  pub next-at : meter_next (meter_at k xs) f ≡ meter_at (suc k) (reverse_aux (map clean_of f) xs)
  unfolding meter_next meter_at weighing_at all
  next-at = (λ i. kept (run i) (frames-at i))

  -- ---- what is read then

  all-length : length xs ≡ k * 480 → length (weighted all) ≡ suc k * 480
  unfolding all
  all-length l = weighted-length all ∙ length-reverse_aux (map clean_of f) xs ∙ omega (arith, size, l)

  frames_in_lem : length xs ≡ k * 480 → suc k ≡ frames_in (weighted all)
  frames_in_lem l = omega (arith, all-length l)

  mean-at : (n : ℕ) → n ≤ 300 → length xs ≡ k * 480 → deque_mean n (latest 300 (reverse (powers (suc k) (weighted all)))) ≡ mean_power n (weighted all)
  mean-at n h l =
      sym (mean-deque n (latest 300 (reverse (powers (suc k) (weighted all)))))
      ∙ ap mean (newest-of-latest n 300 (powers (suc k) (weighted all)) h ∙ frames-taken n (suc k) (weighted all))
      ∙ ap (λ (m : ℕ). mean (powers (min n m) (weighted all))) (frames_in_lem l)

  pub reading-at : length xs ≡ k * 480 → meter_reading (meter_at k xs) f ≡ reading_at (weighted (reverse_aux (map clean_of f) xs))
  unfolding meter_reading reading_at all lufs_of
  reading-at l =
      let m = ap (deque_mean 40) frames-at ∙ mean-at 40 (omega arith) l in
      let s = ap (deque_mean 300) frames-at ∙ mean-at 300 (omega arith) l in
      λ i. record { power = power_at i; momentary = lufs_of (m i); short_term = lufs_of (s i); fast = lufs_of (fast-at i) }

-- ---- all frames of a list, oldest first, each of 480 samples

heard-length : (fs : List (List Float)) → Whole fs → length (heard fs) ≡ length fs * 480
unfolding heard
heard-length [] w = refl
heard-length (f ∷ fs) w = length-append (map clean_of f) (heard fs) ∙ omega (arith, length-map f clean_of, w.0, heard-length fs w.1)

meters_from : (fs : List (List Float)) (k : ℕ) (xs : List Float) → Whole fs
    → foldl meter_next (meter_at k xs) fs ≡ meter_at (length fs + k) (reverse_aux (heard fs) xs)
unfolding heard
meters_from [] k xs w = ap (λ (n : ℕ). meter_at n xs) (sym (zero-add k))
meters_from (f ∷ fs) k xs w =
    ap (λ (m : Meter). foldl meter_next m fs) (next-at k f xs w.0)
    ∙ meters_from fs (suc k) (reverse_aux (map clean_of f) xs) w.1
    ∙ ap (meter_at (length fs + suc k)) (sym (reverse_aux-append (map clean_of f) (heard fs) xs))
    ∙ ap (λ (n : ℕ). meter_at n (reverse_aux (map clean_of f ++ heard fs) xs)) (add-suc (length fs) k ∙ sym (suc-add (length fs) k))

-- the port's frames are the Rust's
levels_from : (fs : List (List Float)) (l : Level) → length l.powers.list ≡ 300
    → (meter_of (foldl next l fs) ≡ foldl meter_next (meter_of l) fs) × (length (foldl next l fs).powers.list ≡ 300)
levels_from [] l e = (refl, e)
levels_from (f ∷ fs) l e =
    let h = levels_from fs (next l f) (level-places l f e) in
    (h.0 ∙ ap (λ (m : Meter). foldl meter_next m fs) (level-deque l f e), h.1)

fresh-places : length fresh_of.powers.list ≡ 300
unfolding blanks
fresh-places = refl

fresh-meter : meter_of fresh_of ≡ new_meter
fresh-meter = refl

-- the state after any frames
pub level-after : (fs : List (List Float)) → Whole fs → meter_of (level_after fs) ≡ meter_at (length fs) (reverse (heard fs))
unfolding level_after
level-after fs w =
    (levels_from fs fresh_of fresh-places).0
    ∙ ap (λ (m : Meter). foldl meter_next m fs) (fresh-meter ∙ fresh_at)
    ∙ meters_from fs 0 [] w
    ∙ ap (λ (n : ℕ). meter_at n (reverse (heard fs))) (add-zero (length fs))

places-after : (fs : List (List Float)) → length (level_after fs).powers.list ≡ 300
unfolding level_after
places-after fs = (levels_from fs fresh_of fresh-places).1

bs1770-at : (xs : List Float) → reading_at (weighted (reverse xs)) ≡ bs1770 xs
unfolding reading_at lufs_of momentary short_term fast
bs1770-at xs = refl

pub level-bs1770 : ReadsBs1770
level-bs1770 fs f w e =
    level-deque-reading (level_after fs) f (places-after fs)
    ∙ ap (λ (m : Meter). meter_reading m f) (level-after fs w)
    ∙ reading-at (length fs) f (reverse (heard fs)) e (length-reverse (heard fs) ∙ heard-length fs w)
    ∙ ap (λ (ys : List Float). reading_at (weighted ys)) (sym (reverse_aux-append (heard fs) (map clean_of f) []))
    ∙ bs1770-at (heard fs ++ map clean_of f)

-- ---- up to 40 frames both means are of all of them, and the mean of one frame is its power

early-means : (ys : List Float) → frames_in ys ≤ 40 → mean_power 40 ys ≡ mean_power 300 ys
early-means ys h =
    let all : min 40 (frames_in ys) ≡ min 300 (frames_in ys) = omega arith in
    ap (λ (m : ℕ). mean (powers m ys)) all

pub early-frames : EarlyFrames
unfolding momentary short_term
early-frames fs f w e h =
    let xs = heard fs ++ map clean_of f in
    let n = weighted-length (reverse xs) ∙ length-reverse xs ∙ length-append (heard fs) (map clean_of f) in
    let r = level-bs1770 fs f w e in
    ap (λ (x : Reading). x.momentary) r
    ∙ ap (λ (p : Float). record { 0 = loudness p }) (early-means (weighted (reverse xs)) (omega (arith, n, heard-length fs w, length-map f clean_of, e, h)))
    ∙ ap (λ (x : Reading). x.short_term) (sym r)

one-frame : (n : ℕ) (ys : List Float) → 0 < n → length ys ≡ 480 → mean_power n ys ≡ power ys
unfolding powers mean of_bits of_int round
one-frame n ys p e =
    let one : min n (frames_in ys) ≡ 1 = omega (arith, e) in
    ap (λ (m : ℕ). mean (powers m ys)) one
    ∙ ap (λ (x : Float). x ⊘ whole 1) (nil_and binary64 (power ys) (mean-sum (take 480 ys)))
    ∙ by_one binary64 (power ys) (mean-sum (take 480 ys)).1

pub first_frame_lem : FirstFrame
unfolding level_after heard lufs_of momentary short_term
first_frame_lem f e =
    let ys = weighted (reverse (map clean_of f)) in
    let size = weighted-length (reverse (map clean_of f)) ∙ length-reverse (map clean_of f) ∙ length-map f clean_of ∙ e in
    let r = level-bs1770 [] f tt e in
    let own = ap (λ (x : Reading). lufs_of x.power) (sym r) in (
      ap (λ (x : Reading). x.momentary) r ∙ ap lufs_of (one-frame 40 ys (omega arith) size) ∙ own,
      ap (λ (x : Reading). x.short_term) r ∙ ap lufs_of (one-frame 300 ys (omega arith) size) ∙ own,
    )

-- ---- where every sample is finite, what is heard are the samples themselves

pub clean-finite : (xs : List Float) → T (all_finite xs) → map clean_of xs ≡ xs
unfolding all_finite
clean-finite [] t = refl
clean-finite (x ∷ xs) t = λ i. clean-one x (and_l (finite x) (all_finite xs) t) i ∷ clean-finite xs (and_r (finite x) (all_finite xs) t) i

pub level-samples : HearsSamples
unfolding heard joined
level-samples [] s = refl
level-samples (f ∷ fs) s = λ i. clean-finite f s.0 i ++ level-samples fs s.1 i
