-- After any frames the bed's level reads what BS.1770 says of all that its channels heard: its state is a function of that, and one frame more keeps it so.
use Prim.Native.Nat.{ℕ, zero, suc, ◌+◌, ◌*◌, ◌≤◌}
use native.Mathlib.Nat.{add-suc, suc-add, add-zero, zero-add}
use native.Mathlib.Omega.{arith}
use mathlib.Core.Path.{◌≡◌, refl, ap, sym, subst, ◌∙◌}
use mathlib.Core.List.{List, [], ◌∷◌, map, foldl, reverse, reverse_aux, reverse-cons}
use lib.Dec.{T}
use lib.ListN.{take, take-append-drop, length, drop, replicate, length-map, length-replicate}
use lib.Seq.{take_all}
use lib.Ieee.{Float}
use lib.Ieee.Fits.{and_l, and_r}
use Rattle.float.specs.AllFinite.{all_finite}
use Rattle.level.proofs.Finite.{all_and}
use Rattle.level.proofs.Bs1770.{clean-finite}
use Rattle.biquad.specs.Sections.{k_shelf, k_high_pass}
use Rattle.sequence.specs.History.{latest, pushed}
use Rattle.sequence.proofs.Deque.{pushed-latest}
use Rattle.sequence.proofs.Newest.{newest-of-latest}
use Rattle.level.specs.declared.Joint.{Joint}
use Rattle.level.specs.declared.Reading.{Reading}
use Rattle.float.specs.Arithmetic.{zero64}
use Rattle.level.specs.Bs1770.{filtered, weighted, energy, mean, smoothed, loudness}
use Rattle.level.specs.Weighing.{clean_of, run_of}
use Rattle.sequence.specs.Latest.{blanks}
use Rattle.level.specs.Level.{no_channel, lufs_of}
use Rattle.level.specs.Deque.{deque_mean, frames_with}
use Rattle.level.proofs.Deque.{mean-deque}
use Rattle.level.proofs.Filter.{state_at, shelf-rest, high_pass-rest, weighted-length, weighing_at, run_at, weighted-drop}
use Rattle.channels.specs.declared.Channel.{Channel}
use Rattle.channels.specs.Channels.{JointLevel, resting, begin_of, kept_of, parts, weighings, join_all, joint_frame_of}
use Rattle.channels.specs.Bs1770.{Source, joint_power, before, joint_powers, mean_joint, joint_fast, power, momentary, short_term, fast, bs1770}
use Rattle.channels.specs.Heard.{fresh_joint, Whole, each, cleaned, heard, sources, joint_after, ReadsBs1770, HearsSamples}
use Rattle.channels.specs.Deque.{Meters, new_meters, jointly, meters_next, meters_reading, meters_of}
use Rattle.channels.proofs.Weighings.{parts-length}
use Rattle.channels.proofs.Deque.{Full, parts-full, full-join, joint-deque, joint-reading, joint-places, joint-powers}
use Rattle.channels.proofs.Added.{weighted_at, join-at}
use Rattle.channels.proofs.Frames.{Long, means-loudness}
use Rattle.channels.proofs.Behind.{behind, behind-none, behind-each, behind-length, Frames, behind-frames, none-frames, behind-sources}

-- ---- a channel that has heard xs, newest first

unfoldable pub channel_at : List Float → Channel
channel_at xs = record { shelf = state_at k_shelf xs; high_pass = state_at k_high_pass (filtered k_shelf xs); fast = smoothed (weighted xs) }

rest_at : resting ≡ channel_at []
unfolding channel_at filtered smoothed
rest_at = λ i. record { shelf = shelf-rest i; high_pass = high_pass-rest i; fast = zero64 }

kept_at : (xs : List Float) → kept_of (weighing_at 480 xs) ≡ channel_at xs
unfolding weighing_at channel_at
kept_at xs = refl

-- one frame f more
module _ (f xs : List Float) (e : length f ≡ 480) where
  size : length (map clean_of f) ≡ 480
  size = length-map f clean_of ∙ e

  run-channel : run_of (begin_of (channel_at xs)) f ≡ weighing_at 480 (reverse_aux (map clean_of f) xs)
  unfolding channel_at run_of weighing_at energy
  run-channel = run_at (map clean_of f) 0 xs ∙ ap (λ (n : ℕ). weighing_at n (reverse_aux (map clean_of f) xs)) (add-zero (length (map clean_of f)) ∙ size)

  channel-drop : drop 480 (weighted (reverse_aux (map clean_of f) xs)) ≡ weighted xs
  channel-drop =
      ap (λ (n : ℕ). drop n (weighted (reverse_aux (map clean_of f) xs))) (sym size ∙ sym (add-zero (length (map clean_of f))))
      ∙ weighted-drop (map clean_of f) 0 xs

-- ---- all channels, which have heard hs

-- what they hear with the channels xs of a frame
abbrev more : List (List Float) → List (List Float) → List (List Float)
more hs xs = behind hs (map (map clean_of) xs)

runs-at : (hs xs : List (List Float)) → Full xs → weighings (map channel_at hs) xs ≡ map (weighing_at 480) (more hs xs)
unfolding weighings behind
runs-at [] xs f = refl
runs-at (h ∷ hs) [] f = refl
runs-at (h ∷ hs) (x ∷ xs) f = λ i. run-channel x h f.0 i ∷ runs-at hs xs f.1 i

channels-at : (hs : List (List Float)) → map kept_of (map (weighing_at 480) hs) ≡ map channel_at hs
channels-at [] = refl
channels-at (h ∷ hs) = λ i. kept_at h i ∷ channels-at hs i

before_at : (ws : List Float) (hs xs : List (List Float)) → Full xs → length hs ≡ length xs → map before (weighted_at ws (more hs xs)) ≡ weighted_at ws hs
unfolding sources behind
before_at [] hs xs f e = refl
before_at (b ∷ bs) [] xs f e = refl
before_at (b ∷ bs) (h ∷ hs) [] f e = absurd (omega (arith, e))
before_at (b ∷ bs) (h ∷ hs) (x ∷ xs) f e = λ i. record { weight = b; samples = channel-drop x h f.0 i } ∷ before_at bs hs xs f.1 (omega (arith, e)) i

long_at : (k : ℕ) (ws : List Float) (hs : List (List Float)) → Frames k hs → Long k (weighted_at ws hs)
unfolding sources
long_at k [] hs l = tt
long_at k (b ∷ bs) [] l = tt
long_at k (b ∷ bs) (h ∷ hs) l = (weighted-length h ∙ l.0, long_at k bs hs l.1)

-- ---- the Rust's level after k frames

unfoldable pub meters_at : List Float → ℕ → List (List Float) → Meters
meters_at ws k hs = record { channels = map channel_at hs; frames = latest 300 (reverse (joint_powers k (weighted_at ws hs))) }

-- what is read of the weighted samples, newest first
unfoldable pub reading_at : List Source → Reading
reading_at cs = record {
  power = joint_power cs;
  momentary = lufs_of (mean_joint 40 cs);
  short_term = lufs_of (mean_joint 300 cs);
  fast = lufs_of (joint_fast cs);
}

module _ (ws : List Float) (k : ℕ) (hs xs : List (List Float)) (f : Full xs) (e : length hs ≡ length xs) where
  abbrev all : List Source
  all = weighted_at ws (more hs xs)

  joint-at : jointly ws (meters_at ws k hs) xs ≡ record { power = joint_power all; fast = joint_fast all }
  unfolding meters_at joint_power joint_fast
  joint-at = sym (full-join no_channel ws (map channel_at hs) xs f) ∙ ap (join_all no_channel ws) (runs-at hs xs f) ∙ join-at no_channel ws (more hs xs)

  -- the deque takes the new frame's power
  frames-at : frames_with (meters_at ws k hs).frames (jointly ws (meters_at ws k hs) xs) ≡ latest 300 (reverse (joint_powers (suc k) all))
  unfolding meters_at joint_powers
  frames-at =
      ap (λ (j : Joint). pushed 300 (latest 300 (reverse (joint_powers k (weighted_at ws hs)))) j.power) joint-at
      ∙ pushed-latest 300 (reverse (joint_powers k (weighted_at ws hs))) (joint_power all) (omega arith)
      ∙ ap (latest 300) (sym (reverse-cons (joint_power all) (joint_powers k (weighted_at ws hs))))
      ∙ ap (λ (cs : List Source). latest 300 (reverse (joint_power all ∷ joint_powers k cs))) (sym (before_at ws hs xs f e))

  pub next-at : meters_next ws (meters_at ws k hs) xs ≡ meters_at ws (suc k) (more hs xs)
  unfolding meters_next meters_at
  next-at = λ i. record { channels = (ap (map kept_of) (runs-at hs xs f) ∙ channels-at (more hs xs)) i; frames = frames-at i }

  -- ---- what is read then

  mean-at : (n : ℕ) → n ≤ 300 → Frames k hs → loudness (deque_mean n (latest 300 (reverse (joint_powers (suc k) all)))) ≡ loudness (mean_joint n all)
  mean-at n h l =
      ap loudness (sym (mean-deque n (latest 300 (reverse (joint_powers (suc k) all)))) ∙ ap mean (newest-of-latest n 300 (joint_powers (suc k) all) h))
      ∙ means-loudness n (suc k) all (long_at (suc k) ws (more hs xs) (behind-frames k hs xs l f))

  pub reading-at : Frames k hs → meters_reading ws (meters_at ws k hs) xs ≡ reading_at (weighted_at ws (more hs xs))
  unfolding meters_reading reading_at lufs_of
  reading-at l =
      let m = ap (λ (fs : List Float). loudness (deque_mean 40 fs)) frames-at ∙ mean-at 40 (omega arith) l in
      let s = ap (λ (fs : List Float). loudness (deque_mean 300 fs)) frames-at ∙ mean-at 300 (omega arith) l in
      λ i. record { power = (joint-at i).power; momentary = record { 0 = m i }; short_term = record { 0 = s i }; fast = lufs_of (joint-at i).fast }

-- ---- all frames of a list

module _ (ws : List Float) where
  abbrev n : ℕ
  n = length ws

  abbrev step : Meters → List Float → Meters
  step m f = meters_next ws m (parts n f)

  abbrev next : JointLevel → List Float → JointLevel
  next j f = (joint_frame_of j ws f).level

  same : (hs : List (List Float)) (f : List Float) → length hs ≡ n → length hs ≡ length (parts n f)
  same hs f e = e ∙ sym (parts-length n f)

  more-length : (hs : List (List Float)) (f : List Float) → length hs ≡ n → length (more hs (parts n f)) ≡ n
  more-length hs f e = behind-length hs (map (map clean_of) (parts n f)) (same hs f e ∙ sym (length-map (parts n f) (map clean_of))) ∙ e

  meters_from : (fs : List (List Float)) (k : ℕ) (hs : List (List Float)) → Whole n fs → length hs ≡ n
      → foldl step (meters_at ws k hs) fs ≡ meters_at ws (length fs + k) (behind hs (heard n fs))
  unfolding heard
  meters_from [] k hs w e = λ i. meters_at ws (sym (zero-add k) i) (sym (behind-none n hs e) i)
  meters_from (f ∷ fs) k hs w e =
      ap (λ (m : Meters). foldl step m fs) (next-at ws k hs (parts n f) (parts-full n f w.0) (same hs f e))
      ∙ meters_from fs (suc k) (more hs (parts n f)) w.1 (more-length hs f e)
      ∙ (λ i. meters_at ws ((add-suc (length fs) k ∙ sym (suc-add (length fs) k)) i) (behind-each hs (cleaned n f) (heard n fs) i))

  frames-from : (fs : List (List Float)) (k : ℕ) (hs : List (List Float)) → Whole n fs → length hs ≡ n → Frames k hs → Frames (length fs + k) (behind hs (heard n fs))
  unfolding heard
  frames-from [] k hs w e l = subst (λ (m : ℕ). Frames m (behind hs (replicate n []))) (sym (zero-add k)) (subst (Frames k) (sym (behind-none n hs e)) l)
  frames-from (f ∷ fs) k hs w e l =
      subst (Frames (suc (length fs) + k)) (behind-each hs (cleaned n f) (heard n fs))
      (subst (λ (m : ℕ). Frames m (behind (more hs (parts n f)) (heard n fs))) (add-suc (length fs) k ∙ sym (suc-add (length fs) k))
      (frames-from fs (suc k) (more hs (parts n f)) w.1 (more-length hs f e) (behind-frames k hs (parts n f) l (parts-full n f w.0))))

  -- the port's frames are the Rust's
  joints_from : (fs : List (List Float)) (j : JointLevel) → Whole n fs → n ≤ length j.channels → length j.powers.list ≡ 300
      → (meters_of n (foldl next j fs) ≡ foldl step (meters_of n j) fs) × (n ≤ length (foldl next j fs).channels) × (length (foldl next j fs).powers.list ≡ 300)
  joints_from [] j w h p = (refl, h, p)
  joints_from (f ∷ fs) j w h p =
      let r = joints_from fs (next j f) w.1 (omega (arith, joint-places ws j f h p w.0)) (joint-powers ws j f h p w.0) in
      (r.0 ∙ ap (λ (m : Meters). foldl step m fs) (joint-deque ws j f h p w.0), r.1, r.2)

-- ---- from fresh

rests : (n : ℕ) → replicate n resting ≡ map channel_at (replicate n [])
rests zero = refl
rests (suc n) = λ i. rest_at i ∷ rests n i

new_meters_lem : (ws : List Float) → new_meters (length ws) ≡ meters_at ws 0 (replicate (length ws) [])
unfolding meters_at joint_powers latest
new_meters_lem ws = λ i. record { channels = rests (length ws) i; frames = [] }

bs1770-at : (ws : List Float) (xs : List (List Float)) → reading_at (weighted_at ws (behind (replicate (length ws) []) xs)) ≡ bs1770 (sources ws xs)
unfolding reading_at lufs_of power momentary short_term fast
bs1770-at ws xs = ap reading_at (behind-sources ws xs)

each-length : (n : ℕ) (xs ys : List (List Float)) → length xs ≡ n → length ys ≡ n → length (each xs ys) ≡ n
unfolding each
each-length n [] ys e f = e
each-length zero (x ∷ xs) ys e f = absurd (omega (arith, e))
each-length (suc n) (x ∷ xs) [] e f = absurd (omega (arith, f))
each-length (suc n) (x ∷ xs) (y ∷ ys) e f = ap suc (each-length n xs ys (omega (arith, e)) (omega (arith, f)))

all-heard : (n : ℕ) (fs : List (List Float)) → length (heard n fs) ≡ n
unfolding heard
all-heard n [] = length-replicate n []
all-heard n (f ∷ fs) = each-length n (cleaned n f) (heard n fs) (length-map (parts n f) (map clean_of) ∙ parts-length n f) (all-heard n fs)

heard-length : (n : ℕ) (fs : List (List Float)) → length (behind (replicate n []) (heard n fs)) ≡ n
heard-length n fs = behind-length (replicate n []) (heard n fs) (length-replicate n [] ∙ sym (all-heard n fs)) ∙ length-replicate n []

-- from any level that stands for a new one
module _ (ws : List Float) (fs : List (List Float)) (f : List Float) (j : JointLevel) (w : Whole (length ws) fs) (h : length ws ≤ length j.channels) (p : length j.powers.list ≡ 300)
    (m : meters_of (length ws) j ≡ new_meters (length ws)) where
  abbrev none : List (List Float)
  none = replicate (length ws) []

  abbrev before_it : List (List Float)
  before_it = behind none (heard (length ws) fs)

  abbrev after : JointLevel
  after = foldl (next ws) j fs

  -- the state after any frames
  meters_after : meters_of (length ws) after ≡ meters_at ws (length fs) before_it
  meters_after =
      (joints_from ws fs j w h p).0
      ∙ ap (λ (x : Meters). foldl (step ws) x fs) (m ∙ new_meters_lem ws)
      ∙ meters_from ws fs 0 none w (length-replicate (length ws) [])
      ∙ ap (λ (k : ℕ). meters_at ws k before_it) (add-zero (length fs))

  frames-after : Frames (length fs) before_it
  frames-after =
      subst (λ (k : ℕ). Frames k before_it) (add-zero (length fs)) (frames-from ws fs 0 none w (length-replicate (length ws) []) (none-frames (length ws)))

  pub reads-from : length f ≡ length ws * 480 → (joint_frame_of (foldl (next ws) j fs) ws f).reading ≡ bs1770 (sources ws (each (heard (length ws) fs) (cleaned (length ws) f)))
  reads-from e =
      let n = length ws in
      let r = joints_from ws fs j w h p in
      joint-reading ws after f r.1 r.2 e
      ∙ ap (λ (x : Meters). meters_reading ws x (parts n f)) meters_after
      ∙ reading-at ws (length fs) before_it (parts n f) (parts-full n f e) (heard-length n fs ∙ sym (parts-length n f)) frames-after
      ∙ ap (λ (xs : List (List Float)). reading_at (weighted_at ws xs)) (behind-each none (heard n fs) (cleaned n f))
      ∙ bs1770-at ws (each (heard n fs) (cleaned n f))

pub channels-bs1770 : ReadsBs1770
unfolding joint_after blanks
channels-bs1770 ws fs f w e =
    let size = length-replicate (length ws) resting in
    reads-from ws fs f (fresh_joint (length ws)) w (omega (arith, size)) refl
    (λ i. record { channels = take_all (length ws) (replicate (length ws) resting) (omega (arith, size)) i; frames = [] })
    e

-- ---- where every sample is finite, what is heard are the samples themselves

pub channels-samples : HearsSamples
unfolding parts
channels-samples zero f t = refl
channels-samples (suc n) f t =
    let both = subst T (ap all_finite (sym (take-append-drop 480 f)) ∙ all_and (take 480 f) (drop 480 f)) t in
    let head = and_l (all_finite (take 480 f)) (all_finite (drop 480 f)) both in
    let rest = and_r (all_finite (take 480 f)) (all_finite (drop 480 f)) both in
    λ i. clean-finite (take 480 f) head i ∷ channels-samples n (drop 480 f) rest i
