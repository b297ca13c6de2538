-- The port's level, with a count and 300 places, is the Rust's, with a deque: on any count.
use Rattle.std.proofs.Common.{◌≡◌, ℕ, min, List, [], ◌∷◌, length, ap, ◌∙◌, arith}
use mathlib.Core.List.{foldl}
use lib.Ieee.{Float}
use Rattle.sequence.specs.History.{newest, held, pushed}
use Rattle.sequence.specs.Latest.{push_of}
use Rattle.sequence.proofs.Newest.{newest-length}
use Rattle.sequence.proofs.Places.{places-length, held_pushes}
use Rattle.float.specs.Arithmetic.{◌⊕◌, ◌⊘◌, zero64, whole}
use Rattle.level.specs.declared.Joint.{Joint}
use Rattle.level.specs.declared.Level.{Level}
use Rattle.level.specs.Bs1770.{mean}
use Rattle.level.specs.Weighing.{run_of}
use Rattle.level.specs.Level.{Powers, means_of, lufs_of, reading_of, read_of, start_of, finish_of, frame_of}
use Rattle.level.specs.Deque.{deque_mean, joint, kept, answered, frames_with, meter_next, meter_reading, meter_of}

-- the Rust's divisor is the number of the frames that it adds
pub mean-deque : (n : ℕ) (frames : List Float) → mean (newest n frames) ≡ deque_mean n frames
unfolding mean deque_mean
mean-deque n frames =
    let e : length (newest n frames) ≡ min (length frames) n = newest-length n frames ∙ omega arith in
    ap (λ (k : ℕ). foldl ◌⊕◌ zero64 (newest n frames) ⊘ whole k) e

means-deque : (j : Joint) (p : Powers) → reading_of j (means_of p) ≡ answered j (held p.count p.list)
unfolding means_of
means-deque j p =
    let frames = held p.count p.list in
    λ i. record {
      power = j.power;
      momentary = lufs_of (mean-deque 40 frames i);
      short_term = lufs_of (mean-deque 300 frames i);
      fast = lufs_of j.fast;
    }

module _ (p : Powers) (l : length p.list ≡ 300) (x : Float) where
  -- one power more
  pub push-deque : held (push_of p x).count (push_of p x).list ≡ pushed 300 (held p.count p.list) x
  unfolding push_of
  push-deque = rw l at (held_pushes p.count p.list (x ∷ []) (omega (arith, l)))

  pub push-length : length (push_of p x).list ≡ 300
  unfolding push_of
  push-length = places-length p.count p.list (x ∷ []) ∙ l

-- what is read with one power more
pub read-deque : (p : Powers) → length p.list ≡ 300 → (j : Joint) → (read_of j p).reading ≡ answered j (frames_with (held p.count p.list) j)
unfolding read_of
read-deque p l j = means-deque j (push_of p j.power) ∙ ap (answered j) (push-deque p l j.power)

module _ (l : Level) (xs : List Float) (e : length l.powers.list ≡ 300) where
  -- what is stored is what the Rust stores
  pub level-deque : meter_of (frame_of l xs).level ≡ meter_next (meter_of l) xs
  unfolding frame_of finish_of read_of start_of meter_next
  level-deque =
      let w = run_of (start_of l) xs in
      ap (kept w) (push-deque l.powers e (joint w (length xs)).power)

  -- what is read is what the Rust reads
  pub level-deque-reading : (frame_of l xs).reading ≡ meter_reading (meter_of l) xs
  unfolding frame_of finish_of start_of meter_reading
  level-deque-reading = read-deque l.powers e (joint (run_of (start_of l) xs) (length xs))

  -- the places stay 300
  pub level-places : length (frame_of l xs).level.powers.list ≡ 300
  unfolding frame_of finish_of read_of
  level-places = push-length l.powers e (joint (run_of (start_of l) xs) (length xs)).power
