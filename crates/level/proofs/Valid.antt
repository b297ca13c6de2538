-- A fresh level is valid, and a frame whose numbers are all finite leaves a valid level.
use Rattle.std.proofs.Common.{ℕ, zero, suc, ◌<◌, T, List, [], ◌∷◌, map, length, get_or, arith}
use mathlib.Core.List.{foldl}
use lib.Ieee.{Float, binary64, fits, of_bits}
use lib.Ieee.Fits.{add-fits, sub-fits, and_l, and_r}
use lib.Ieee.Scale.{finite}
use Rattle.biquad.specs.Tick.{tick_of}
use Rattle.float.specs.Valid.{Num}
use Rattle.sequence.specs.Latest.{blanks, push_of}
use Rattle.sequence.proofs.Counted.{counted_none, counted-more}
use Rattle.level.specs.declared.Weighing.{Weighing}
use Rattle.level.specs.declared.Level.{Level}
use Rattle.float.specs.Arithmetic.{zero64}
use Rattle.float.specs.AllFinite.{all_finite}
use Rattle.level.specs.Weighing.{clean_of, step_of, run_of}
use Rattle.level.specs.Level.{joined_of, read_of, fresh_of, start_of, stored_of, finish_of, frame_of}
use Rattle.level.specs.Deque.{joint}
use Rattle.level.specs.Valid.{Valid}
use Rattle.level.proofs.Finite.{all-at}

-- ---- what runs from sample to sample fits

pub record Fit (w : Weighing) : Type 0 where
  pub shelf_1 : T (fits binary64 w.shelf.z1)
  pub shelf_2 : T (fits binary64 w.shelf.z2)
  pub high_pass_1 : T (fits binary64 w.high_pass.z1)
  pub high_pass_2 : T (fits binary64 w.high_pass.z2)
  pub fast : T (fits binary64 w.fast)

-- whatever the numbers before
step_fits : (w : Weighing) (x : Float) → Fit (step_of w x)
unfolding step_of tick_of
step_fits w x = record {
  shelf_1 = add-fits binary64 _ _;
  shelf_2 = sub-fits binary64 _ _;
  high_pass_1 = add-fits binary64 _ _;
  high_pass_2 = sub-fits binary64 _ _;
  fast = add-fits binary64 _ _;
}

pub fold-fits : (w : Weighing) (xs : List Float) → Fit w → Fit (foldl step_of w xs)
fold-fits w [] h = h
fold-fits w (x ∷ xs) h = fold-fits (step_of w x) xs (step_fits w x)

run_fits : (l : Level) (xs : List Float) → Valid l → Fit (run_of (start_of l) xs)
unfolding run_of start_of
run_fits l xs v =
    fold-fits (start_of l) (map clean_of xs)
    (record {
      shelf_1 = v.shelf.z1.1;
      shelf_2 = v.shelf.z2.1;
      high_pass_1 = v.high_pass.z1.1;
      high_pass_2 = v.high_pass.z2.1;
      fast = v.fast.1;
    })

-- ---- fresh, and a frame more

pub zero-num : Num binary64 zero64
unfolding of_bits fits
zero-num = (tt, tt)

pub fresh_valid : Valid fresh_of
unfolding blanks
fresh_valid = record {
  shelf = record { z1 = zero-num; z2 = zero-num };
  high_pass = record { z1 = zero-num; z2 = zero-num };
  fast = zero-num;
  powers = counted_none (Num binary64) zero64 300;
}

pub one : (x : Float) → Num binary64 x → (k : ℕ) → k < 1 → Num binary64 (get_or (x ∷ []) k zero64)
one x h zero l = h
one x h (suc k) l = absurd (omega arith)

pub frame-valid : (l : Level) (xs : List Float) → Valid l → T (frame_of l xs).finite → Valid (frame_of l xs).level
unfolding frame_of finish_of read_of push_of
frame-valid l xs v t =
    let w = run_of (start_of l) xs in
    let j = joint w (length xs) in
    let h = run_fits l xs v in
    let r = (read_of j l.powers).finite in
    let stored : (k : ℕ) → k < 5 → T (finite (get_or (stored_of w) k _)) = λ k m. all-at (stored_of w) k (and_l (all_finite (stored_of w)) r t) m in
    record {
      shelf = record { z1 = (stored 0 (omega arith), h.shelf_1); z2 = (stored 1 (omega arith), h.shelf_2) };
      high_pass = record { z1 = (stored 2 (omega arith), h.high_pass_1); z2 = (stored 3 (omega arith), h.high_pass_2) };
      fast = (stored 4 (omega arith), h.fast);
      powers =
          counted-more (Num binary64) zero64 300 l.powers.count l.powers.list (j.power ∷ []) v.powers
          (one j.power (all-at _ 0 (and_r (all_finite (stored_of w)) r t) (omega arith), unfold joined_of in add-fits binary64 _ _));
    }
