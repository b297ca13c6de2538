-- The largest and the smallest normalised autocorrelation for pitch lags: the Rust's `FeatureDetector::voicing`, one lag after the other.
use Rattle.std.specs.Prelude.{ℕ, zero, suc, ◌+◌, ◌-◌, Bool, true, cond, ◌&&◌, ◌||◌, List, length, take, drop, from_bits, nat_lt, slice_index_or, Float, fold, zip}
use Rattle.std.specs.Float.{nan, binary64}
use Rattle.std.specs.Float.Ieee.{lt}
use Rattle.std.specs.Float.Ieee.Scale.{finite}
use Rattle.float.specs.Choice.{max_of, min_of}
use Rattle.root.specs.Root.{sqrt_of}
use Rattle.sequence.specs.History.{latest}
use Rattle.float.specs.Arithmetic.{◌⊕◌, ◌⊖◌, ◌⊗◌, ◌⊘◌, zero64}
use Rattle.detector.specs.declared.voicing.Ends.{Ends}
use Rattle.detector.specs.declared.voicing.Voicing.{Voicing}

-- 1e-12 and 0.1
abbrev pub tiny : Float
tiny = from_bits binary64 0x3d719799812dea11

abbrev pub tenth : Float
tenth = from_bits binary64 0x3fb999999999999a

-- ---- sums, in order

-- one square more
abbrev pub squared : Float → Float → Float
squared s v = s ⊕ v ⊗ v

-- the sum so far, and the squares of a list
unfoldable pub energy_from : Float → List Float → Float
energy_from s xs = fold squared s xs

abbrev pub energy_of : List Float → Float
energy_of xs = energy_from zero64 xs

-- one product more
abbrev pub multiplied : Float → Float × Float → Float
multiplied s p = s ⊕ p.0 ⊗ p.1

-- the sum so far, and the products of two lists, as far as both go
unfoldable pub products_from : Float → List Float → List Float → Float
products_from s xs ys = fold multiplied s (zip xs ys)

-- x[i] * x[i + lag]
unfoldable pub correlation_of : List Float → ℕ → Float
correlation_of x lag = products_from zero64 x (drop lag x)

-- ---- one lag

-- the energies of x[..240 - lag] and x[lag..], from those of the lag before; at the first lag, 15, they are there
abbrev pub energies_at : List Float → ℕ → Ends → Ends
energies_at x lag e =
    record {
      head = cond (nat_lt 15 lag) (e.head ⊖ slice_index_or x (240 - lag) nan ⊗ slice_index_or x (240 - lag) nan) e.head;
      tail = cond (nat_lt 15 lag) (e.tail ⊖ slice_index_or x (lag - 1) nan ⊗ slice_index_or x (lag - 1) nan) e.tail;
      best = e.best;
      worst = e.worst;
      finite = e.finite;
    }

-- with the lag's correlation r; `finite` says that all that went to the root was
abbrev pub with_ratio : Ends → Bool → Float → Ends
with_ratio e b r = record { head = e.head; tail = e.tail; best = max_of e.best r; worst = min_of e.worst r; finite = b }

abbrev pub without : Ends → Bool → Ends
without e b = record { head = e.head; tail = e.tail; best = e.best; worst = e.worst; finite = b }

-- a root below 1e-12 is passed over. A root of a negative number is none, and max and min pass over what comes of it.
unfoldable pub turn_of : Ends → Float → Ends
turn_of e sum =
    cond (lt (sqrt_of (e.head ⊗ e.tail)) tiny)
    (without e (e.finite && finite (e.head ⊗ e.tail)))
    (with_ratio e (e.finite && finite (e.head ⊗ e.tail)) (sum ⊘ sqrt_of (e.head ⊗ e.tail)))

unfoldable pub lag_of : List Float → Ends → ℕ → Ends
lag_of x e lag = turn_of (energies_at x lag e) (correlation_of x lag)

-- n lags, from lag on
unfoldable pub lags_of : List Float → ℕ → ℕ → Ends → Ends
lags_of x zero lag e = e
lags_of x (suc n) lag e = lags_of x n (lag + 1) (lag_of x e lag)

-- ---- the window

abbrev pub silent : Voicing
silent = record { voiced = zero64; anti = zero64; finite = true }

abbrev pub ends_of : Ends → Voicing
ends_of e = record { voiced = e.best; anti = e.worst; finite = e.finite }

-- before the first lag
unfoldable pub start_of : List Float → Ends
start_of x = record { head = energy_of (take 225 x); tail = energy_of (drop 15 x); best = zero64; worst = zero64; finite = true }

-- the halves aren't within 10 dB, or one of them is silent
unfoldable pub uneven_of : Float → Float → Bool
uneven_of first second = lt (min_of first second) tiny || lt (min_of first second) (tenth ⊗ max_of first second)

-- of 240 values
unfoldable pub window_of : List Float → Voicing
window_of x = cond (uneven_of (energy_of (take 120 x)) (energy_of (drop 120 x))) silent (ends_of (lags_of x 61 15 (start_of x)))

-- of all that was kept: the latest 240, or nothing while there are fewer
unfoldable pub voicing_of : List Float → Voicing
voicing_of xs = cond (nat_lt (length xs) 240) silent (window_of (latest 240 xs))
