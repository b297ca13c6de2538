-- `Level::frame` on the port's record: a count and 300 places.
use Rattle.std.specs.Prelude.{ℕ, max, ◌&&◌, List, [], ◌∷◌, length, Float}
use mathlib.Core.List.{foldl}
use Rattle.biquad.specs.Tick.{at_rest}
use Rattle.float.specs.declared.Lufs.{Lufs}
use Rattle.float.specs.Choice.{max_of}
use Rattle.sequence.specs.declared.Latest.{Latest}
use Rattle.sequence.specs.History.{newest, held}
use Rattle.sequence.specs.Latest.{no_values, push_of}
use Rattle.level.specs.declared.Weighing.{Weighing}
use Rattle.level.specs.declared.Joint.{Joint}
use Rattle.level.specs.declared.Means.{Means}
use Rattle.level.specs.declared.Reading.{Reading}
use Rattle.level.specs.declared.Read.{Read}
use Rattle.level.specs.declared.Level.{Level}
use Rattle.level.specs.declared.Framed.{Framed}
use Rattle.level.specs.Bs1770.{momentary_frames, short_term_frames, mean, loudness}
use Rattle.float.specs.Arithmetic.{◌⊕◌, ◌⊗◌, ◌⊘◌, zero64, one64, whole}
use Rattle.float.specs.AllFinite.{all_finite}
use Rattle.level.specs.Weighing.{run_of}

-- ---- the sums over the channels

abbrev pub no_channel : Joint
no_channel = record { power = zero64; fast = zero64 }

-- one channel more, with its weight, after a frame of n samples
unfoldable pub joined_of : Joint → Float → Weighing → ℕ → Joint
joined_of j weight w n = record { power = j.power ⊕ weight ⊗ w.energy ⊘ whole (max n 1); fast = j.fast ⊕ weight ⊗ w.fast }

-- ---- the powers of the latest frames

abbrev pub Powers : Type 0
Powers = Latest Float short_term_frames

-- from a sum on, at most n of the values, newest first
unfoldable pub sum_of : Float → ℕ → List Float → Float
sum_of sum n xs = foldl ◌⊕◌ sum (newest n xs)

-- the mean of the newest n frames, or of all that are held where there are fewer
abbrev pub mean_of : ℕ → Powers → Float
mean_of n p = mean (newest n (held p.count p.list))

unfoldable pub means_of : Powers → Means
means_of p = record { momentary = mean_of momentary_frames p; short_term = mean_of short_term_frames p }

-- ---- the readings

unfoldable pub lufs_of : Float → Lufs
lufs_of p = record { 0 = loudness p }

abbrev pub reading_of : Joint → Means → Reading
reading_of j m = record {
  power = j.power;
  momentary = lufs_of m.momentary;
  short_term = lufs_of m.short_term;
  fast = lufs_of j.fast;
}

-- what is stored, what is handed to the logarithm (a power above 0, else nothing, which counts as 0), and what is answered
abbrev pub numbers_of : Joint → Means → Reading → List Float
numbers_of j m r =
    j.power
    ∷ max_of zero64 m.momentary
    ∷ max_of zero64 m.short_term
    ∷ max_of zero64 j.fast
    ∷ r.momentary.0
    ∷ r.short_term.0
    ∷ r.fast.0
    ∷ []

abbrev pub read_all : Joint → Powers → Means → Read
read_all j p m = record { powers = p; reading = reading_of j m; finite = all_finite (numbers_of j m (reading_of j m)) }

unfoldable pub read_of : Joint → Powers → Read
read_of j p = read_all j (push_of p j.power) (means_of (push_of p j.power))

-- ---- a frame

abbrev pub fresh_of : Level
fresh_of = record { shelf = at_rest; high_pass = at_rest; fast = zero64; powers = no_values short_term_frames zero64 }

unfoldable pub start_of : Level → Weighing
start_of l = record { shelf = l.shelf; high_pass = l.high_pass; fast = l.fast; energy = zero64 }

-- what a channel stores
abbrev pub stored_of : Weighing → List Float
stored_of w = w.shelf.z1 ∷ w.shelf.z2 ∷ w.high_pass.z1 ∷ w.high_pass.z2 ∷ w.fast ∷ []

abbrev pub framed_of : Weighing → Read → Framed
framed_of w r = record {
  level = record { shelf = w.shelf; high_pass = w.high_pass; fast = w.fast; powers = r.powers };
  reading = r.reading;
  finite = all_finite (stored_of w) && r.finite;
}

-- what follows the filters, over a frame of n samples
unfoldable pub finish_of : Weighing → Powers → ℕ → Framed
finish_of w p n = framed_of w (read_of (joined_of no_channel one64 w n) p)

unfoldable pub frame_of : Level → List Float → Framed
frame_of l xs = finish_of (run_of (start_of l) xs) l.powers (length xs)
