-- The loudness of a finite power is finite.
use Rattle.std.proofs.Common.{◌≡◌, Bool, true, false, cond, T, refl, lit<, lit≤}
use lib.Ieee.{Float, binary64, lt, fits, of_bits}
use lib.Ieee.Scale.{finite}
use Rattle.float.specs.Choice.{max_of}
use Rattle.logarithm.specs.Logarithm.{log10_of}
use Rattle.logarithm.proofs.Results.{log10-finite, log10-small}
use Rattle.level.specs.Bs1770.{offset_lufs, loudness}
use Rattle.float.specs.Silence.{silence_lufs}
use Rattle.float.specs.Arithmetic.{◌⊕◌, ◌⊗◌, zero64, ten64}
use Rattle.logarithm.proofs.Small.{mul-finite, mul_small, add-finite}

max-finite : (x y : Float) → T (finite x) → T (finite y) → T (finite (max_of x y))
unfolding max_of
max-finite x y p q = go (lt x y)
  where
    go : (b : Bool) → T (finite (cond b y x))
    go true = q
    go false = p

floor-finite : T (finite silence_lufs)
unfolding of_bits
floor-finite = tt

module _ (p : Float) (t : T (fits binary64 p)) where
  level-finite : lt zero64 p ≡ true → T (finite p) → T (finite (offset_lufs ⊕ ten64 ⊗ log10_of p))
  unfolding of_bits
  level-finite h f =
      let x = log10-finite p t h f in
      let a = log10-small p t h f in
      add-finite binary64 offset_lufs (ten64 ⊗ log10_of p) 17 tt (mul-finite binary64 ten64 (log10_of p) 4 12 tt x (lit≤ tt) a (lit< tt)) (lit≤ tt)
      (mul_small binary64 ten64 (log10_of p) 4 12 tt x (lit≤ tt) a 17 (lit< tt) (lit≤ tt) (lit≤ tt)) (lit< tt)

  -- of a power that isn't above 0 it is that of silence
  pub loudness-finite : (lt zero64 p ≡ true → T (finite p)) → T (finite (loudness p))
  unfolding loudness
  loudness-finite f = go (lt zero64 p) refl
    where
      go : (b : Bool) → lt zero64 p ≡ b → T (finite (cond b (max_of (offset_lufs ⊕ ten64 ⊗ log10_of p) silence_lufs) silence_lufs))
      go true h = max-finite (offset_lufs ⊕ ten64 ⊗ log10_of p) silence_lufs (level-finite h (f h)) floor-finite
      go false h = floor-finite
