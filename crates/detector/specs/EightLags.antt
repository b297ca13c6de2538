-- The correlations of eight lags, which are computed side by side to save time. No meaning rests on them.
use Rattle.std.specs.Prelude.{◌≡◌, ℕ, ◌+◌, List, [], ◌∷◌, drop, Float}
use Rattle.float.specs.Arithmetic.{zero64}
use Rattle.detector.specs.declared.voicing.Eight.{Eight}
use Rattle.detector.specs.Voicing.{products_from, correlation_of}

abbrev pub none_summed : Eight
none_summed = record { s0 = zero64; s1 = zero64; s2 = zero64; s3 = zero64; s4 = zero64; s5 = zero64; s6 = zero64; s7 = zero64 }

-- from the sums of the products of the places before i on, those that are left come to the correlations
pub record Left (x : List Float) (lag i : ℕ) (r : Eight) : Type 0 where
  pub left0 : products_from r.s0 (drop i x) (drop (i + lag) x) ≡ correlation_of x lag
  pub left1 : products_from r.s1 (drop i x) (drop (i + (lag + 1)) x) ≡ correlation_of x (lag + 1)
  pub left2 : products_from r.s2 (drop i x) (drop (i + (lag + 2)) x) ≡ correlation_of x (lag + 2)
  pub left3 : products_from r.s3 (drop i x) (drop (i + (lag + 3)) x) ≡ correlation_of x (lag + 3)
  pub left4 : products_from r.s4 (drop i x) (drop (i + (lag + 4)) x) ≡ correlation_of x (lag + 4)
  pub left5 : products_from r.s5 (drop i x) (drop (i + (lag + 5)) x) ≡ correlation_of x (lag + 5)
  pub left6 : products_from r.s6 (drop i x) (drop (i + (lag + 6)) x) ≡ correlation_of x (lag + 6)
  pub left7 : products_from r.s7 (drop i x) (drop (i + (lag + 7)) x) ≡ correlation_of x (lag + 7)

-- the correlations of the eight lags from lag on
abbrev pub eight_of : List Float → ℕ → List Float
eight_of x lag =
    correlation_of x lag
    ∷ correlation_of x (lag + 1)
    ∷ correlation_of x (lag + 2)
    ∷ correlation_of x (lag + 3)
    ∷ correlation_of x (lag + 4)
    ∷ correlation_of x (lag + 5)
    ∷ correlation_of x (lag + 6)
    ∷ correlation_of x (lag + 7)
    ∷ []
