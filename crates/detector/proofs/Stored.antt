-- The correlations of eight lags, stored one by one in a list of values.
use Rattle.std.proofs.Common.{◌≡◌, ℕ, ◌+◌, ◌<◌, ◌≤◌, List, length, get_or, set, refl, ap, ◌∙◌, arith, length-set, get_or-set_other, get_or-set_same, below_more}
use lib.Ieee.{Float, nan}
use Rattle.detector.specs.declared.voicing.Eight.{Eight}
use Rattle.detector.specs.Voicing.{correlation_of}

-- the values of eight lags from `lag` on are right
pub record Correlations (x : List Float) (lag : ℕ) (r : Eight) : Type 0 where
  pub at0 : r.s0 ≡ correlation_of x lag
  pub at1 : r.s1 ≡ correlation_of x (lag + 1)
  pub at2 : r.s2 ≡ correlation_of x (lag + 2)
  pub at3 : r.s3 ≡ correlation_of x (lag + 3)
  pub at4 : r.s4 ≡ correlation_of x (lag + 4)
  pub at5 : r.s5 ≡ correlation_of x (lag + 5)
  pub at6 : r.s6 ≡ correlation_of x (lag + 6)
  pub at7 : r.s7 ≡ correlation_of x (lag + 7)

-- what P says holds of the elements below i; a, of which P i says it, is stored at i
pub stored_more : (P : ℕ → Float) (v : List Float) (i next : ℕ) (a : Float) → next ≡ i + 1 → i < length v → a ≡ P i
    → ((j : ℕ) → j < i → get_or v j nan ≡ P j) → (j : ℕ) → j < next → get_or (set v i a) j nan ≡ P j
stored_more P v i next a e h p all j l =
    below_more (λ (j : ℕ). get_or (set v i a) j nan ≡ P j) i
    (λ (j : ℕ) (m : j < i). get_or-set_other v i j a nan (λ (q : j ≡ i). away i j m q) ∙ all j m)
    (get_or-set_same v i a nan h ∙ p) j (omega (arith, e, l))
  where
    away : (i j : ℕ) → j < i → j ≡ i → ⊥
    away i j m q = omega (arith, q)

-- the correlations of eight lags are stored
module _ (x t : List Float) (k : ℕ) (g : Eight) (c : Correlations x (k + 15) g) (room : k + 8 ≤ length t) where
  abbrev right : ℕ → Float
  right j = correlation_of x (j + 15)

  abbrev t0 : List Float
  t0 = t

  abbrev t1 : List Float
  t1 = set t0 k g.s0

  abbrev t2 : List Float
  t2 = set t1 (k + 1) g.s1

  abbrev t3 : List Float
  t3 = set t2 (k + 2) g.s2

  abbrev t4 : List Float
  t4 = set t3 (k + 3) g.s3

  abbrev t5 : List Float
  t5 = set t4 (k + 4) g.s4

  abbrev t6 : List Float
  t6 = set t5 (k + 5) g.s5

  abbrev t7 : List Float
  t7 = set t6 (k + 6) g.s6

  abbrev t8 : List Float
  t8 = set t7 (k + 7) g.s7

  same : (a b : ℕ) → a ≡ b → correlation_of x a ≡ correlation_of x b
  same a b e = ap (correlation_of x) e

  size0 : length t0 ≡ length t
  size0 = refl

  size1 : length t1 ≡ length t
  size1 = length-set t0 k g.s0 ∙ size0

  size2 : length t2 ≡ length t
  size2 = length-set t1 (k + 1) g.s1 ∙ size1

  size3 : length t3 ≡ length t
  size3 = length-set t2 (k + 2) g.s2 ∙ size2

  size4 : length t4 ≡ length t
  size4 = length-set t3 (k + 3) g.s3 ∙ size3

  size5 : length t5 ≡ length t
  size5 = length-set t4 (k + 4) g.s4 ∙ size4

  size6 : length t6 ≡ length t
  size6 = length-set t5 (k + 5) g.s5 ∙ size5

  size7 : length t7 ≡ length t
  size7 = length-set t6 (k + 6) g.s6 ∙ size6

  pub stored-eight : ((j : ℕ) → j < k → get_or t j nan ≡ correlation_of x (j + 15)) → (j : ℕ) → j < k + 8 → get_or t8 j nan ≡ correlation_of x (j + 15)
  stored-eight h0 =
      let h1 : (j : ℕ) → j < k + 1 → get_or t1 j nan ≡ right j = stored_more right t0 k (k + 1) g.s0 (omega arith) (omega (arith, size0)) c.at0 h0 in
      let h2 : (j : ℕ) → j < k + 2 → get_or t2 j nan ≡ right j = stored_more right t1 (k + 1) (k + 2) g.s1 (omega arith) (omega (arith, size1)) (c.at1 ∙ same (k + 15 + 1) (k + 1 + 15) (omega arith)) h1 in
      let h3 : (j : ℕ) → j < k + 3 → get_or t3 j nan ≡ right j = stored_more right t2 (k + 2) (k + 3) g.s2 (omega arith) (omega (arith, size2)) (c.at2 ∙ same (k + 15 + 2) (k + 2 + 15) (omega arith)) h2 in
      let h4 : (j : ℕ) → j < k + 4 → get_or t4 j nan ≡ right j = stored_more right t3 (k + 3) (k + 4) g.s3 (omega arith) (omega (arith, size3)) (c.at3 ∙ same (k + 15 + 3) (k + 3 + 15) (omega arith)) h3 in
      let h5 : (j : ℕ) → j < k + 5 → get_or t5 j nan ≡ right j = stored_more right t4 (k + 4) (k + 5) g.s4 (omega arith) (omega (arith, size4)) (c.at4 ∙ same (k + 15 + 4) (k + 4 + 15) (omega arith)) h4 in
      let h6 : (j : ℕ) → j < k + 6 → get_or t6 j nan ≡ right j = stored_more right t5 (k + 5) (k + 6) g.s5 (omega arith) (omega (arith, size5)) (c.at5 ∙ same (k + 15 + 5) (k + 5 + 15) (omega arith)) h5 in
      let h7 : (j : ℕ) → j < k + 7 → get_or t7 j nan ≡ right j = stored_more right t6 (k + 6) (k + 7) g.s6 (omega arith) (omega (arith, size6)) (c.at6 ∙ same (k + 15 + 6) (k + 6 + 15) (omega arith)) h6 in
      stored_more right t7 (k + 7) (k + 8) g.s7 (omega arith) (omega (arith, size7)) (c.at7 ∙ same (k + 15 + 7) (k + 7 + 15) (omega arith)) h7

  pub eight-size : length t8 ≡ length t
  eight-size = length-set t7 (k + 7) g.s7 ∙ size7
