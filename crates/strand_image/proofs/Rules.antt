-- What is read where a rule joins several words: an empty window's minimum, and the counts of onsets and offsets.
use mathlib.Core.Path.{◌≡◌, sym, ap, ◌∙◌}
use mathlib.Core.Bool.{Bool, true, false, not, ◌||◌}
use mathlib.Core.List.{List}
use Prim.Native.Nat.{ℕ, ◌+◌}
use native.Mathlib.Omega.{arith}
use borrow.Author.Tests.{eq-eqb, ne_eqb}
use lib.ListN.{get_or}
use lib.Dec.{T, eqb}
use lib.Ieee.{Float, binary64, to_bits}
use Rattle.codec.specs.Fields.{zero_of, num_of, capped, flag_bits, ruled}
use Rattle.codec.proofs.Kept.{true-T, ruled-same, ruled-other}
use Rattle.strand_image.specs.Strand.{window, window_rule, to_counts, counts, counts_rule}
use Rattle.strand_image.specs.declared.Window.{Window}
use Rattle.strand_image.specs.declared.Counts.{Counts}

module _ (l : List ℕ) (i : ℕ) (x : Float) (n : ℕ) (ex : x ≡ num_of binary64 (get_or l i 0)) (en : n ≡ capped 25 (get_or l (i + 1) 0)) where
  abbrev none : Float × ℕ
  none = (zero_of binary64, 0)

  win : (w : Float × ℕ) → ruled window_rule none (x, n) ≡ w → ◌≡◌ {A = Window} (record { least = w.0; frames = w.1 }) (window.dec l i)
  unfolding window
  win w e =
      ap {B = Window} (λ (p : Float × ℕ). record { least = p.0; frames = p.1 }) (sym e)
      ∙ ap {B = Window} (λ (p : Float × ℕ). record { least = (ruled window_rule none p).0; frames = (ruled window_rule none p).1 }) (λ k. (ex k, en k))

  pub window_bad : n ≡ 0 → (to_bits binary64 x ≡ 0 → ⊥) → ◌≡◌ {A = Window} (record { least = zero_of binary64; frames = 0 }) (window.dec l i)
  window_bad a b = win none (ruled-other window_rule none (x, n) (rw (eq-eqb n 0 a, ne_eqb (to_bits binary64 x) 0 b)))

  pub window_empty : to_bits binary64 x ≡ 0 → ◌≡◌ {A = Window} (record { least = x; frames = n }) (window.dec l i)
  window_empty b = win (x, n) (ruled-same window_rule none (x, n) (go (eqb n 0)))
    where
      go : (z : Bool) → T (not z || eqb (to_bits binary64 x) 0)
      go true = true-T (eq-eqb (to_bits binary64 x) 0 b)
      go false = tt

  pub window-full : (n ≡ 0 → ⊥) → ◌≡◌ {A = Window} (record { least = x; frames = n }) (window.dec l i)
  window-full a = win (x, n) (ruled-same window_rule none (x, n) (rw (ne_eqb n 0 a) tt))

module _ (l : List ℕ) (i : ℕ) (f : Bool) (x : Float) (a b s : ℕ) (ef : f ≡ eqb (get_or l i 0) 1)
    (ex : x ≡ num_of binary64 (get_or l (i + 1) 0)) (ea : a ≡ capped 4294967296 (get_or l (i + 2) 0)) (eb : b ≡ capped 4294967296 (get_or l (i + 3) 0))
    (es : s ≡ flag_bits f) where
  abbrev blank : Bool × (Float × (ℕ × ℕ))
  blank = (false, (zero_of binary64, (0, 0)))

  act : (w : Bool × (Float × (ℕ × ℕ))) → ruled counts_rule blank (f, (x, (a, b))) ≡ w
      → to_counts w ≡ counts.dec l i
  unfolding counts
  act w e =
      let i2 : i + 2 ≡ i + 1 + 1 = omega arith in
      let i3 : i + 3 ≡ i + 1 + 1 + 1 = omega arith in
      ap to_counts (sym e)
      ∙ ap (λ (p : Bool × (Float × (ℕ × ℕ))). to_counts (ruled counts_rule blank p))
      (λ k. (ef k, (ex k, ((ea ∙ ap (λ (n : ℕ). capped 4294967296 (get_or l n 0)) i2) k, (eb ∙ ap (λ (n : ℕ). capped 4294967296 (get_or l n 0)) i3) k))))

  sum : b + s ≡ b + flag_bits f
  sum = ap (λ (n : ℕ). b + n) es

  pub counts-good : a ≡ b + s → ◌≡◌ {A = Counts} (record { active = f; probability = x; onsets = a; offsets = b }) (counts.dec l i)
  counts-good e = act (f, (x, (a, b))) (ruled-same counts_rule blank (f, (x, (a, b))) (true-T (eq-eqb a (b + flag_bits f) (e ∙ sum))))

  pub counts_bad : (a ≡ b + s → ⊥) → ◌≡◌ {A = Counts} (record { active = false; probability = zero_of binary64; onsets = 0; offsets = 0 }) (counts.dec l i)
  counts_bad e = act blank (ruled-other counts_rule blank (f, (x, (a, b))) (ne_eqb a (b + flag_bits f) (λ q. e (q ∙ sym sum))))
