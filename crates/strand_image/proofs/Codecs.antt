-- The laws of the codecs of a strand: each follows from those of its parts.
use mathlib.Core.Path.{◌≡◌, refl}
use mathlib.Core.Bool.{false}
use Prim.Native.Nat.{ℕ, ◌^◌, ◌<◌}
use lib.ListN.{replicate}
use lib.Dec.{T, lit<, lit≤}
use lib.Ieee.{binary64, to_bits, of_bits}
use Rattle.blocks.proofs.Lists.{below-replicate}
use Rattle.codec.specs.Fields.{zero_of}
use Rattle.codec.specs.Codec.{Cell, CellLaws, CodecLaws}
use Rattle.codec.specs.Forms.{f64, f32, below, flag, one, fixed, pair}
use Rattle.codec.proofs.Kept.{zero-num}
use Rattle.codec.proofs.Forms.{f64-laws, f32-laws, below_laws, flag-laws, one_laws, fixed_laws, pair-laws, as_a-laws, also-laws, counted-laws, maybe-laws}
use Rattle.strand_image.specs.Strand.{state, filters, powers, decimated, latest, minima, history, window_rule, window, floor, counts_rule, from_counts, to_counts, counts, decision, front, strand}

-- ---- filters

pub unused-laws : CodecLaws (fixed (replicate 2 0))
unused-laws = fixed_laws (replicate 2 0) (below-replicate (2 ^ 64) 2 0 (lit< tt))

pub state-laws : CodecLaws state
unfolding state
state-laws = as_a-laws _ _ (λ a. refl) (λ b. refl) (pair-laws (one_laws f64-laws) (pair-laws (one_laws f64-laws) unused-laws))

pub filters-laws : CodecLaws filters
unfolding filters
filters-laws = as_a-laws _ _ (λ a. refl) (λ b. refl) (pair-laws state-laws (pair-laws state-laws (pair-laws state-laws state-laws)))

-- ---- lists

pub latest-laws : {A : Type 0} (c : Cell A) → CellLaws c → (n : ℕ) → n < 2 ^ 64 → CodecLaws (latest c n)
unfolding latest
latest-laws c laws n h = as_a-laws _ _ (λ a. refl) (λ b. refl) (counted-laws laws n h)

pub powers-laws : CodecLaws powers
powers-laws = latest-laws f64 f64-laws 300 (lit< tt)

pub minima-laws : CodecLaws minima
minima-laws = latest-laws f64 f64-laws 8 (lit< tt)

pub history-laws : CodecLaws history
history-laws = latest-laws f64 f64-laws 40 (lit< tt)

pub decimated-laws : CodecLaws decimated
decimated-laws = latest-laws f32 f32-laws 240 (lit< tt)

-- ---- the noise floor

pub zero_bits : to_bits binary64 (zero_of binary64) ≡ 0
unfolding to_bits of_bits
zero_bits = refl

-- an empty window without a minimum keeps the rule
pub window-blank : T (window_rule (zero_of binary64, 0))
window-blank = rw zero_bits tt

pub frames-laws : CellLaws (below 25)
frames-laws = below_laws 25 (lit< tt) (lit≤ tt)

pub window-laws : CodecLaws window
unfolding window
window-laws = as_a-laws _ _ (λ a. refl) (λ b. refl)
    (also-laws window_rule (zero_of binary64, 0) (pair-laws (one_laws f64-laws) (one_laws frames-laws)) (zero-num binary64, lit< tt) window-blank)

pub floor-laws : CodecLaws floor
unfolding floor
floor-laws = as_a-laws _ _ (λ a. refl) (λ b. refl) (pair-laws (maybe-laws f64-laws) (pair-laws window-laws minima-laws))

-- ---- the decision

pub tally_laws : CellLaws (below 4294967296)
tally_laws = below_laws 4294967296 (lit< tt) (lit≤ tt)

-- active, the probability, onsets and offsets, without the rule that joins them
pub parts_laws : CodecLaws (pair (one flag) (pair (one f64) (pair (one (below 4294967296)) (one (below 4294967296)))))
parts_laws = pair-laws (one_laws flag-laws) (pair-laws (one_laws f64-laws) (pair-laws (one_laws tally_laws) (one_laws tally_laws)))

pub counts-laws : CodecLaws counts
unfolding counts
counts-laws = as_a-laws from_counts to_counts (λ a. refl) (λ b. refl) (also-laws counts_rule (false, (zero_of binary64, (0, 0))) parts_laws (tt, (zero-num binary64, (lit< tt, lit< tt))) tt)

pub decision-laws : CodecLaws decision
unfolding decision
decision-laws = as_a-laws _ _ (λ a. refl) (λ b. refl) (pair-laws counts-laws (pair-laws (one_laws (below_laws 6001 (lit< tt) (lit≤ tt))) (maybe-laws f64-laws)))

-- ---- the strand

pub front-laws : CodecLaws front
unfolding front
front-laws = as_a-laws _ _ (λ a. refl) (λ b. refl) (pair-laws state-laws (pair-laws state-laws (pair-laws filters-laws (pair-laws (one_laws f64-laws) powers-laws))))

pub strand-laws : CodecLaws strand
unfolding strand
strand-laws = as_a-laws _ _ (λ a. refl) (λ b. refl) (pair-laws front-laws (pair-laws decimated-laws (pair-laws floor-laws (pair-laws history-laws decision-laws))))
