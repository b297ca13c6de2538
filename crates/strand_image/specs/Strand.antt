-- The 628 words of a strand, as codecs: each is how a part is written and read, and which values it holds. Definitions only.
use Rattle.sequence.specs.declared.Latest.{Latest}
use Rattle.std.specs.Prelude.{Bool, false, not, ◌||◌, ℕ, ◌+◌, replicate, eqb, Float}
use Rattle.std.specs.Float.{binary64}
use Rattle.std.specs.Float.Ieee.{to_bits}
use Rattle.codec.specs.Fields.{zero_of, flag_bits}
use Rattle.codec.specs.Codec.{Cell, Codec}
use Rattle.codec.specs.Forms.{f64, f32, below, flag, one, fixed, pair, as_a, also, counted, maybe}
use Rattle.biquad.specs.declared.State.{State}
use Rattle.level.specs.declared.Level.{Level}
use Rattle.detector.specs.declared.filters.Filters.{Filters}
use Rattle.detector.specs.Filters.{Decimated}
use Rattle.detector.specs.declared.floor.Floor.{Floor}
use Rattle.vad.specs.declared.Decision.{Decision}
use Rattle.vad.specs.declared.Strand.{Strand}
use Rattle.strand_image.specs.declared.Window.{Window}
use Rattle.strand_image.specs.declared.Counts.{Counts}

-- ---- filters

-- the numbers of a filter, and two words unused
unfoldable pub state : Codec State
state = as_a (λ s. (s.z1, (s.z2, tt))) (λ p. record { z1 = p.0; z2 = p.1.0 })
    (pair (one f64) (pair (one f64) (fixed (replicate 2 0))))

-- the band pair and the pitch pair
unfoldable pub filters : Codec Filters
filters = as_a (λ f. (f.high_pass, (f.low_pass, (f.pitch1, f.pitch2))))
    (λ p. record { high_pass = p.0; low_pass = p.1.0; pitch1 = p.1.1.0; pitch2 = p.1.1.1 })
    (pair state (pair state (pair state state)))

-- ---- lists: a count, and the values, oldest first

unfoldable pub latest : {A : Type 0} → Cell A → (n : ℕ) → Codec (Latest A n)
latest c n = as_a (λ s. (s.count, s.list)) (λ p. record { count = p.0; list = p.1 }) (counted c n)

abbrev pub powers : Codec (Latest Float 300)
powers = latest f64 300

abbrev pub minima : Codec (Latest Float 8)
minima = latest f64 8

abbrev pub history : Codec (Latest Float 40)
history = latest f64 40

abbrev pub decimated : Codec Decimated
decimated = latest f32 240

-- ---- the noise floor

-- an empty window has no minimum: zero stands in its place
abbrev pub window_rule : Float × ℕ → Bool
window_rule p = not (eqb p.1 0) || eqb (to_bits binary64 p.0) 0

-- the window's minimum, and its frames, 0 to 24
unfoldable pub window : Codec Window
window = as_a (λ s. (s.least, s.frames)) (λ p. record { least = p.0; frames = p.1 })
    (also window_rule (zero_of binary64, 0) (pair (one f64) (one (below 25))))

unfoldable pub floor : Codec Floor
floor = as_a (λ f. (f.smoothed, (record { least = f.window_min; frames = f.window_frames }, f.minima)))
    (λ p. record { smoothed = p.0; window_min = p.1.0.least; window_frames = p.1.0.frames; minima = p.1.1 })
    (pair (maybe f64) (pair window minima))

-- ---- the decision

-- onsets minus offsets equals active
abbrev pub counts_rule : Bool × (Float × (ℕ × ℕ)) → Bool
counts_rule p = eqb p.1.1.0 (p.1.1.1 + flag_bits p.0)

abbrev pub from_counts : Counts → Bool × (Float × (ℕ × ℕ))
from_counts s = (s.active, (s.probability, (s.onsets, s.offsets)))

abbrev pub to_counts : Bool × (Float × (ℕ × ℕ)) → Counts
to_counts p = record { active = p.0; probability = p.1.0; onsets = p.1.1.0; offsets = p.1.1.1 }

-- active, the probability, onsets and offsets, at most 4,294,967,295
unfoldable pub counts : Codec Counts
counts = as_a from_counts to_counts
    (also counts_rule (false, (zero_of binary64, (0, 0)))
    (pair (one flag) (pair (one f64) (pair (one (below 4294967296)) (one (below 4294967296))))))

-- the counts, the hold, 0 to 6,000, and the speech power
unfoldable pub decision : Codec Decision
decision = as_a (λ d. (record { active = d.active; probability = d.probability; onsets = d.onsets; offsets = d.offsets }, (d.hold, d.power)))
    (λ p. record { active = p.0.active; probability = p.0.probability; onsets = p.0.onsets; offsets = p.0.offsets; hold = p.1.0; power = p.1.1 })
    (pair counts (pair (one (below 6001)) (maybe f64)))

-- ---- the strand

-- its front: the six filters, the fast mean square and the powers
unfoldable pub front : Codec (Level × Filters)
front = as_a (λ p. (p.0.shelf, (p.0.high_pass, (p.1, (p.0.fast, p.0.powers)))))
    (λ q. (record { shelf = q.0; high_pass = q.1.0; fast = q.1.1.1.0; powers = q.1.1.1.1 }, q.1.1.0))
    (pair state (pair state (pair filters (pair (one f64) powers))))

unfoldable pub strand : Codec Strand
strand = as_a (λ s. ((s.level, s.detector.filters), (s.detector.decimated, (s.detector.floor, (s.detector.history, s.decision)))))
    (λ p. record {
      level = p.0.0;
      detector = record { filters = p.0.1; decimated = p.1.0; floor = p.1.1.0; history = p.1.1.1.0 };
      decision = p.1.1.1.1;
    })
    (pair front (pair decimated (pair floor (pair history decision))))
