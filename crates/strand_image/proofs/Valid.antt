-- What the strand's codec holds good is what the modules call valid.
use Rattle.codec.specs.Forms.{f64}
use Rattle.codec.specs.Codec.{MaybeOk}
use Rattle.std.specs.Prelude.{Option, Some, None, IfSome}
use mathlib.Core.Path.{◌≡◌, refl, sym, ap, ◌∙◌}
use mathlib.Core.Bool.{Bool, true, false, not, ◌||◌}
use Prim.Native.Nat.{ℕ, ◌+◌}
use native.Mathlib.Omega.{arith}
use borrow.Author.Tests.{eq-eqb, eqb-true}
use lib.Dec.{T, eqb}
use lib.Ieee.{Float, binary64, to_bits, of_bits}
use lib.Ieee.Bits.{is_true, of_bits-to_bits}
use Rattle.float.specs.Valid.{Num}
use Rattle.codec.specs.Fields.{zero_of, flag_bits}
use Rattle.codec.proofs.Kept.{true-T}
use Rattle.biquad.specs.declared.State.{State}
use Rattle.level.specs.declared.Level.{Level}
use Rattle.level.specs.Valid.{Settled}
use Rattle.level.specs.Valid as level
use Rattle.detector.specs.declared.filters.Filters.{Filters}
use Rattle.detector.specs.declared.floor.Floor.{Floor}
use Rattle.detector.specs.Valid.{FiltersValid, FloorValid}
use Rattle.vad.specs.declared.Decision.{Decision}
use Rattle.vad.specs.declared.Strand.{Strand}
use Rattle.vad.specs.Valid.{DecisionValid, Valid}
use Rattle.strand_image.specs.Strand.{state, filters, latest, window_rule, window, floor, counts, decision, front, strand}
use Rattle.strand_image.proofs.Codecs.{zero_bits}

-- ---- filters

pub state-valid : (s : State) → state.Ok s → Settled s
unfolding state
state-valid s ok = record { z1 = ok.0; z2 = ok.1.0 }

pub valid-state : (s : State) → Settled s → state.Ok s
unfolding state
valid-state s v = (v.z1, (v.z2, tt))

filters-valid : (f : Filters) → filters.Ok f → FiltersValid f
unfolding filters
filters-valid f ok = record {
  high_pass = state-valid f.high_pass ok.0;
  low_pass = state-valid f.low_pass ok.1.0;
  pitch1 = state-valid f.pitch1 ok.1.1.0;
  pitch2 = state-valid f.pitch2 ok.1.1.1;
}

valid-filters : (f : Filters) → FiltersValid f → filters.Ok f
unfolding filters
valid-filters f v = (
  valid-state f.high_pass v.high_pass,
  (valid-state f.low_pass v.low_pass, (valid-state f.pitch1 v.pitch1, valid-state f.pitch2 v.pitch2)),
)

-- ---- level

front-valid : (l : Level) (f : Filters) → front.Ok (l, f) → level.Valid l × FiltersValid f
unfolding front latest
front-valid l f ok = (
  record {
    shelf = state-valid l.shelf ok.0;
    high_pass = state-valid l.high_pass ok.1.0;
    fast = ok.1.1.1.0;
    powers = ok.1.1.1.1;
  },
  filters-valid f ok.1.1.0,
)

valid-front : (l : Level) (f : Filters) → level.Valid l → FiltersValid f → front.Ok (l, f)
unfolding front latest
valid-front l f v u = (valid-state l.shelf v.shelf, (valid-state l.high_pass v.high_pass, (valid-filters f u, (v.fast, v.powers))))

-- ---- the noise floor

optional-valid : (o : Option Float) → MaybeOk f64 o → IfSome o (Num binary64)
optional-valid None ok = tt
optional-valid (Some x) ok = ok

valid-optional : (o : Option Float) → IfSome o (Num binary64) → MaybeOk f64 o
valid-optional None v = tt
valid-optional (Some x) v = v

-- the rule of an empty window, as a test and as a fact
rule_empty : (x : Float) (n : ℕ) → Num binary64 x → T (window_rule (x, n)) → n ≡ 0 → x ≡ zero_of binary64
rule_empty x n num t e =
    let z : eqb (to_bits binary64 x) 0 ≡ true = is_true (eqb (to_bits binary64 x) 0) (rw (eq-eqb n 0 e) at t) in
    sym (of_bits-to_bits binary64 x num.1) ∙ ap (of_bits binary64) (eqb-true (to_bits binary64 x) 0 z)

empty_rule : (x : Float) (n : ℕ) → (n ≡ 0 → x ≡ zero_of binary64) → T (window_rule (x, n))
empty_rule x n h = go (eqb n 0) refl
  where
    go : (z : Bool) → eqb n 0 ≡ z → T (not z || eqb (to_bits binary64 x) 0)
    go true e = true-T (eq-eqb (to_bits binary64 x) 0 (ap (to_bits binary64) (h (eqb-true n 0 e)) ∙ zero_bits))
    go false e = tt

floor-valid : (f : Floor) → floor.Ok f → FloorValid f
unfolding floor window latest
floor-valid f ok =
    let w = ok.1.0 in
    record {
      smoothed = optional-valid f.smoothed ok.0;
      window_min = w.0.0;
      empty = rule_empty f.window_min f.window_frames w.0.0 w.1;
      window_frames = omega (arith, w.0.1);
      minima = ok.1.1;
    }

valid-floor : (f : Floor) → FloorValid f → floor.Ok f
unfolding floor window latest
valid-floor f v = (
  valid-optional f.smoothed v.smoothed,
  (((v.window_min, omega (arith, v.window_frames)), empty_rule f.window_min f.window_frames v.empty), v.minima),
)

-- ---- the decision

decision-valid : (d : Decision) → decision.Ok d → DecisionValid d
unfolding decision counts
decision-valid d ok =
    let n = ok.0 in
    record {
      probability = n.0.1.0;
      counts = eqb-true d.onsets (d.offsets + flag_bits d.active) (is_true _ n.1);
      onsets = omega (arith, n.0.1.1.0);
      hold = omega (arith, ok.1.0);
      power = optional-valid d.power ok.1.1;
    }

valid-decision : (d : Decision) → DecisionValid d → decision.Ok d
unfolding decision counts
valid-decision d v = (
  (
    (tt, (v.probability, (omega (arith, v.onsets), omega (arith, v.onsets, v.counts)))),
    true-T (eq-eqb d.onsets (d.offsets + flag_bits d.active) v.counts),
  ),
  (omega (arith, v.hold), valid-optional d.power v.power),
)

-- ---- the strand

pub strand-valid : (s : Strand) → strand.Ok s → Valid s
unfolding strand latest
strand-valid s ok =
    let f = front-valid s.level s.detector.filters ok.0 in
    record {
      level = f.0;
      detector = record { filters = f.1; decimated = ok.1.0; floor = floor-valid s.detector.floor ok.1.1.0; history = ok.1.1.1.0 };
      decision = decision-valid s.decision ok.1.1.1.1;
    }

pub valid-strand : (s : Strand) → Valid s → strand.Ok s
unfolding strand latest
valid-strand s v = (
  valid-front s.level s.detector.filters v.level v.detector.filters,
  (v.detector.decimated, (valid-floor s.detector.floor v.detector.floor, (v.detector.history, valid-decision s.decision v.decision))),
)
