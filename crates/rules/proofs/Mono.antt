-- With one channel at 0, 0 a chain does what it did before beds had layouts.
use Prim.Native.Nat.{◌-◌}
use native.Mathlib.Omega.{arith}
use mathlib.Core.Path.{◌≡◌, refl, sym, ap, ◌∙◌}
use mathlib.Core.Bool.{Bool, true, false, not, cond, ◌||◌}
use mathlib.Core.List.{List, [], ◌∷◌}
use lib.Dec.{eqb}
use lib.ListN.{length, take}
use lib.Seq.{take_all}
use lib.Ieee.{Float}
use borrow.Author.Tests.{eqb-true, not-false}
use Rattle.refusal.specs.declared.Refusal.TheVariants.{ShortFrame, BadSample, Runaway, CounterFull}
use Rattle.refusal.specs.Table.{Row, ◌means◌, first_number}
use Rattle.demands.specs.Calls.{Log, empty, ◌▹◌}
use Rattle.demands.proofs.Table.{first_passes}
use Rattle.sequence.specs.History.{held, filled}
use Rattle.sequence.proofs.Counted.{counted-filled}
use Rattle.sequence.proofs.Tests.{neither}
use Rattle.level.specs.Bs1770.{frame_length}
use Rattle.level.specs.Level as level
use Rattle.layout.specs.declared.Layout.{Layout}
use Rattle.layout.specs.Layout.{mono_of}
use Rattle.channels.specs.declared.Surround.{Surround}
use Rattle.channels.specs.Channels.{resting}
use Rattle.channels.specs.Surround.{other_channels, resting_others, mono_surround}
use Rattle.channels.specs.Valid.{ChannelValid, SurroundValid}
use Rattle.channels.proofs.Promised.{bed-laws}
use Rattle.detector.specs.Detector as detector
use Rattle.vad.specs.Strand as strand
use Rattle.chain.specs.declared.Chain.{Chain}
use Rattle.chain.specs.declared.Worked.{Worked}
use Rattle.chain.specs.Base.{Base, widened, BaseWorked, base_work, base_finite, base_full}
use Rattle.chain.specs.Chain.{bed_level_of, bed_strand_of, worked_of, work_of, answer_of, finite_in, full_in, kept_of, key_anew, bed_anew}
use Rattle.rules.specs.Rules as all
use Rattle.rules.specs.Rules.{rules, bad_sample, frame_number}
use Rattle.rules.specs.Mono.{BaseEvent, frame, settings, reset, short_frame, refuses, next, answers, base_rules, called, called_all, state_from, Passing, MonoIsBase, AsBase}

-- ---- a frame of 480 samples

-- what one channel works out, with the layout
abbrev pub worked : BaseWorked → Worked
worked w = record { key = w.key; bed = w.bed; surround = mono_surround; duck = w.duck }

module _ (b : Base) (key bed : List Float) (n : length bed ≡ frame_length) where
  bed-level : bed_level_of (widened b) bed ≡ record { framed = level.frame_of b.bed.level bed; surround = mono_surround }
  bed-level = bed-laws.mono_is_level b.bed.level mono_surround bed refl n

  first-all : take frame_length bed ≡ bed
  first-all = take_all frame_length bed (omega (arith, n))

  bed-strand : bed_strand_of b.bed (bed_level_of (widened b) bed).framed bed b.settings.bed ≡ strand.frame_of b.bed bed b.settings.bed
  unfolding bed_strand_of strand.frame_of
  bed-strand = λ i. strand.finish_of b.bed.decision (bed-level i).framed (detector.frame_of b.bed.detector (first-all i)) b.settings.bed

  pub work-is : work_of (widened b) key bed ≡ worked (base_work b key bed)
  unfolding work_of base_work
  work-is = λ i. worked_of (widened b) (strand.frame_of b.key key b.settings.key) (bed-strand i) (bed-level i).surround

-- ---- the number, by its tests

abbrev rows_by : Bool → Bool → Bool → Bool → Bool → List Row
rows_by x y p f g = (not x || not y) means ShortFrame ∷ p means BadSample ∷ not f means Runaway ∷ g means CounterFull ∷ []

short-alike : (x p f g f' g' : Bool) → first_number (rows_by x false p f g) ≡ first_number (rows_by x false p f' g')
short-alike true p f g f' g' = refl
short-alike false p f g f' g' = refl

module _ (b : Base) (key bed : List Float) where
  abbrev w : Worked
  w = work_of (widened b) key bed

  abbrev w₁ : BaseWorked
  w₁ = base_work b key bed

  frame-number : all.refuses (widened b) (all.frame key bed) ≡ refuses b (frame key bed)
  unfolding frame_number
  frame-number = go (eqb (length bed) frame_length) refl
    where
      go : (y : Bool) → eqb (length bed) frame_length ≡ y
          → first_number (rows_by (eqb (length key) frame_length) y (bad_sample key bed) (finite_in w) (full_in w))
          ≡ first_number (rows_by (eqb (length key) frame_length) y (bad_sample key bed) (base_finite w₁) (base_full w₁))
      go true e =
          ap (λ (v : Worked). first_number (rows_by (eqb (length key) frame_length) true (bad_sample key bed) (finite_in v) (full_in v))) (work-is b key bed (eqb-true (length bed) frame_length e))
      go false e = short-alike (eqb (length key) frame_length) (bad_sample key bed) (finite_in w) (full_in w) (base_finite w₁) (base_full w₁)

  -- a frame that passes has its samples
  passed_length : refuses b (frame key bed) ≡ 0 → length bed ≡ frame_length
  passed_length z =
      let rows = bad_sample key bed means BadSample ∷ not (base_finite w₁) means Runaway ∷ base_full w₁ means CounterFull ∷ [] in
      let two = neither (not (eqb (length key) frame_length)) (not (eqb (length bed) frame_length)) (first_passes (short_frame key bed) ShortFrame rows z).0 in
      eqb-true (length bed) frame_length (not-false (eqb (length bed) frame_length) two.1)

-- ---- any call

called-number : (b : Base) (e : BaseEvent) → all.refuses (widened b) (called e) ≡ refuses b e
called-number b (frame key bed) = frame-number b key bed
called-number b (settings a) = refl
called-number b (reset n) = refl

called-answer : (b : Base) (e : BaseEvent) → refuses b e ≡ 0 → all.answers (widened b) (called e) ≡ answers b e
called-answer b (frame key bed) z = ap (λ (v : Worked). all.shown (answer_of v)) (work-is b key bed (passed_length b key bed z))
called-answer b (settings a) z = refl
called-answer b (reset n) z = refl

called-next : (b : Base) (e : BaseEvent) → refuses b e ≡ 0 → all.next (widened b) (called e) ≡ widened (next b e)
called-next b (frame key bed) z = ap (kept_of (widened b)) (work-is b key bed (passed_length b key bed z))
called-next b (settings a) z = refl
called-next b (reset n) z = go (eqb n 0)
  where
    go : (x : Bool) → cond x (key_anew (widened b)) (bed_anew (widened b))
        ≡ widened (cond x (record { settings = b.settings; key = strand.reset_of b.key; bed = b.bed; loops = b.loops })
        (record { settings = b.settings; key = b.key; bed = strand.reset_of b.bed; loops = b.loops }))
    go true = refl
    go false = refl

-- ---- lists

state-is : (b : Base) (es : Log BaseEvent) → Passing b es → state_from rules (widened b) (called_all es) ≡ widened (state_from base_rules b es)
state-is b empty p = refl
state-is b (es ▹ e) p = ap (λ (c : Chain). all.next c (called e)) (state-is b es p.0) ∙ called-next (state_from base_rules b es) e p.1

mono-is-base : (b : Base) (es : Log BaseEvent) (e : BaseEvent) → Passing b es → MonoIsBase b es e
mono-is-base b es e p =
    let s = state-is b es p in
    record {
      state = s;
      number = ap (λ (c : Chain). all.refuses c (called e)) s ∙ called-number (state_from base_rules b es) e;
      answer = λ z. ap (λ (c : Chain). all.answers c (called e)) s ∙ called-answer (state_from base_rules b es) e z;
    }

-- ---- which chains have one channel at 0, 0

-- no other channel is in use, so all of them rest
mono-surround : (s : Surround) → SurroundValid s → s.layout ≡ mono_of → s ≡ mono_surround
unfolding resting_others filled
mono-surround s v e =
    let rest = sym (counted-filled ChannelValid resting other_channels (s.layout.count - 1) s.others v.others)
    ∙ ap (λ (l : Layout). filled resting other_channels (held (l.count - 1) s.others)) e in
    λ i. record { layout = e i; others = rest i }

pub as_base : AsBase
as_base = record {
  lists = mono-is-base;
  fresh = refl;
  mono = λ c v e. λ i. record { settings = c.settings; key = c.key; bed = c.bed; loops = c.loops; surround = mono-surround c.surround v.surround e i };
}
