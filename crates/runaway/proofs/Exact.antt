-- A frame is refused with 4 exactly where a number of the lists isn't finite: the flags of key, bed and ducker are those of their lists.
use Rattle.chain.specs.declared.Answer.{Answer}
use Rattle.refusal.specs.declared.Refusal.{Refusal}
use Rattle.std.specs.Prelude.{Result, Ok, Err}
use Prim.Native.Nat.{ℕ}
use mathlib.Core.Path.{◌≡◌, refl, sym, ap, ◌∙◌}
use mathlib.Core.Bool.{Bool, true, false, ◌&&◌}
use mathlib.Core.Logic.Iff
use mathlib.Core.Logic.{◌↔◌}
use mathlib.Core.List.{List, [], ◌∷◌, ◌++◌}
use lib.Dec.{T, eqb}
use lib.ListN.{length}
use lib.Seq.{length-take-le}
use lib.Ieee.{Float}
use lib.Ieee.Bits.{is_true}
use lib.Ieee.Fits.{and_i, and_l, and_r}
use native.Mathlib.Omega.{arith}
use borrow.Author.Tests.{eq-eqb, eqb-true}
use Rattle.refusal.specs.declared.Refusal.TheVariants.{Runaway}
use Rattle.refusal.specs.Table.{number_of, first_number}
use Rattle.level.specs.Bs1770.{frame_length}
use Rattle.float.specs.AllFinite.{all_finite}
use Rattle.chain.specs.declared.Chain.{Chain}
use Rattle.chain.specs.declared.Worked.{Worked}
use Rattle.chain.specs.Chain.{inputs_of, first_channel, work_of, answer_of, refused_of, passed_of, finite_in, full_in, judged_of, channel_count, bed_length, frame_of}
use Rattle.chain.specs.StrandFrames.{Whole}
use Rattle.chain.specs.Valid.{Valid}
use Rattle.chain.specs.Numbers.{of_settings, of_strand, of_loops, numbers_of}
use Rattle.rules.specs.Rules.{frame_number}
use Rattle.runaway.specs.Runaway.{stored_in, of_status, of_state, answered_in, key_fast, bed_fast, to_logarithm, to_ten, to_power, to_root, to_narrowing, numbers_in, RunsAway, RunawayExact}
use Rattle.level.proofs.Finite.{Alls, none, ◌and◌, all-finite, finite-all, parts}
use Rattle.rules.proofs.AllFinite.{of-settings}
use Rattle.sequence.proofs.Tests as tests
use Rattle.rules.proofs.Laws.{rows, framed}
use Rattle.runaway.proofs.StrandTold as strands
use Rattle.runaway.proofs.DuckTold as duck

-- ---- the lists of both strands and of the ducker, put together

record Lists (c : Chain) (xs ys : List Float) (w : Worked) : Type 0 where
  key : strands.KeyLists c.key xs w.key
  bed : strands.BedLists c.bed ys w.bed w.surround
  duck : duck.Lists c.settings.duck.enabled c.loops c.settings.duck (inputs_of w.key w.bed) w.duck

module _ (c : Chain) (key bed : List Float) (v : Valid c) (h : Whole (channel_count c) key bed) where
  abbrev w : Worked
  w = work_of c key bed

  together : Lists c key bed w → Alls (numbers_in c key bed)
  unfolding numbers_in numbers_of
  together t =
      let k = t.key in
      let b = t.bed in
      let d = t.duck in
      (of-settings c.settings v.settings and k.stored and b.stored and d.stored and b.beside)
      and (d.answered and k.answered and b.answered)
      and (k.logarithm and b.logarithm)
      and (k.power and b.power and d.power)
      and (k.root and b.root)
      and (k.narrowing and b.narrowing)

  apart : Alls (numbers_in c key bed) → Lists c key bed w
  unfolding numbers_in numbers_of
  apart t =
      let stored = stored_in c w in
      let answered = answered_in (answer_of w) in
      let first = first_channel bed in
      let key-logarithm = to_logarithm c.key key w.key (key_fast w.key.strand.level) in
      let logarithm = key-logarithm ++ to_logarithm c.bed first w.bed (bed_fast w.bed.strand.level w.surround) in
      let power = to_power c w in
      let root = to_root w.key ++ to_root w.bed in
      let five = parts (stored ++ answered ++ logarithm ++ power ++ root) t in
      let four = parts (stored ++ answered ++ logarithm ++ power) five.0 in
      let three = parts (stored ++ answered ++ logarithm) four.0 in
      let two = parts (stored ++ answered) three.0 in
      let one = parts stored two.0 in
      let settings = of_settings c.settings in
      let s3 = parts (settings ++ of_strand w.key.strand ++ of_strand w.bed.strand ++ of_loops w.duck.loops) one.0 in
      let s2 = parts (settings ++ of_strand w.key.strand ++ of_strand w.bed.strand) s3.0 in
      let s1 = parts (settings ++ of_strand w.key.strand) s2.0 in
      let s0 = parts settings s1.0 in
      let shown = (w.duck.reduction.0 ∷ []) ++ of_status w.duck.status in
      let a1 = parts (shown ++ of_state w.key.state) one.1 in
      let a0 = parts shown a1.0 in
      let l = parts key-logarithm two.1 in
      let p1 = parts (to_ten w.key ++ to_ten w.bed) three.1 in
      let p0 = parts (to_ten w.key) p1.0 in
      let r = parts (to_root w.key) four.1 in
      let n = parts (to_narrowing c.key key) five.1 in
      record {
        key = record { stored = s0.1; beside = none; answered = a0.1; logarithm = l.0; power = p0.0; root = r.0; narrowing = n.0 };
        bed = record { stored = s1.1; beside = s3.1; answered = a1.1; logarithm = l.1; power = p0.1; root = r.1; narrowing = n.1 };
        duck = record { stored = s2.1; answered = a0.0; power = p1.1 };
      }

  -- ---- the flags

  first-length : length (first_channel bed) ≡ 480
  first-length = length-take-le 480 bed (let n = h.bed_length in omega (arith, n))

  told : T (finite_in w) → Lists c key bed w
  unfolding work_of
  told t =
      let both = and_l (w.key.finite && w.bed.finite) w.duck.finite t in
      record {
        key = strands.key-told c.key v.key key h.key_length c.settings.key (and_l w.key.finite w.bed.finite both);
        bed = strands.bed-told c.bed v.bed c.surround v.surround bed first-length c.settings.bed (and_r w.key.finite w.bed.finite both);
        duck = duck.duck-told c.loops c.settings.duck (inputs_of w.key w.bed) (and_r (w.key.finite && w.bed.finite) w.duck.finite t);
      }

  tells : Lists c key bed w → T (finite_in w)
  unfolding work_of
  tells t =
      and_i (w.key.finite && w.bed.finite) w.duck.finite
      (and_i w.key.finite w.bed.finite
      (strands.key-tells c.key v.key key h.key_length c.settings.key t.key)
      (strands.bed-tells c.bed v.bed c.surround v.surround bed first-length c.settings.bed t.bed))
      (duck.duck-tells c.loops c.settings.duck (inputs_of w.key w.bed) t.duck)

  same : (a b : Bool) → (T a → T b) → (T b → T a) → a ≡ b
  same true true f g = refl
  same true false f g = absurd (f tt)
  same false true f g = absurd (g tt)
  same false false f g = refl

  pub finite-is : finite_in w ≡ all_finite (numbers_in c key bed)
  finite-is =
      same (finite_in w) (all_finite (numbers_in c key bed)) (λ t. all-finite (together (told t)))
      (λ t. tells (apart (finite-all (numbers_in c key bed) t)))

-- ---- the number and the outcome, by the tests: lengths, samples, finite, full

record Tested (x y p q f : Bool) : Type 0 where
  key_length : x ≡ true
  bed_length : y ≡ true
  key_samples : p ≡ true
  bed_samples : q ≡ true
  runs_away : f ≡ false

module _ (c : Chain) (w : Worked) where
  tested : (x y p q f g : Bool) → first_number (rows c w x y p q f g) ≡ number_of Runaway → Tested x y p q f
  tested false y p q f g e = absurd (omega (arith, e))
  tested true false p q f g e = absurd (omega (arith, e))
  tested true true false q f g e = absurd (omega (arith, e))
  tested true true true false f g e = absurd (omega (arith, e))
  tested true true true true false g e = record { key_length = refl; bed_length = refl; key_samples = refl; bed_samples = refl; runs_away = refl }
  tested true true true true true true e = absurd (omega (arith, e))
  tested true true true true true false e = absurd (omega (arith, e))

  numbered : (x y p q f g : Bool) → Tested x y p q f → first_number (rows c w x y p q f g) ≡ number_of Runaway
  numbered x y p q f g t = rw (t.key_length, t.bed_length, t.key_samples, t.bed_samples, t.runs_away)

  abbrev code_of : Result Answer Refusal → ℕ
  code_of (Ok a) = 0
  code_of (Err r) = number_of r

  answered : (x y p q f g : Bool) → code_of (framed c w x y p q f g).outcome ≡ first_number (rows c w x y p q f g)
  unfolding refused_of passed_of
  answered false y p q f g = refl
  answered true false p q f g = refl
  answered true true false q f g = refl
  answered true true true false f g = refl
  answered true true true true false g = refl
  answered true true true true true true = refl
  answered true true true true true false = refl

  refused : (x y p q f g : Bool) → Tested x y p q f → (framed c w x y p q f g).outcome ≡ Err Runaway
  unfolding refused_of
  refused x y p q f g t = rw (t.key_length, t.bed_length, t.key_samples, t.bed_samples, t.runs_away)

module _ (c : Chain) (key bed : List Float) where
  abbrev Tests : Type 0
  Tests = Tested (eqb (length key) frame_length) (eqb (length bed) (bed_length c)) (all_finite key) (all_finite bed) (finite_in (work_of c key bed))

  number_tests : (frame_number c key bed ≡ number_of Runaway) ↔ Tests
  unfolding frame_number
  number_tests =
      let w = work_of c key bed in (
        tested c w (eqb (length key) frame_length) (eqb (length bed) (bed_length c)) (all_finite key) (all_finite bed) (finite_in w) (full_in w),
        numbered c w (eqb (length key) frame_length) (eqb (length bed) (bed_length c)) (all_finite key) (all_finite bed) (finite_in w) (full_in w),
      )

  outcome_tests : ((frame_of c key bed).outcome ≡ Err Runaway) ↔ Tests
  unfolding frame_of judged_of
  outcome_tests =
      let w = work_of c key bed in
      let x = eqb (length key) frame_length in
      let y = eqb (length bed) (bed_length c) in (
        λ e. tested c w x y (all_finite key) (all_finite bed) (finite_in w) (full_in w) (sym (answered c w x y (all_finite key) (all_finite bed) (finite_in w) (full_in w)) ∙ ap (code_of c w) e),
        refused c w x y (all_finite key) (all_finite bed) (finite_in w) (full_in w),
      )

  -- a frame of 480 finite samples of the key and of each channel of the bed, and a number of the lists that isn't finite
  tests_lists : Valid c → Tests ↔ RunsAway c key bed
  tests_lists v = (λ t. let h = whole t in (h, sym (finite-is c key bed v h) ∙ t.runs_away), back)
    where
      whole : Tests → Whole (channel_count c) key bed
      whole t = record {
        key_length = eqb-true (length key) frame_length t.key_length;
        bed_length = eqb-true (length bed) (bed_length c) t.bed_length;
        key_samples = tests.told (all_finite key) t.key_samples;
        bed_samples = tests.told (all_finite bed) t.bed_samples;
      }

      back : RunsAway c key bed → Tests
      back r = record {
        key_length = eq-eqb (length key) frame_length r.0.key_length;
        bed_length = eq-eqb (length bed) (bed_length c) r.0.bed_length;
        key_samples = is_true (all_finite key) r.0.key_samples;
        bed_samples = is_true (all_finite bed) r.0.bed_samples;
        runs_away = finite-is c key bed v r.0 ∙ r.1;
      }

pub runaway-exact : RunawayExact
runaway-exact = record {
  number = λ c key bed v. Iff.trans (number_tests c key bed) (tests_lists c key bed v);
  outcome = λ c key bed v. Iff.trans (outcome_tests c key bed) (tests_lists c key bed v);
}
