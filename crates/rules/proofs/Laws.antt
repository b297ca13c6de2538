-- The four functions do what the specification's rules say, call by call: demands' laws of events.
use mathlib.Core.Path.{◌≡◌, refl}
use mathlib.Core.Bool.{Bool, true, false, not, cond, ◌&&◌, ◌||◌}
use mathlib.Core.List.{List, [], ◌∷◌}
use lib.Dec.{eqb}
use Rattle.std.specs.Prelude.{Ok, Err}
use lib.ListN.{length}
use native.Mathlib.Omega.{arith}
use Rattle.refusal.specs.declared.Refusal.TheVariants.{ShortFrame, BadSample, BadSetting, Runaway, CounterFull, NoStrand, BadLayout}
use Rattle.refusal.specs.Table.{InTable, Row, ◌means◌, first_number}
use Rattle.demands.specs.Calls.{answer, refusal, passed, gets}
use Rattle.demands.specs.Laws.{EventLaws}
use Rattle.demands.proofs.Table.{first-in_table}
use Rattle.level.specs.Bs1770.{frame_length}
use Rattle.float.specs.AllFinite.{all_finite}
use Rattle.layout.specs.declared.Layout.{Layout}
use Rattle.layout.specs.Layout.{layout_within}
use Rattle.chain.specs.declared.Chain.{Chain}
use Rattle.chain.specs.declared.Worked.{Worked}
use Rattle.settings.specs.declared.Settings.{Settings}
use Rattle.settings.specs.Settings.{call_ranges, outside_settings, stored_of}
use Rattle.chain.specs.Chain.{Framed, Changed, work_of, refused_of, unless_refused, kept_of, answer_of, passed_of, finite_in, full_in, judged_of, bed_length, frame_of, changed, unchanged, with_settings, key_anew, bed_anew, laid_out, set_of, reset_of, layout_of}
use Rattle.chain.specs.Valid.{Valid}
use Rattle.rules.specs.Rules.{Event, frame, settings, reset, layout, shown, noted, frame_rows, settings_rows, reset_rows, layout_rows, frame_number, settings_number, reset_number, layout_number, refuses, next, answers, rules, after_frame, after_change, port}
use Rattle.rules.proofs.AllFinite.{valid-finite}
use Rattle.rules.proofs.Valid.{fresh_valid, next_valid}

-- ---- the numbers are the table's

pub number : (c : Chain) (e : Event) → (refuses c e ≡ 0 → ⊥) → InTable (refuses c e)
unfolding frame_number settings_number reset_number layout_number
number c (frame key bed) n = first-in_table (frame_rows c key bed) n
number c (settings a) n = first-in_table (settings_rows a.values) n
number c (reset k) n = first-in_table (reset_rows k) n
number c (layout l) n = first-in_table (layout_rows l) n

-- ---- a frame, by its tests: lengths, samples, finite, full

module _ (c : Chain) (w : Worked) where
  abbrev pub rows : Bool → Bool → Bool → Bool → Bool → Bool → List Row
  rows x y p q f g =
      (not x || not y) means ShortFrame ∷ (not p || not q) means BadSample ∷ not f means Runaway ∷ g means CounterFull ∷ []

  abbrev pub framed : Bool → Bool → Bool → Bool → Bool → Bool → Framed
  framed x y p q f g =
      unless_refused c (cond (x && y) (cond (p && q) (Ok tt) (Err BadSample)) (Err ShortFrame))
      (unless_refused c (cond f (cond g (Err CounterFull) (Ok tt)) (Err Runaway)) (passed_of c w))

  frame_refused : (x y p q f g : Bool) → (first_number (rows x y p q f g) ≡ 0 → ⊥)
      → after_frame (framed x y p q f g) ≡ gets (refusal (first_number (rows x y p q f g))) [] c
  unfolding refused_of
  frame_refused false y p q f g n = refl
  frame_refused true false p q f g n = refl
  frame_refused true true false q f g n = refl
  frame_refused true true true false f g n = refl
  frame_refused true true true true false g n = refl
  frame_refused true true true true true true n = refl
  frame_refused true true true true true false n = absurd (n refl)

  frame-passes : (x y p q f g : Bool) → first_number (rows x y p q f g) ≡ 0
      → after_frame (framed x y p q f g) ≡ gets (passed (answer (shown (answer_of w)))) [] (kept_of c w)
  unfolding passed_of
  frame-passes false y p q f g z = absurd (omega arith)
  frame-passes true false p q f g z = absurd (omega arith)
  frame-passes true true false q f g z = absurd (omega arith)
  frame-passes true true true false f g z = absurd (omega arith)
  frame-passes true true true true false g z = absurd (omega arith)
  frame-passes true true true true true true z = absurd (omega arith)
  frame-passes true true true true true false z = refl

-- ---- a settings call, a reset and a layout call

module _ (c : Chain) where
  abbrev set_by : Bool → Settings → Changed
  set_by o s = cond o (unchanged c BadSetting) (changed (with_settings c (stored_of s)))

  set-refused : (o : Bool) (s : Settings) → (first_number (o means BadSetting ∷ []) ≡ 0 → ⊥)
      → after_change (set_by o s) ≡ gets (refusal (first_number (o means BadSetting ∷ []))) [] c
  set-refused true s n = refl
  set-refused false s n = absurd (n refl)

  set-passes : (o : Bool) (s : Settings) → first_number (o means BadSetting ∷ []) ≡ 0
      → after_change (set_by o s) ≡ gets (passed (answer noted)) [] (with_settings c (stored_of s))
  set-passes true s z = absurd (omega arith)
  set-passes false s z = refl

  abbrev reset_by : Bool → Bool → Changed
  reset_by x y = cond x (changed (key_anew c)) (cond y (changed (bed_anew c)) (unchanged c NoStrand))

  reset-refused : (x y : Bool) → (first_number (not (x || y) means NoStrand ∷ []) ≡ 0 → ⊥)
      → after_change (reset_by x y) ≡ gets (refusal (first_number (not (x || y) means NoStrand ∷ []))) [] c
  reset-refused true y n = absurd (n refl)
  reset-refused false true n = absurd (n refl)
  reset-refused false false n = refl

  reset-passes : (x y : Bool) → first_number (not (x || y) means NoStrand ∷ []) ≡ 0
      → after_change (reset_by x y) ≡ gets (passed (answer noted)) [] (cond x (key_anew c) (bed_anew c))
  reset-passes true y z = refl
  reset-passes false true z = refl
  reset-passes false false z = absurd (omega arith)

  abbrev layout_by : Bool → Layout → Changed
  layout_by w l = cond w (changed (laid_out c l)) (unchanged c BadLayout)

  layout-refused : (w : Bool) (l : Layout) → (first_number (not w means BadLayout ∷ []) ≡ 0 → ⊥)
      → after_change (layout_by w l) ≡ gets (refusal (first_number (not w means BadLayout ∷ []))) [] c
  layout-refused true l n = absurd (n refl)
  layout-refused false l n = refl

  layout-passes : (w : Bool) (l : Layout) → first_number (not w means BadLayout ∷ []) ≡ 0
      → after_change (layout_by w l) ≡ gets (passed (answer noted)) [] (laid_out c l)
  layout-passes true l z = refl
  layout-passes false l z = absurd (omega arith)

-- ---- each call

pub refused : (c : Chain) (e : Event) → (refuses c e ≡ 0 → ⊥) → port c e ≡ gets (refusal (refuses c e)) [] c
unfolding frame_of judged_of set_of reset_of layout_of frame_number settings_number reset_number layout_number
refused c (frame key bed) n =
    let w = work_of c key bed in
    frame_refused c w (eqb (length key) frame_length) (eqb (length bed) (bed_length c)) (all_finite key) (all_finite bed) (finite_in w) (full_in w) n
refused c (settings a) n = set-refused c (outside_settings call_ranges a.values) a.values n
refused c (reset k) n = reset-refused c (eqb k 0) (eqb k 1) n
refused c (layout l) n = layout-refused c (layout_within l) l n

pub passes : (c : Chain) (e : Event) → refuses c e ≡ 0 → port c e ≡ gets (passed (answer (answers c e))) [] (next c e)
unfolding frame_of judged_of set_of reset_of layout_of frame_number settings_number reset_number layout_number
passes c (frame key bed) z =
    let w = work_of c key bed in
    frame-passes c w (eqb (length key) frame_length) (eqb (length bed) (bed_length c)) (all_finite key) (all_finite bed) (finite_in w) (full_in w) z
passes c (settings a) z = set-passes c (outside_settings call_ranges a.values) a.values z
passes c (reset k) z = reset-passes c (eqb k 0) (eqb k 1) z
passes c (layout l) z = layout-passes c (layout_within l) l z

abbrev pub laws : EventLaws rules port
laws = record {
  Valid = Valid;
  finite = valid-finite;
  fresh_valid = fresh_valid;
  next_valid = λ c e v z. next_valid c v e z;
  number = λ c e v n. number c e n;
  refused = λ c e v n. refused c e n;
  passes = λ c e v z. passes c e z;
}
