-- No dead unit meets the demands: the witnesses are a silent frame, and a frame with a click after it and a settings call.
use mathlib.Core.Path.{◌≡◌, refl, sym, ap, ◌∙◌}
use mathlib.Core.Bool.{Bool, true, false, true≢false}
use mathlib.Core.List.{List, [], ◌∷◌}
use lib.ListN.{length}
use borrow.Author.Tests.{eq-eqb}
use lib.Ieee.{Float, fits, lt, of_bits}
use Rattle.demands.specs.Calls.{empty, ◌▹◌}
use Rattle.demands.specs.Demands.{History, state_of, model_of}
use Rattle.demands.specs.Dead.{Lived, now, earlier, Passing, TwoAnswers, Moves}
use Rattle.demands.proofs.Dead as dead
use Rattle.level.specs.Bs1770.{frame_length}
use Rattle.float.specs.Arithmetic.{zero64, one64}
use Rattle.float.specs.AllFinite.{all_finite}
use Rattle.chain.specs.declared.Chain.{Chain}
use Rattle.chain.specs.declared.Worked.{Worked}
use Rattle.settings.specs.Settings.{stored_of}
use Rattle.chain.specs.Base.{widened, fresh_base}
use Rattle.chain.specs.Chain.{fresh_of, work_of, kept_of, bed_length, with_settings, finite_in, full_in}
use Rattle.chain.specs.Valid.{Valid}
use Rattle.rules.specs.Rules.{HeldStrand, HeldDuck, Asked, Event, frame, settings, frame_number, settings_number, rules}
use Rattle.rules.specs.Rust as model
use Rattle.dead_units.specs.Dead.{reduction_of, key_onsets, bed_onsets, is_frame, NoDeadUnits}
use Rattle.dead_units.proofs.Witness.{silence, click, late_work, work_late, fresh-rests, key_speaks, click_base, computed}
use Rattle.rules.proofs.Valid.{fresh_valid, next_valid}
use Rattle.rules.proofs.AgreesRust.{Like, like_new, like_next, like_says}
use Rattle.dead_units.proofs.Units.{stuck_fixed, repeating_repeats}

-- ---- a frame passes by its tests

frame-passes : (c : Chain) (key bed : List Float) (w : Worked) → length key ≡ frame_length → length bed ≡ bed_length c → all_finite key ≡ true → all_finite bed ≡ true
    → work_of c key bed ≡ w → finite_in w ≡ true → full_in w ≡ false → frame_number c key bed ≡ 0
unfolding frame_number
frame-passes c key bed w m n p q e f g = rw (e, f, g, p, q, eq-eqb (length key) frame_length m, eq-eqb (length bed) (bed_length c) n)

-- ---- the history: a silent frame, then a settings call

abbrev silent_frame : Event
silent_frame = frame silence silence

key-held : HeldStrand key_speaks.key
unfolding fits of_bits
key-held = (tt, tt, tt)

bed-held : HeldStrand key_speaks.bed
unfolding fits of_bits
bed-held = (tt, tt, tt)

duck-held : HeldDuck key_speaks.duck
unfolding fits of_bits
duck-held = (tt, tt, tt, tt)

abbrev asked : Asked
asked = record { values = key_speaks; key = key-held; bed = bed-held; duck = duck-held }

abbrev click_frame : Event
click_frame = frame click click

silent-work : work_of fresh_of silence silence ≡ late_work fresh_base 480 []
silent-work = work_late fresh_base fresh-rests fresh-rests 480 [] refl

silent-passes : frame_number fresh_of silence silence ≡ 0
silent-passes =
    frame-passes fresh_of silence silence (late_work fresh_base 480 []) refl refl computed.silence_sound computed.silence_sound silent-work
    computed.silent_finite computed.silent_room

settings_pass : settings_number key_speaks ≡ 0
unfolding settings_number
settings_pass = rw computed.in_range

click-work : work_of (widened click_base) click click ≡ late_work click_base 479 (one64 ∷ [])
click-work = work_late click_base computed.key_rests computed.bed_rests 479 (one64 ∷ []) refl

-- the rules' chain before the click
abbrev before : Chain
before = with_settings (kept_of fresh_of (work_of fresh_of silence silence)) (stored_of key_speaks)

before-is : before ≡ widened click_base
before-is = ap (λ (w : Worked). with_settings (kept_of fresh_of w) (stored_of key_speaks)) silent-work

click-passes : frame_number before click click ≡ 0
click-passes =
    ap (λ (c : Chain). frame_number c click click) before-is
    ∙ frame-passes (widened click_base) click click (late_work click_base 479 (one64 ∷ [])) refl refl computed.click_sound computed.click_sound click-work
    computed.click_finite computed.click_room

-- ---- what the Rust says

abbrev rust_before : model.RustChain
rust_before = model.feed (model.feed model.new_chain silent_frame) (settings asked)

before-valid : Valid before
before-valid = next_valid (kept_of fresh_of (work_of fresh_of silence silence)) (next_valid fresh_of fresh_valid silent_frame silent-passes) (settings asked) settings_pass

before_like : Like before rust_before
before_like =
    like_next (kept_of fresh_of (work_of fresh_of silence silence)) (model.feed model.new_chain silent_frame) (settings asked)
    (next_valid fresh_of fresh_valid silent_frame silent-passes)
    (like_next fresh_of model.new_chain silent_frame fresh_valid like_new silent-passes)
    settings_pass

abbrev reduces : Float → Bool
reduces x = lt zero64 x

silent-says : reduces (reduction_of (model.says model.new_chain silent_frame)) ≡ false
silent-says =
    ap (λ a. reduces (reduction_of a)) (sym (like_says fresh_of model.new_chain silent_frame fresh_valid like_new silent-passes))
    ∙ ap (λ (w : Worked). reduces w.duck.reduction.0) silent-work
    ∙ computed.silent_reduction

click-says : reduces (reduction_of (model.says rust_before click_frame)) ≡ true
click-says =
    ap (λ a. reduces (reduction_of a)) (sym (like_says before rust_before click_frame before-valid before_like click-passes))
    ∙ ap (λ (c : Chain). reduces (work_of c click click).duck.reduction.0) before-is
    ∙ ap (λ (w : Worked). reduces w.duck.reduction.0) click-work
    ∙ computed.click_reduction

-- ---- the witnesses

passing : Passing rules is_frame
passing = record { event = silent_frame; of_sort = refl; passes = silent-passes }

abbrev past : History rules
past = empty ▹ silent_frame ▹ settings asked

lived : Lived rules (past ▹ click_frame)
unfolding state_of
lived = (((tt, silent-passes), settings_pass), click-passes)

two-answers : TwoAnswers rules is_frame model.rust reduction_of
unfolding state_of model_of
two-answers = record {
  h = empty;
  e = silent_frame;
  h' = past;
  e' = click_frame;
  of_sort = refl;
  of_sort' = refl;
  lived = (tt, silent-passes);
  lived' = lived;
  apart = λ p. true≢false (sym click-says ∙ ap reduces (sym p) ∙ silent-says);
}

moves : Moves rules is_frame model.rust reduction_of
unfolding state_of model_of
moves = record {
  h = past;
  e = click_frame;
  past = empty;
  first = silent_frame;
  of_sort = refl;
  is_first = earlier (earlier (now tt refl));
  lived = lived;
  apart = λ p. true≢false (sym click-says ∙ ap reduces p ∙ silent-says);
}

pub no-dead_units : NoDeadUnits
no-dead_units = record {
  none = λ unit. record {
    not_fixed = λ d. dead.not_fixed rules unit model.rust d is_frame reduction_of two-answers;
    not_repeats = λ d. dead.not_repeats rules unit model.rust d is_frame reduction_of moves;
    not_inventing = λ d. dead.not_inventing rules unit model.rust d key_onsets;
    not_inventing_bed = λ d. dead.not_inventing rules unit model.rust d bed_onsets;
    not_refusing = λ d. dead.not-refuses-all rules unit is_frame d passing;
  };
  stuck_fixed = stuck_fixed;
  repeating_repeats = repeating_repeats;
}
