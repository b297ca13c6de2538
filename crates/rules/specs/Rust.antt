-- The Rust over a history: its `Vad` for each strand and its ratio duck, wired as the specification says. Settings and layout are
-- given to it as stored. The bed's level has the weights of the layout's channels, and its detector hears the first.
use Rattle.std.specs.Prelude.{cond, List, eqb, take, Float}
use Rattle.demands.specs.Calls.{Reference}
use Rattle.level.specs.declared.Reading.{Reading}
use Rattle.level.specs.Bs1770.{frame_length}
use Rattle.level.specs.Deque.{Meter, meter_reading}
use Rattle.layout.specs.declared.Layout.{Layout}
use Rattle.layout.specs.Layout as layouts
use Rattle.layout.specs.Weights.{used_weights}
use Rattle.channels.specs.Deque.{Meters, new_meters, meters_next, meters_reading}
use Rattle.channels.specs.Heard.{channels_of, channels_in}
use Rattle.detector.specs.Rust as detector
use Rattle.vad.specs.declared.VadSettings.{VadSettings}
use Rattle.vad.specs.Rust.{RustVad, new_with, new_vad, reset_with, rust_reset, rust_decide, rust_push}
use Rattle.ratio.specs.declared.Inputs.{Inputs}
use Rattle.comis.specs.LoopBank.{db}
use Rattle.ratio.specs.Rust as ratio
use Rattle.settings.specs.declared.Settings.{Settings}
use Rattle.chain.specs.declared.Answer.{Answer}
use Rattle.settings.specs.Settings.{stored_of, fresh_duck, fresh_settings}
use Rattle.rules.specs.Rules.{Event, frame, settings, reset, layout, Answered, shown, noted, rules}

pub record RustChain : Type 0 where
  pub settings : Settings
  pub key : RustVad Meter
  pub bed : RustVad Meters
  pub layout : Layout
  pub ducker : ratio.State

-- `Level::new` with the weights of a layout
abbrev pub new_bed : Layout → Meters
new_bed l = new_meters (channels_of l)

abbrev pub new_chain : RustChain
new_chain = record { settings = fresh_settings; key = new_vad; bed = new_with (new_bed layouts.mono_of); layout = layouts.mono_of; ducker = ratio.new fresh_duck }

-- ---- a frame

abbrev pub bed_reading : Layout → RustVad Meters → List Float → Reading
bed_reading l v bed = meters_reading (used_weights l) v.level (channels_in l bed)

-- `push` with one frame of the bed
unfoldable pub bed_push : Layout → RustVad Meters → List Float → VadSettings → RustVad Meters
bed_push l v bed s =
    rust_decide v (detector.rust_frame v.detector (take frame_length bed)) (bed_reading l v bed) s (meters_next (used_weights l) v.level (channels_in l bed))

-- the strands after a frame, with what their levels read of it
abbrev pub rust_inputs : RustVad Meter → RustVad Meters → Reading → Reading → Inputs
rust_inputs k b dialogue bed = record {
  key_voice = k.state.speech_active;
  target_voice = b.state.speech_active;
  dialogue_short_term = dialogue.short_term;
  bed_short_term = bed.short_term;
  bed_momentary = bed.momentary;
  bed_fast = bed.fast;
}

abbrev pub rust_run : RustChain → RustVad Meter → RustVad Meters → Reading → Reading → RustChain
rust_run m k b dialogue bed =
    record { settings = m.settings; key = k; bed = b; layout = m.layout; ducker = ratio.frame m.ducker m.settings.duck (rust_inputs k b dialogue bed) }

-- key strand, bed strand, ducker
unfoldable pub rust_frame : RustChain → List Float → List Float → RustChain
rust_frame m key bed =
    rust_run m
    (rust_push m.key key m.settings.key)
    (bed_push m.layout m.bed bed m.settings.bed)
    (meter_reading m.key.level key)
    (bed_reading m.layout m.bed bed)

abbrev pub rust_answer : RustChain → Answer
rust_answer m = record { reduction = db m.ducker.reduction; status = m.ducker.status; key = m.key.state; bed = m.bed.state }

-- ---- the other calls

abbrev pub with_settings : RustChain → Settings → RustChain
with_settings m s = record { settings = s; key = m.key; bed = m.bed; layout = m.layout; ducker = m.ducker }

abbrev pub with_key : RustChain → RustVad Meter → RustChain
with_key m v = record { settings = m.settings; key = v; bed = m.bed; layout = m.layout; ducker = m.ducker }

abbrev pub with_bed : RustChain → RustVad Meters → Layout → RustChain
with_bed m v l = record { settings = m.settings; key = m.key; bed = v; layout = l; ducker = m.ducker }

abbrev pub key_anew : RustChain → RustChain
key_anew m = with_key m (rust_reset m.key)

-- with the layout's level
abbrev pub bed_anew : RustChain → RustChain
bed_anew m = with_bed m (reset_with (new_bed m.layout) m.bed) m.layout

abbrev pub level_anew : RustVad Meters → Layout → RustVad Meters
level_anew v l = record { detector = v.detector; state = v.state; hold = v.hold; speech_power = v.speech_power; level = new_bed l }

abbrev pub laid_out : RustChain → Layout → RustChain
laid_out m l = with_bed m (level_anew m.bed l) l

abbrev pub feed : RustChain → Event → RustChain
feed m (frame key bed) = rust_frame m key bed
feed m (settings a) = with_settings m (stored_of a.values)
feed m (reset n) = cond (eqb n 0) (key_anew m) (bed_anew m)
feed m (layout l) = laid_out m (layouts.stored_of l)

abbrev pub says : RustChain → Event → Answered
says m (frame key bed) = shown (rust_answer (rust_frame m key bed))
says m (settings a) = noted
says m (reset n) = noted
says m (layout l) = noted

-- all of an answer is compared
abbrev pub rust : Reference rules
rust = record { Model = RustChain; new = new_chain; feed = feed; Said = Answered; says = says; part = λ a. a }
