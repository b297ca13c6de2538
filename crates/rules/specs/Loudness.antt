-- BS.1770's loudness of a history: each loudness that an answer shows, and each reading that the ducker is given, of all samples of a strand since it
-- was last reset, and of the bed since its layout was last set. The bed's is that of all its channels.
use Rattle.std.specs.Prelude.{◌≡◌, Bool, true, cond, List, [], ◌++◌, eqb, replicate, Float}
use Rattle.std.specs.Float.Ieee.{lt}
use Rattle.demands.specs.Calls.{Log, empty, ◌▹◌, Reference, of_history}
use Rattle.demands.specs.Demands.{state_of}
use Rattle.demands.specs.Dead.{Lived}
use Rattle.level.specs.declared.Reading.{Reading}
use Rattle.float.specs.Silence.{silence_lufs}
use Rattle.level.specs.Heard as one-channel
use Rattle.layout.specs.declared.Layout.{Layout}
use Rattle.layout.specs.Layout.{mono_of, stored_of}
use Rattle.layout.specs.Weights.{used_weights}
use Rattle.channels.specs.Bs1770 as channels
use Rattle.channels.specs.Bs1770.{Source}
use Rattle.channels.specs.Heard.{each, sources, channels_of, channels_in}
use Rattle.vad.specs.declared.VadState.{VadState}
use Rattle.vad.specs.State.{tenths_of}
use Rattle.comis.specs.declared.Shown as duck
use Rattle.comis.specs.declared.Shown.TheVariants.{Silence, Level}
use Rattle.ratio.specs.declared.Inputs.{Inputs}
use Rattle.chain.specs.Chain.{inputs_of, work_of}
use Rattle.rules.specs.Rules.{Event, frame, settings, reset, layout, Answered, shown, noted, rules}

-- the samples, oldest first
abbrev pub key_heard : Log Event → List Float
key_heard empty = []
key_heard (h ▹ frame key bed) = key_heard h ++ key
key_heard (h ▹ settings a) = key_heard h
key_heard (h ▹ reset n) = cond (eqb n 0) [] (key_heard h)
key_heard (h ▹ layout l) = key_heard h

-- the bed's layout in force, as it is stored
abbrev pub layout_in : Log Event → Layout
layout_in empty = mono_of
layout_in (h ▹ frame key bed) = layout_in h
layout_in (h ▹ settings a) = layout_in h
layout_in (h ▹ reset n) = layout_in h
layout_in (h ▹ layout l) = stored_of l

-- nothing, for each channel
abbrev pub nothing : Layout → List (List Float)
nothing l = replicate (channels_of l) []

-- the samples of each of the bed's channels since the last reset of the bed or layout call
abbrev pub bed_heard : Log Event → List (List Float)
bed_heard empty = nothing mono_of
bed_heard (h ▹ frame key bed) = each (bed_heard h) (channels_in (layout_in h) bed)
bed_heard (h ▹ settings a) = bed_heard h
bed_heard (h ▹ reset n) = cond (eqb n 0) (bed_heard h) (nothing (layout_in h))
bed_heard (h ▹ layout l) = nothing (stored_of l)

-- with a frame more: each channel with its weight and all its samples
abbrev pub bed_sources : Log Event → List Float → List Source
bed_sources h bed = sources (used_weights (layout_in h)) (each (bed_heard h) (channels_in (layout_in h) bed))

-- whether the ducker is on: as the latest settings call says, and on where there was none
abbrev pub enabled_in : Log Event → Bool
enabled_in empty = true
enabled_in (h ▹ frame key bed) = enabled_in h
enabled_in (h ▹ settings a) = a.values.duck.enabled
enabled_in (h ▹ reset n) = enabled_in h
enabled_in (h ▹ layout l) = enabled_in h

-- ---- what BS.1770 says of a strand's samples, with a frame more: power, momentary, short-term, fast

abbrev pub key_reads : Log Event → List Float → Reading
key_reads h key = one-channel.bs1770 (key_heard h ++ key)

abbrev pub bed_reads : Log Event → List Float → Reading
bed_reads h bed = channels.bs1770 (bed_sources h bed)

-- ---- what an answer shows

-- of a strand: LUFS, to a tenth
pub record Shown : Type 0 where
  pub momentary : Float
  pub short_term : Float

-- of what a level reads, and in an answer
abbrev pub loudness_of : Reading → Shown
loudness_of r = record { momentary = tenths_of r.momentary.0; short_term = tenths_of r.short_term.0 }

abbrev pub shown_of : VadState → Shown
shown_of s = record { momentary = s.momentary_lufs.0; short_term = s.short_term_lufs.0 }

-- of the ducker: short-term, LUFS, to a tenth; silence at -100 and below, and while it is off
abbrev pub reading_of : Bool → Reading → duck.Shown
reading_of enabled r = cond enabled (cond (lt silence_lufs r.short_term.0) (Level (tenths_of r.short_term.0)) Silence) Silence

-- a frame's: of the key strand, of the bed strand, and the ducker's dialogue and bed; any other call has none
pub data Said : Type 0 where
  loud : Shown → Shown → duck.Shown → duck.Shown → Said
  none : Said

abbrev pub says_of : Bool → Reading → Reading → Said
says_of enabled key bed = loud (loudness_of key) (loudness_of bed) (reading_of enabled key) (reading_of enabled bed)

abbrev pub says : Log Event → Event → Said
says h (frame key bed) = says_of (enabled_in h) (key_reads h key) (bed_reads h bed)
says h (settings a) = none
says h (reset n) = none
says h (layout l) = none

abbrev pub part : Answered → Said
part (shown a) = loud (shown_of a.key) (shown_of a.bed) a.status.dialogue_lufs a.status.bed_lufs
part noted = none

abbrev pub loudness : Reference rules
loudness = of_history rules Said says part

-- ---- what the ducker is given, unrounded, LUFS

pub record Given : Type 0 where
  pub dialogue_short_term : Float
  pub bed_short_term : Float
  pub bed_momentary : Float
  pub bed_fast : Float

-- of what the key and the bed read, and in the ducker's inputs
abbrev pub given : Reading → Reading → Given
given key bed = record {
  dialogue_short_term = key.short_term.0;
  bed_short_term = bed.short_term.0;
  bed_momentary = bed.momentary.0;
  bed_fast = bed.fast.0;
}

abbrev pub given_of : Inputs → Given
given_of i = record {
  dialogue_short_term = i.dialogue_short_term.0;
  bed_short_term = i.bed_short_term.0;
  bed_momentary = i.bed_momentary.0;
  bed_fast = i.bed_fast.0;
}

-- THE PROMISE: after every history, in a frame that passes
pub record Readings (h : Log Event) (key bed : List Float) : Type 0 where
  -- each strand reads what BS.1770 says of its samples since its last reset, the bed's since the last layout call too
  pub of_key : (work_of (state_of rules h) key bed).key.reading ≡ key_reads h key
  pub of_bed : (work_of (state_of rules h) key bed).bed.reading ≡ bed_reads h bed
  -- and the ducker is given these
  pub of_ducker : given_of (inputs_of (work_of (state_of rules h) key bed).key (work_of (state_of rules h) key bed).bed) ≡ given (key_reads h key) (bed_reads h bed)

abbrev pub ReadsBs1770 : Type 0
ReadsBs1770 = (h : Log Event) (key bed : List Float) → Lived rules (h ▹ frame key bed) → Readings h key bed
