-- A chain's calls: fresh, a frame, a settings call, a reset, a layout call. A refused call leaves the chain as it was.
use Rattle.std.specs.Prelude.{ℕ, ◌*◌, Bool, cond, ◌&&◌, ◌||◌, List, eqb, length, take, Float, Result, Ok, Err}
use Rattle.refusal.specs.declared.Refusal.{Refusal}
use Rattle.refusal.specs.declared.Refusal.TheVariants.{ShortFrame, BadSample, BadSetting, Runaway, CounterFull, NoStrand, BadLayout}
use Rattle.level.specs.Bs1770.{frame_length}
use Rattle.float.specs.AllFinite.{all_finite}
use Rattle.level.specs.Level as level
use Rattle.level.specs.declared.Framed as metered
use Rattle.layout.specs.declared.Layout.{Layout}
use Rattle.layout.specs.Layout as layout
use Rattle.channels.specs.declared.Surround.{Surround}
use Rattle.channels.specs.declared.BedFramed.{BedFramed}
use Rattle.channels.specs.Surround as channels
use Rattle.detector.specs.Detector as detector
use Rattle.vad.specs.declared.VadSettings.{VadSettings}
use Rattle.vad.specs.declared.Strand.{Strand}
use Rattle.vad.specs.declared.Framed as heard
use Rattle.vad.specs.Strand as strand
use Rattle.comis.specs.LoopBank.{zero_loops}
use Rattle.ratio.specs.declared.Inputs.{Inputs}
use Rattle.ratio.specs.Frame as ratio
use Rattle.settings.specs.declared.Settings.{Settings}
use Rattle.chain.specs.declared.Chain.{Chain}
use Rattle.chain.specs.declared.Answer.{Answer}
use Rattle.chain.specs.declared.After.{After}
use Rattle.chain.specs.declared.Worked.{Worked}
use Rattle.settings.specs.Settings.{call_ranges, outside_settings, stored_of, fresh_settings}

-- ---- what a call leaves and gets

-- of a frame, and of a settings call, a reset and a layout call
abbrev pub Framed : Type 0
Framed = After Answer

abbrev pub Changed : Type 0
Changed = After Unit

-- refused, and the chain as it was
abbrev pub left_as_was : {A : Type 0} → Chain → Refusal → After A
left_as_was c r = record { chain = c; outcome = Err r }

-- ---- fresh

abbrev pub fresh_of : Chain
fresh_of = record { settings = fresh_settings; key = strand.fresh_of; bed = strand.fresh_of; loops = zero_loops; surround = channels.mono_surround }

-- ---- a part replaced

abbrev pub with_settings : Chain → Settings → Chain
with_settings c s = record { settings = s; key = c.key; bed = c.bed; loops = c.loops; surround = c.surround }

abbrev pub with_key : Chain → Strand → Chain
with_key c t = record { settings = c.settings; key = t; bed = c.bed; loops = c.loops; surround = c.surround }

abbrev pub with_bed : Chain → Strand → Surround → Chain
with_bed c t s = record { settings = c.settings; key = c.key; bed = t; loops = c.loops; surround = s }

-- ---- a frame: key strand, bed strand, ducker

-- what the ducker reads: each strand's activity after this frame, the key's short-term loudness, the bed's readings, all unrounded
unfoldable pub inputs_of : heard.Framed → heard.Framed → Inputs
inputs_of k b = record {
  key_voice = k.state.speech_active;
  target_voice = b.state.speech_active;
  dialogue_short_term = k.reading.short_term;
  bed_short_term = b.reading.short_term;
  bed_momentary = b.reading.momentary;
  bed_fast = b.reading.fast;
}

-- the bed's level after a frame: every channel, 480 samples each, one channel after the other
abbrev pub bed_level_of : Chain → List Float → BedFramed
bed_level_of c bed = channels.bed_frame_of c.bed.level c.surround bed

-- what its detector hears: channel 1
abbrev pub first_channel : List Float → List Float
first_channel bed = take frame_length bed

-- the bed strand after a frame, with its level after it
unfoldable pub bed_strand_of : Strand → metered.Framed → List Float → VadSettings → heard.Framed
bed_strand_of t l bed s = strand.finish_of t.decision l (detector.frame_of t.detector (first_channel bed)) s

abbrev pub worked_of : Chain → heard.Framed → heard.Framed → Surround → Worked
worked_of c k b s = record { key = k; bed = b; surround = s; duck = ratio.frame_of c.loops c.settings.duck (inputs_of k b) }

unfoldable pub work_of : Chain → List Float → List Float → Worked
work_of c key bed =
    worked_of c
    (strand.frame_of c.key key c.settings.key)
    (bed_strand_of c.bed (bed_level_of c bed).framed bed c.settings.bed)
    (bed_level_of c bed).surround

unfoldable pub refused_of : Chain → Refusal → Framed
refused_of c r = left_as_was c r

-- what the frame gets where its tests say nothing
abbrev pub unless_refused : Chain → Result Unit Refusal → Framed → Framed
unless_refused c (Ok t) f = f
unless_refused c (Err r) f = refused_of c r

-- the chain and the answer where the frame passes
abbrev pub kept_of : Chain → Worked → Chain
kept_of c w = record { settings = c.settings; key = w.key.strand; bed = w.bed.strand; loops = w.duck.loops; surround = w.surround }

abbrev pub answer_of : Worked → Answer
answer_of w = record { reduction = w.duck.reduction; status = w.duck.status; key = w.key.state; bed = w.bed.state }

unfoldable pub passed_of : Chain → Worked → Framed
passed_of c w = record { chain = kept_of c w; outcome = Ok (answer_of w) }

-- every number that would be stored, answered or handed to a stand-in is finite
abbrev pub finite_in : Worked → Bool
finite_in w = (w.key.finite && w.bed.finite) && w.duck.finite

-- an onset would pass the limit
abbrev pub full_in : Worked → Bool
full_in w = w.key.full || w.bed.full

-- whether what was worked out can be kept
abbrev pub verdict_of : Worked → Result Unit Refusal
verdict_of w = cond (finite_in w) (cond (full_in w) (Err CounterFull) (Ok tt)) (Err Runaway)

unfoldable pub judged_of : Chain → Worked → Framed
judged_of c w = unless_refused c (verdict_of w) (passed_of c w)

-- 480 samples for each channel of the layout in force
abbrev pub channel_count : Chain → ℕ
channel_count c = layout.channel_count c.surround.layout.count

abbrev pub bed_length : Chain → ℕ
bed_length c = channel_count c * frame_length

-- the key has its 480 samples and the bed its own, and each sample is finite
abbrev pub whole_frame : Chain → List Float → List Float → Bool
whole_frame c key bed = eqb (length key) frame_length && eqb (length bed) (bed_length c)

abbrev pub sound_frame : List Float → List Float → Bool
sound_frame key bed = all_finite key && all_finite bed

-- whether a frame can be heard
abbrev pub heard_of : Chain → List Float → List Float → Result Unit Refusal
heard_of c key bed = cond (whole_frame c key bed) (cond (sound_frame key bed) (Ok tt) (Err BadSample)) (Err ShortFrame)

unfoldable pub frame_of : Chain → List Float → List Float → Framed
frame_of c key bed = unless_refused c (heard_of c key bed) (judged_of c (work_of c key bed))

-- ---- a settings call, a reset and a layout call

abbrev pub changed : Chain → Changed
changed c = record { chain = c; outcome = Ok tt }

abbrev pub unchanged : Chain → Refusal → Changed
unchanged c r = left_as_was c r

unfoldable pub set_of : Chain → Settings → Changed
set_of c s = cond (outside_settings call_ranges s) (unchanged c BadSetting) (changed (with_settings c (stored_of s)))

-- a strand begun anew; the bed keeps its layout
abbrev pub key_anew : Chain → Chain
key_anew c = with_key c (strand.reset_of c.key)

abbrev pub bed_anew : Chain → Chain
bed_anew c = with_bed c (strand.reset_of c.bed) (channels.resting_of c.surround.layout)

unfoldable pub reset_of : Chain → ℕ → Changed
reset_of c n = cond (eqb n 0) (changed (key_anew c)) (cond (eqb n 1) (changed (bed_anew c)) (unchanged c NoStrand))

-- the bed strand with a fresh level
abbrev pub level_anew : Strand → Strand
level_anew t = record { level = level.fresh_of; detector = t.detector; decision = t.decision }

-- an accepted layout: the bed's level is fresh, and all else of the bed stays
abbrev pub laid_out : Chain → Layout → Chain
laid_out c l = with_bed c (level_anew c.bed) (channels.resting_of (layout.stored_of l))

unfoldable pub layout_of : Chain → Layout → Changed
layout_of c l = cond (layout.layout_within l) (changed (laid_out c l)) (unchanged c BadLayout)
