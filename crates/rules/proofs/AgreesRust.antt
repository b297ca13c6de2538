-- The Rust keeps step with the rules: strand by strand, and the ducker's state holds the loops.
use Prim.Native.Nat.{ℕ, ◌*◌}
use native.Mathlib.Omega.{arith}
use mathlib.Core.Path.{◌≡◌, refl, sym, ap, ap₂, ◌∙◌}
use mathlib.Core.Bool.{Bool, true, false, cond}
use mathlib.Core.List.{List, []}
use lib.Dec.{T, eqb}
use lib.ListN.{length, length-take}
use lib.Ieee.{Float, of_bits}
use Rattle.demands.specs.Laws.{Agrees}
use Rattle.level.specs.Bs1770.{frame_length}
use Rattle.level.specs.declared.Level.{Level}
use Rattle.level.specs.Level as level
use Rattle.level.specs.Deque.{Meter, meter_reading}
use Rattle.level.proofs.Deque.{level-deque-reading}
use Rattle.layout.specs.declared.Layout.{Layout}
use Rattle.layout.specs.Layout.{most, stored_of, mono_of}
use Rattle.layout.specs.Weights.{used_weights}
use Rattle.channels.specs.declared.Surround.{Surround}
use Rattle.channels.specs.declared.BedFramed.{BedFramed}
use Rattle.channels.specs.Channels.{resting}
use Rattle.channels.specs.Surround.{resting_others, resting_of, bed_frame_of}
use Rattle.channels.specs.Deque.{Meters, meters_next, meters_reading, bed_meters}
use Rattle.channels.specs.Heard.{channels_of, channels_in}
use Rattle.layout.proofs.Used.{few-used}
use Rattle.std.proofs.lemmas.List.{take-replicate}
use Rattle.channels.proofs.Promised.{bed-laws}
use Rattle.detector.specs.Detector as detector
use Rattle.vad.specs.declared.Framed as heard
use Rattle.vad.specs.declared.VadSettings.{VadSettings}
use Rattle.vad.specs.declared.VadState.{VadState}
use Rattle.vad.specs.declared.Strand.{Strand}
use Rattle.vad.specs.Strand as strand
use Rattle.vad.specs.Rust.{RustVad, rust_push}
use Rattle.vad.specs.Agrees as vad
use Rattle.vad.proofs.Rust.{decide-state, decide-agrees, new-agrees, anew-agrees, push-state, push-agrees, fresh-agrees, reset-agrees}
use Rattle.comis.specs.declared.mix_state.MixState.TheVariants.{ReleaseToUnity}
use Rattle.comis.specs.declared.engine.AutomixEngineConfig.{AutomixEngineConfig}
use Rattle.float.specs.Arithmetic.{one64}
use Rattle.ratio.specs.declared.Duck.{Duck}
use Rattle.ratio.specs.declared.Inputs.{Inputs}
use Rattle.ratio.specs.Lists.{DuckStored}
use Rattle.comis.specs.LoopBank.{db, zero_loops}
use Rattle.ratio.specs.Status.{config_of}
use Rattle.ratio.specs.Frame as frames
use Rattle.ratio.specs.Rust as ratio
use Rattle.ratio.proofs.Rust.{Holds, Same, frame_same}
use Rattle.settings.specs.declared.Settings.{Settings}
use Rattle.chain.specs.declared.Chain.{Chain}
use Rattle.chain.specs.declared.Answer.{Answer}
use Rattle.settings.specs.Settings.{image_ranges, fresh_duck}
use Rattle.chain.specs.Chain.{fresh_of, inputs_of, bed_level_of, first_channel, bed_strand_of, work_of, kept_of, answer_of, key_anew, bed_anew}
use Rattle.chain.specs.Valid.{Valid}
use Rattle.settings.specs.Valid.{DuckValid}
use Rattle.rules.specs.Rules.{Event, frame, settings, reset, layout, shown, refuses, next, answers, rules}
use Rattle.rules.specs.Rust as model
use Rattle.settings.proofs.Zero.{no_minus}
use Rattle.rules.proofs.Accepted.{Accepted, accepted}
use Rattle.rules.proofs.Valid.{fresh_valid, bed_samples}
use Rattle.rules.proofs.Beds.{channels-valid}

-- ---- what agrees

-- a bed's level, with what a chain keeps beside it
abbrev pub Bedded : Surround → Level → Meters → Type 0
Bedded s l m = m ≡ bed_meters l s

pub record Like (c : Chain) (m : model.RustChain) : Type 0 where
  pub settings : m.settings ≡ c.settings
  pub key : vad.Agrees c.key m.key
  pub bed : vad.AgreesBy (Bedded c.surround) c.bed m.bed
  pub layout : m.layout ≡ c.surround.layout
  pub config : AutomixEngineConfig
  pub ducker : Holds config m.ducker c.loops

-- the ducker's settings, as a valid chain has them
duck-stored : (d : Duck) → DuckValid image_ranges d → DuckStored d
unfolding of_bits
duck-stored d v = record {
  target = (no_minus image_ranges.ratio_lu d.target_lu tt v.target_lu, v.target_lu.number.1);
  overvoice = (no_minus image_ranges.ratio_lu d.overvoice_lu tt v.overvoice_lu, v.overvoice_lu.number.1);
  most = (no_minus image_ranges.max_reduction_db d.max_reduction_db.0 tt v.max_reduction_db, v.max_reduction_db.number.1);
  speed = (no_minus image_ranges.speed d.speed tt v.speed, v.speed.number.1);
}

-- ---- fresh

new-holds : (d : Duck) → DuckStored d → Holds (config_of d) (ratio.new d) zero_loops
unfolding ratio.new
new-holds d p = record {
  releasing = false;
  interview = false;
  speedup = one64;
  before = ReleaseToUnity;
  engine = refl;
  config = refl;
  stored = record { target = p.target; overvoice = p.overvoice; most = p.most; speed = p.speed };
}

-- a new level of a layout
new_bedded : (l : Layout) → Bedded (resting_of l) level.fresh_of (model.new_bed l)
unfolding resting_others
new_bedded l = λ i. record { channels = sym (take-replicate (channels_of l) most resting (few-used l)) i; frames = [] }

pub like_new : Like fresh_of model.new_chain
like_new = record {
  settings = refl;
  key = fresh-agrees;
  bed = new-agrees (model.new_bed mono_of) (new_bedded mono_of);
  layout = refl;
  config = config_of fresh_duck;
  ducker = new-holds fresh_duck (duck-stored fresh_duck fresh_valid.settings.duck);
}

-- ---- a strand's reading

reading-same : (t : Strand) (v : RustVad Meter) → vad.Agrees t v → (xs : List Float) (s : VadSettings) → meter_reading v.level xs ≡ (strand.frame_of t xs s).reading
unfolding strand.frame_of strand.finish_of
reading-same t v a xs s = ap (λ (m : Meter). meter_reading m xs) a.level.meter ∙ sym (level-deque-reading t.level xs a.level.places)

-- ---- a frame

module _ (c : Chain) (m : model.RustChain) (v : Valid c) (l : Like c m) (key bed : List Float) (a : Accepted c key bed) where
  abbrev ks : VadSettings
  ks = c.settings.key

  abbrev bs : VadSettings
  bs = c.settings.bed

  abbrev lay : Layout
  lay = c.surround.layout

  key_finite : T (strand.frame_of c.key key ks).finite
  unfolding work_of
  key_finite = a.key_finite

  key-state : (rust_push m.key key ks).state ≡ (strand.frame_of c.key key ks).state
  key-state = push-state c.key m.key l.key key a.whole.key_length ks key_finite

  -- the bed's level, in the port and in the Rust
  abbrev framed : BedFramed
  framed = bed_level_of c bed

  keeps : (bed_meters framed.framed.level framed.surround ≡ meters_next (used_weights lay) (bed_meters c.bed.level c.surround) (channels_in lay bed))
      × (framed.framed.reading ≡ meters_reading (used_weights lay) (bed_meters c.bed.level c.surround) (channels_in lay bed))
  keeps = bed-laws.keeps_layout c.bed.level c.surround bed v.surround.others.size v.bed.level.powers.size
      (bed_samples c v bed a.whole.bed_length ∙ ap (λ (n : ℕ). n * frame_length) (sym (channels-valid lay v.surround.layout)))

  bed-reading : model.bed_reading lay m.bed bed ≡ framed.framed.reading
  bed-reading = ap (λ (x : Meters). meters_reading (used_weights lay) x (channels_in lay bed)) l.bed.level ∙ sym keeps.1

  bed-next : Bedded framed.surround framed.framed.level (meters_next (used_weights lay) m.bed.level (channels_in lay bed))
  bed-next = ap (λ (x : Meters). meters_next (used_weights lay) x (channels_in lay bed)) l.bed.level ∙ sym keeps.0

  first-length : length (first_channel bed) ≡ 480
  first-length = length-take frame_length bed ∙ omega (arith, bed_samples c v bed a.whole.bed_length, v.surround.layout.some)

  bed_finite : T (strand.finish_of c.bed.decision framed.framed (detector.frame_of c.bed.detector (first_channel bed)) bs).finite
  unfolding work_of bed_strand_of
  bed_finite = a.bed_finite

  abbrev bed_frame : heard.Framed
  bed_frame = bed_strand_of c.bed framed.framed bed bs

  bed-state : (model.bed_push lay m.bed bed bs).state ≡ bed_frame.state
  unfolding model.bed_push bed_strand_of
  bed-state = decide-state c.bed m.bed l.bed (first_channel bed) first-length bs framed.framed (model.bed_reading lay m.bed bed) (meters_next (used_weights lay) m.bed.level (channels_in lay bed)) bed-reading bed_finite

  bed-agrees : vad.AgreesBy (Bedded framed.surround) bed_frame.strand (model.bed_push lay m.bed bed bs)
  unfolding model.bed_push bed_strand_of
  bed-agrees = decide-agrees c.bed m.bed l.bed (first_channel bed) first-length bs framed.framed (model.bed_reading lay m.bed bed) (meters_next (used_weights lay) m.bed.level (channels_in lay bed)) bed-reading bed_finite (Bedded framed.surround) bed-next

  bed-reads : model.bed_reading lay m.bed bed ≡ bed_frame.reading
  unfolding bed_strand_of strand.finish_of
  bed-reads = bed-reading

  -- settings and layout are the chain's
  abbrev at : Settings → Layout → model.RustChain
  at s x =
      model.rust_run (record { settings = s; key = m.key; bed = m.bed; layout = x; ducker = m.ducker })
      (rust_push m.key key s.key)
      (model.bed_push x m.bed bed s.bed)
      (meter_reading m.key.level key)
      (model.bed_reading x m.bed bed)

  -- the ducker is given what the port's is
  inputs-same : model.rust_inputs (rust_push m.key key ks) (model.bed_push lay m.bed bed bs) (meter_reading m.key.level key) (model.bed_reading lay m.bed bed)
      ≡ inputs_of (strand.frame_of c.key key ks) bed_frame
  unfolding inputs_of
  inputs-same =
      let rk = reading-same c.key m.key l.key key ks in
      λ i. record {
        key_voice = (key-state i).speech_active;
        target_voice = (bed-state i).speech_active;
        dialogue_short_term = (rk i).short_term;
        bed_short_term = (bed-reads i).short_term;
        bed_momentary = (bed-reads i).momentary;
        bed_fast = (bed-reads i).fast;
      }

  -- the Rust's chain after the frame, with the port's inputs
  abbrev ran : Inputs → model.RustChain
  ran i = record {
    settings = c.settings;
    key = rust_push m.key key ks;
    bed = model.bed_push lay m.bed bed bs;
    layout = lay;
    ducker = ratio.frame m.ducker c.settings.duck i;
  }

  abbrev read : Inputs
  read = inputs_of (strand.frame_of c.key key ks) bed_frame

  frame_is : model.rust_frame m key bed ≡ ran read
  unfolding model.rust_frame
  frame_is = ap₂ at l.settings l.layout ∙ ap ran inputs-same

  ducked : Same c.settings.duck (ratio.frame m.ducker c.settings.duck read) (frames.frame_of c.loops c.settings.duck read)
  ducked = frame_same l.config m.ducker c.loops c.settings.duck read l.ducker (duck-stored c.settings.duck v.settings.duck)

  pub frame_like : Like (kept_of c (work_of c key bed)) (model.rust_frame m key bed)
  unfolding work_of
  frame_like = rw frame_is
      (record {
        settings = refl;
        key = push-agrees c.key m.key l.key key a.whole.key_length ks key_finite;
        bed = bed-agrees;
        layout = unfold bed_frame_of in refl;
        config = config_of c.settings.duck;
        ducker = ducked.holds;
      })

  -- an answer by the ducker's answer and the strands' states
  abbrev answered : ratio.Answer → VadState → VadState → Answer
  answered d k b = record { reduction = db d.reduction; status = d.status; key = k; bed = b }

  pub frame-says : answer_of (work_of c key bed) ≡ model.rust_answer (model.rust_frame m key bed)
  unfolding work_of
  frame-says = rw frame_is (λ i. answered (sym ducked.answers i) (sym key-state i) (sym bed-state i))

-- ---- any event

reset_like : (c : Chain) (m : model.RustChain) (n : ℕ) → Like c m → Like (next c (reset n)) (model.feed m (reset n))
reset_like c m n l = go (eqb n 0)
  where
    rest : Bedded (resting_of c.surround.layout) level.fresh_of (model.new_bed m.layout)
    rest = ap model.new_bed l.layout ∙ new_bedded c.surround.layout

    go : (b : Bool) → Like (cond b (key_anew c) (bed_anew c)) (cond b (model.key_anew m) (model.bed_anew m))
    go true = record { settings = l.settings; key = reset-agrees c.key m.key l.key; bed = l.bed; layout = l.layout; config = l.config; ducker = l.ducker }
    go false = record {
      settings = l.settings;
      key = l.key;
      bed = anew-agrees c.bed m.bed (model.new_bed m.layout) l.bed rest;
      layout = l.layout;
      config = l.config;
      ducker = l.ducker;
    }

layout_like : (c : Chain) (m : model.RustChain) (x : Layout) → Like c m → Like (next c (layout x)) (model.feed m (layout x))
layout_like c m x l = record {
  settings = l.settings;
  key = l.key;
  bed = record {
    level = new_bedded (stored_of x);
    detector = l.bed.detector;
    active = l.bed.active;
    probability = l.bed.probability;
    onsets = l.bed.onsets;
    offsets = l.bed.offsets;
    hold = l.bed.hold;
    power = l.bed.power;
    speech_level = l.bed.speech_level;
  };
  layout = refl;
  config = l.config;
  ducker = l.ducker;
}

pub like_next : (c : Chain) (m : model.RustChain) (e : Event) → Valid c → Like c m → refuses c e ≡ 0 → Like (next c e) (model.feed m e)
like_next c m (frame key bed) v l z = frame_like c m v l key bed (accepted c key bed z)
like_next c m (settings a) v l z = record { settings = refl; key = l.key; bed = l.bed; layout = l.layout; config = l.config; ducker = l.ducker }
like_next c m (reset n) v l z = reset_like c m n l
like_next c m (layout x) v l z = layout_like c m x l

pub like_says : (c : Chain) (m : model.RustChain) (e : Event) → Valid c → Like c m → refuses c e ≡ 0 → answers c e ≡ model.says m e
like_says c m (frame key bed) v l z = ap shown (frame-says c m v l key bed (accepted c key bed z))
like_says c m (settings a) v l z = refl
like_says c m (reset n) v l z = refl
like_says c m (layout x) v l z = refl

abbrev pub rust-agrees : Agrees rules Valid model.rust
rust-agrees = record { Like = Like; like_new = like_new; like_next = like_next; like_says = like_says }
