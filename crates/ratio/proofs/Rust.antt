-- After any list of frames ours answers as the Rust does: what its engine keeps besides the loops is set by each frame before anything reads it,
-- and a config that isn't set anew is the one that the frame asks for.
use mathlib.Core.Path.{◌≡◌, refl, sym, ap, ap₂, ◌∙◌, subst}
use mathlib.Core.Bool.{Bool, true, false, not, ◌&&◌, beq, cond}
use mathlib.Core.List.{List, [], ◌∷◌}
use lib.Dec.{T}
use lib.Ieee.{Float, binary64, eq}
use lib.Ieee.Fits.{and_l, and_r}
use Rattle.float.specs.Valid.{NoMinus}
use Rattle.comis.specs.declared.mix_state.MixState.{MixState}
use Rattle.comis.specs.declared.mix_state.MixState.TheVariants.{ReleaseToUnity, DuckToTarget, InterviewPassthrough, DuckToOvervoice}
use Rattle.comis.specs.declared.loop_bank.Loops.{Loops}
use Rattle.comis.specs.declared.engine.AutomixEngineConfig.{AutomixEngineConfig}
use Rattle.comis.specs.MixState.{from_vad}
use Rattle.comis.specs.LoopBank.{db, zero_loops, total_of, contributions_of}
use Rattle.float.specs.Arithmetic.{one64}
use Rattle.comis.specs.Engine.{loop_config, active_target, process_tick}
use Rattle.comis.specs.Rust.{LoopBank, AutomixEngine, set_config, reset, target_in, rust_process_tick, rust_process_fast, total_reduction}
use Rattle.comis.proofs.Rust.{bank_in, bank_of, engine_of, tick-same, fast-same}
use Rattle.ratio.specs.declared.Duck.{Duck}
use Rattle.ratio.specs.declared.Inputs.{Inputs}
use Rattle.ratio.specs.declared.RatioStatus.{RatioStatus}
use Rattle.ratio.specs.declared.Framed.{Framed}
use Rattle.ratio.specs.Status.{rounded_of, reading_of, ratio_shown, config_of, status_of}
use Rattle.ratio.specs.Frame.{frame_seconds, snapshot_of, tick_of, fast_of, disabled_frame, enabled_frame, frame_of}
use Rattle.ratio.specs.Lists.{answers_of, DuckStored, AllStored, none, more}
use Rattle.ratio.specs.Rust as rust
use Rattle.ratio.proofs.Equal.{eq-plus}

-- ---- what agrees

pub record RatioStored (r : rust.Ratio) : Type 0 where
  pub target : NoMinus binary64 r.target
  pub overvoice : NoMinus binary64 r.overvoice
  pub most : NoMinus binary64 r.most.0
  pub speed : NoMinus binary64 r.speed

-- The Rust's state holds the loops l and the config c, which is that of its settings. What else its engine keeps may be anything.
pub record Holds (c : AutomixEngineConfig) (s : rust.State) (l : Loops) : Type 0 where
  pub releasing : Bool
  pub interview : Bool
  pub speedup : Float
  pub before : MixState
  pub engine : s.engine ≡ engine_of c (bank_of (loop_config c) l releasing interview speedup) before
  pub config : c ≡ rust.config s.ratio
  pub stored : RatioStored s.ratio

-- ---- the config

-- settings that compare equal make one config
config-same : (d : Duck) (r : rust.Ratio) → DuckStored d → RatioStored r → rust.same (rust.ratio d) r ≡ true → config_of d ≡ rust.config r
unfolding rust.same
config-same d r p q e =
    let a = eq d.target_lu r.target in
    let b = eq d.overvoice_lu r.overvoice in
    let m = eq d.max_reduction_db.0 r.most.0 in
    let v = eq d.speed r.speed in
    let four = and_l (((a && b) && m) && v) (beq d.bed_voice r.bed_voice) (subst T (sym e) tt) in
    let three = and_l ((a && b) && m) v four in
    let two = and_l (a && b) m three in
    made
    (eq-plus binary64 _ _ p.target q.target (and_l a b two))
    (eq-plus binary64 _ _ p.overvoice q.overvoice (and_r a b two))
    (eq-plus binary64 _ _ p.most q.most (and_r (a && b) m three))
    (eq-plus binary64 _ _ p.speed q.speed (and_r ((a && b) && m) v four))
  where
    made : d.target_lu ≡ r.target → d.overvoice_lu ≡ r.overvoice → d.max_reduction_db.0 ≡ r.most.0 → d.speed ≡ r.speed → config_of d ≡ rust.config r
    made t o m v =
        λ k. record { target_ratio_lu = t k; overvoice_ratio_lu = o k; max_gain_reduction_db = db (m k); speed = v k }

-- the settings taken over
abbrev anew : rust.State → Duck → rust.State
anew s d = record { engine = set_config s.engine (rust.config (rust.ratio d)); ratio = rust.ratio d; reduction = s.reduction; status = s.status }

configured-holds : (c : AutomixEngineConfig) (s : rust.State) (l : Loops) (d : Duck) → Holds c s l → DuckStored d → Holds (config_of d) (rust.configured s d) l
unfolding rust.configured
configured-holds c s l d h p = go (rust.same (rust.ratio d) s.ratio) refl
  where
    go : (b : Bool) → rust.same (rust.ratio d) s.ratio ≡ b → Holds (config_of d) (cond (not b) (anew s d) s) l
    go true e =
        let same : config_of d ≡ rust.config s.ratio = config-same d s.ratio p h.stored e in
        record {
          releasing = h.releasing;
          interview = h.interview;
          speedup = h.speedup;
          before = h.before;
          engine = h.engine ∙ ap (λ (c : AutomixEngineConfig). engine_of c (bank_of (loop_config c) l h.releasing h.interview h.speedup) h.before) (h.config ∙ sym same);
          config = same;
          stored = h.stored;
        }
    go false e =
        record {
          releasing = h.releasing;
          interview = h.interview;
          speedup = h.speedup;
          before = h.before;
          engine = ap (λ (x : AutomixEngine). set_config x (config_of d)) h.engine;
          config = refl;
          stored = record { target = p.target; overvoice = p.overvoice; most = p.most; speed = p.speed };
        }

-- ---- an enabled frame

abbrev state_of : Duck → Inputs → MixState
state_of d i = from_vad i.key_voice (i.target_voice && d.bed_voice)

-- the loops after it
abbrev after_of : Loops → Duck → Inputs → Loops
after_of l d i = (fast_of d i (tick_of l d i)).loops

engine-same : (l : Loops) (d : Duck) (i : Inputs) (r v : Bool) (u : Float) (before : MixState) → rust.engine_after (engine_of (config_of d) (bank_of (loop_config (config_of d)) l r v u) before) d i ≡ engine_of (config_of d) (bank_in (loop_config (config_of d)) (after_of l d i) (state_of d i)) (state_of d i)
unfolding rust.engine_after rust_process_tick process_tick
engine-same l d i r v u before =
    ap (λ (b : LoopBank). rust_process_fast (engine_of (config_of d) b (state_of d i)) i.bed_fast.0 i.dialogue_short_term.0 frame_seconds)
    (tick-same (config_of d) l r v u before (state_of d i) (snapshot_of i) frame_seconds)
    ∙ fast-same (config_of d) _ (state_of d i) i.bed_fast i.dialogue_short_term frame_seconds

target-same : (c : AutomixEngineConfig) (s : MixState) → target_in c s ≡ active_target c s
unfolding target_in active_target
target-same c ReleaseToUnity = refl
target-same c DuckToTarget = refl
target-same c InterviewPassthrough = refl
target-same c DuckToOvervoice = refl

-- what is shown, by the ratio aimed at
abbrev shown_at : Loops → Duck → Inputs → Float → RatioStatus
shown_at l d i target =
    let total = (contributions_of l (loop_config (config_of d))).total_db in
    record {
      state = state_of d i;
      reduction_db = db (rounded_of total.0);
      slow_db = db (rounded_of l.slow.0);
      mid_db = db (rounded_of l.mid.0);
      fast_db = db (rounded_of l.fast.0);
      target_lu = target;
      ratio_lu = ratio_shown i.dialogue_short_term i.bed_short_term total;
      dialogue_lufs = reading_of i.dialogue_short_term;
      bed_lufs = reading_of i.bed_short_term;
    }

shown-same : (l : Loops) (d : Duck) (i : Inputs) → rust.shown (engine_of (config_of d) (bank_in (loop_config (config_of d)) l (state_of d i)) (state_of d i)) i ≡ status_of (config_of d) (state_of d i) (contributions_of l (loop_config (config_of d))) i
unfolding rust.shown rust.round rust.reading rust.ratio_lu rounded_of reading_of ratio_shown status_of contributions_of
shown-same l d i = ap (shown_at l d i) (target-same (config_of d) (state_of d i))

-- ---- a frame

abbrev answer_of : Framed → rust.Answer
answer_of f = record { reduction = f.reduction.0; status = f.status }

abbrev answer : rust.State → rust.Answer
answer s = record { reduction = s.reduction; status = s.status }

pub record Same (d : Duck) (s : rust.State) (f : Framed) : Type 0 where
  pub answers : answer s ≡ answer_of f
  pub holds : Holds (config_of d) s f.loops

off-same : (s : rust.State) (l : Loops) (d : Duck) → Holds (config_of d) s l → Same d (rust.off s d) (disabled_frame d)
unfolding rust.off disabled_frame
off-same s l d h =
    record {
      answers = refl;
      holds = record { releasing = false; interview = false; speedup = one64; before = ReleaseToUnity; engine = ap reset h.engine; config = h.config; stored = h.stored };
    }

-- an enabled frame's answer, by the Rust's engine after it, and by the loops after it
abbrev answer_by : AutomixEngine → Inputs → rust.Answer
answer_by e i = record { reduction = total_reduction e.loops; status = rust.shown e i }

abbrev reduced_by : Loops → Duck → RatioStatus → rust.Answer
reduced_by l d s = record { reduction = (total_of l d.max_reduction_db).0; status = s }

on_same : (s : rust.State) (l : Loops) (d : Duck) (i : Inputs) → Holds (config_of d) s l → Same d (rust.on s d i) (enabled_frame l d i)
unfolding rust.on enabled_frame process_tick contributions_of
on_same s l d i h =
    let e : rust.engine_after s.engine d i ≡ engine_of (config_of d) (bank_in (loop_config (config_of d)) (after_of l d i) (state_of d i)) (state_of d i) = ap (λ (x : AutomixEngine). rust.engine_after x d i) h.engine ∙ engine-same l d i h.releasing h.interview h.speedup h.before in
    record {
      answers = ap (λ (x : AutomixEngine). answer_by x i) e ∙ ap (reduced_by (after_of l d i) d) (shown-same (after_of l d i) d i);
      holds = record { releasing = _; interview = _; speedup = _; before = state_of d i; engine = e; config = h.config; stored = h.stored };
    }

pub frame_same : (c : AutomixEngineConfig) (s : rust.State) (l : Loops) (d : Duck) (i : Inputs) → Holds c s l → DuckStored d → Same d (rust.frame s d i) (frame_of l d i)
unfolding rust.frame frame_of
frame_same c s l d i h p = go d.enabled
  where
    configured : Holds (config_of d) (rust.configured s d) l
    configured = configured-holds c s l d h p

    go : (b : Bool) → Same d (cond (not b) (rust.off (rust.configured s d) d) (rust.on (rust.configured s d) d i)) (cond b (enabled_frame l d i) (disabled_frame d))
    go true = on_same (rust.configured s d) l d i configured
    go false = off-same (rust.configured s d) l d configured

-- ---- a list of frames

pub frames-same : (c : AutomixEngineConfig) (s : rust.State) (l : Loops) (cs : List rust.Call) → Holds c s l → AllStored cs → rust.answers s cs ≡ answers_of l cs
unfolding rust.answers answers_of
frames-same c s l [] h none = refl
frames-same c s l (f ∷ cs) h (more p ps) =
    let n = frame_same c s l f.duck f.inputs h p in
    ap₂ ◌∷◌ n.answers (frames-same (config_of f.duck) _ _ cs n.holds ps)

-- from a fresh state, whose settings are any that can be stored
pub ratio_rust : (d : Duck) (cs : List rust.Call) → DuckStored d → AllStored cs → rust.answers (rust.new d) cs ≡ answers_of zero_loops cs
unfolding rust.new
ratio_rust d cs p ps = frames-same (config_of d) (rust.new d) zero_loops cs fresh ps
  where
    fresh : Holds (config_of d) (rust.new d) zero_loops
    fresh =
        record {
          releasing = false;
          interview = false;
          speedup = one64;
          before = ReleaseToUnity;
          engine = refl;
          config = refl;
          stored = record { target = p.target; overvoice = p.overvoice; most = p.most; speed = p.speed };
        }
