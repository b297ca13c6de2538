-- A chain that stands for the Rust's is what the Rust's state stores: a valid history is what it holds, and blanks.
use Prim.Native.Nat.{ℕ, suc, ◌-◌}
use native.Mathlib.Omega.{arith}
use mathlib.Core.Path.{◌≡◌, refl, sym, ap, ◌∙◌}
use mathlib.Core.Bool.{Bool, true, false, cond}
use mathlib.Core.List.{List, ◌∷◌}
use lib.Dec.{eqb}
use lib.ListN.{length, get_or, take, drop}
use lib.Ieee.{Float, inf}
use borrow.Author.Tests.{eqb-true}
use Rattle.demands.specs.Laws.{Stores}
use Rattle.sequence.specs.History.{latest, held, filled}
use Rattle.sequence.specs.Counted.{Counted}
use Rattle.sequence.proofs.Counted.{counted-length, counted-filled}
use Rattle.float.specs.Arithmetic.{zero64}
use Rattle.level.specs.declared.Level.{Level}
use Rattle.level.specs.Deque.{Meter}
use Rattle.level.specs.Valid as level
use Rattle.layout.specs.declared.Layout.{Layout}
use Rattle.channels.specs.declared.Channel.{Channel}
use Rattle.channels.specs.declared.Surround.{Surround}
use Rattle.channels.specs.Channels.{resting}
use Rattle.channels.specs.Surround.{other_channels, own_of, level_of}
use Rattle.channels.specs.Deque.{Meters, bed_meters}
use Rattle.channels.specs.Valid.{ChannelValid, SurroundValid}
use Rattle.detector.specs.declared.floor.Floor.{Floor}
use Rattle.detector.specs.declared.FeatureDetector.{FeatureDetector}
use Rattle.detector.specs.Rust.{RustFloor, RustDetector}
use Rattle.detector.specs.Agrees as detector
use Rattle.detector.specs.Valid.{FloorValid}
use Rattle.detector.specs.Valid as detected
use Rattle.vad.specs.declared.Strand.{Strand}
use Rattle.vad.specs.Rust.{RustVad}
use Rattle.vad.specs.Agrees.{AgreesBy, Metered}
use Rattle.vad.specs.Valid as strand
use Rattle.comis.specs.Rust.{AutomixEngine}
use Rattle.chain.specs.Valid.{Valid}
use Rattle.rules.specs.Rules.{rules}
use Rattle.rules.specs.Rust.{rust}
use Rattle.rules.specs.RustState.{level_stored, bed_level_stored, floor_stored, detector_stored, strand_stored, loops_stored, surround_stored, stored}
use Rattle.rules.proofs.Beds.{channels-valid}
use Rattle.rules.proofs.AgreesRust.{rust-agrees}

-- ---- a deque: the list xs that a count and its places hold

module _ {Good : Float → Type 0} {blank : Float} {n count : ℕ} {places : List Float} (ok : Counted Good blank n count places) (xs : List Float) (e : xs ≡ held count places) where
  deque-count : count ≡ length xs
  deque-count = sym (ap length e ∙ counted-length Good blank n count places ok)

  deque-places : places ≡ filled blank n xs
  deque-places = sym (ap (filled blank n) e ∙ counted-filled Good blank n count places ok)

-- ---- a strand's parts

level-stored : (l : Level) (m : Meter) → level.Valid l → Metered l m → l ≡ level_stored m
level-stored l m v a =
    let e = a.meter in
    let frames : m.frames ≡ held l.powers.count l.powers.list = ap (λ (m : Meter). m.frames) e in
    λ i. record {
      shelf = (sym e i).shelf;
      high_pass = (sym e i).high_pass;
      fast = (sym e i).fast;
      powers = record { count = deque-count v.powers m.frames frames i; list = deque-places v.powers m.frames frames i };
    }

-- the minimum of an empty window is stored as 0
window-stored : (f : Floor) (r : RustFloor) → FloorValid f → detector.FloorAgrees f r → f.window_min ≡ cond (eqb r.window_frames 0) zero64 r.window_min
window-stored f r v a = rw (a.window_frames, a.window_min) (go (eqb f.window_frames 0) refl)
  where
    go : (b : Bool) → eqb f.window_frames 0 ≡ b → f.window_min ≡ cond b zero64 (cond b (inf false) f.window_min)
    go true e = v.empty (eqb-true f.window_frames 0 e)
    go false e = refl

floor-stored : (f : Floor) (r : RustFloor) → FloorValid f → detector.FloorAgrees f r → f ≡ floor_stored r
floor-stored f r v a = λ i. record {
  smoothed = sym a.smoothed i;
  window_min = window-stored f r v a i;
  window_frames = sym a.window_frames i;
  minima = record { count = deque-count v.minima r.minima a.minima i; list = deque-places v.minima r.minima a.minima i };
}

detector-stored : (d : FeatureDetector) (r : RustDetector) → detected.Valid d → detector.Agrees d r → d ≡ detector_stored r
detector-stored d r v a = λ i. record {
  filters = sym a.filters i;
  decimated = record {
    count = deque-count v.decimated (latest 240 r.decimated) a.decimated i;
    list = deque-places v.decimated (latest 240 r.decimated) a.decimated i;
  };
  floor = floor-stored d.floor r.floor v.floor a.floor i;
  history = record { count = deque-count v.history r.history a.history i; list = deque-places v.history r.history a.history i };
}

strand-stored : {L : Type 0} {Levels : Level → L → Type 0} (t : Strand) (r : RustVad L) (level : L → Level) → strand.Valid t → AgreesBy Levels t r → t.level ≡ level r.level
    → t ≡ strand_stored level r
strand-stored t r level v a e = λ i. record {
  level = e i;
  detector = detector-stored t.detector r.detector v.detector a.detector i;
  decision = record {
    active = sym a.active i;
    probability = sym a.probability i;
    onsets = sym a.onsets i;
    offsets = sym a.offsets i;
    hold = sym a.hold i;
    power = sym a.power i;
  };
}

-- ---- the bed's channels: the first stands in the strand's level, the others beside it

module _ (l : Level) (s : Surround) (m : Meters) (v : level.Valid l) (w : SurroundValid s) (e : m ≡ bed_meters l s) where
  -- as many as the layout says, at least one
  abbrev rest : List Channel
  rest = held (s.layout.count - 1) s.others

  channels-held : m.channels ≡ own_of l ∷ rest
  channels-held =
      let n : s.layout.count ≡ suc (s.layout.count - 1) = omega (arith, w.layout.some) in
      ap (λ (m : Meters). m.channels) e ∙ ap (λ (k : ℕ). take k (own_of l ∷ s.others)) (channels-valid s.layout w.layout ∙ n)

  frames-held : m.frames ≡ held l.powers.count l.powers.list
  frames-held = ap (λ (m : Meters). m.frames) e

  bed-level-stored : l ≡ bed_level_stored m
  bed-level-stored = λ i.
      level_of (ap (λ (cs : List Channel). get_or cs 0 resting) (sym channels-held) i)
      (record { count = deque-count v.powers m.frames frames-held i; list = deque-places v.powers m.frames frames-held i })

  surround-stored : s ≡ surround_stored s.layout m
  surround-stored = λ i. record {
    layout = s.layout;
    others = (sym (counted-filled ChannelValid resting other_channels (s.layout.count - 1) s.others w.others)
        ∙ ap (λ (cs : List Channel). filled resting other_channels (drop 1 cs)) (sym channels-held)) i;
  }

-- ---- the chain

pub rust_stores : Stores rules Valid rust rust-agrees stored
unfolding stored
rust_stores c m v l = λ i. record {
  settings = sym l.settings i;
  key = strand-stored c.key m.key level_stored v.key l.key (level-stored c.key.level m.key.level v.key.level l.key.level) i;
  bed = strand-stored c.bed m.bed bed_level_stored v.bed l.bed (bed-level-stored c.bed.level c.surround m.bed.level v.bed.level v.surround l.bed.level) i;
  loops = ap (λ (e : AutomixEngine). loops_stored e.loops) (sym l.ducker.engine) i;
  surround = (surround-stored c.bed.level c.surround m.bed.level v.bed.level v.surround l.bed.level ∙ ap (λ (x : Layout). surround_stored x m.bed.level) (sym l.layout)) i;
}
