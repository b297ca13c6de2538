-- A run with a layout of the bed: it begins with a fresh chain that has the layout, frames keep it, and the bytes of a frame have the samples that it
-- asks for.
use Rattle.std.proofs.Common.{◌≡◌, ℕ, Bool, true, false, cond, ◌&&◌, T, List, length, refl, ap, ap₂, eq-eqb}
use lib.Ieee.{Float}
use Rattle.std.specs.Prelude.{Result, Ok, Err}
use Rattle.refusal.specs.declared.Refusal.{Refusal}
use Rattle.sequence.specs.History.{filled}
use Rattle.layout.specs.declared.Layout.{Layout}
use Rattle.layout.specs.Layout.{size_of, within_of, layout_within, placed_of, stored_of, blanks, mono_of}
use Rattle.channels.specs.Surround.{resting_of, bed_frame_of}
use Rattle.vad.specs.Strand as strand
use Rattle.chain.specs.declared.Chain.{Chain}
use Rattle.chain.specs.Chain.{Framed, Changed, fresh_of, with_bed, bed_length, whole_frame, heard_of, frame_of, work_of, verdict_of, judged_of, passed_of, refused_of, unless_refused, layout_of}
use Rattle.frame_bytes.specs.Bytes.{bed_samples, key_at, bed_at}
use Rattle.frame_bytes.proofs.Samples.{samples-length}
use Rattle.ducklines.specs.Frames.{count_of, fresh_run}
use Rattle.ducklines.specs.Layouts.{RunLayouts}

-- ---- a fresh run

chosen : (b : Bool) (x y : Changed) → T b → cond b x y ≡ x
chosen true x y t = refl
chosen false x y t = absurd t

accepted : (l : Layout) → T (layout_within l) → (fresh_run l).chain ≡ with_bed fresh_of strand.fresh_of (resting_of (stored_of l))
unfolding layout_of
accepted l t = ap (λ (x : Changed). x.chain) (chosen (layout_within l) _ _ t)

mono : (fresh_run mono_of).chain ≡ fresh_of
unfolding layout_of layout_within within_of size_of stored_of placed_of filled blanks
mono = refl

-- ---- frames

-- a refused frame has the chain's layout
layout-of : (c : Chain) (v : Result Unit Refusal) (f : Framed) → f.chain.surround.layout ≡ c.surround.layout → (unless_refused c v f).chain.surround.layout ≡ c.surround.layout
unfolding refused_of
layout-of c (Ok t) f e = e
layout-of c (Err r) f e = refl

pub frame-layout : (c : Chain) (key bed : List Float) → (frame_of c key bed).chain.surround.layout ≡ c.surround.layout
unfolding frame_of judged_of passed_of refused_of work_of bed_frame_of
frame-layout c key bed =
    let w = work_of c key bed in
    layout-of c (heard_of c key bed) (judged_of c w) (layout-of c (verdict_of w) (passed_of c w) refl)

-- ---- the samples of a frame

whole : (c : Chain) (b : List ℕ) (k : ℕ) → whole_frame c (key_at (count_of c) b k) (bed_at (count_of c) b k) ≡ true
unfolding bed_samples
whole c b k =
    let n = count_of c in
    ap₂ ◌&&◌
    (eq-eqb (length (key_at n b k)) 480 (samples-length b _ 480))
    (eq-eqb (length (bed_at n b k)) (bed_length c) (samples-length b _ (bed_samples n)))

pub run_layouts : RunLayouts
run_layouts = record { accepted = accepted; mono = mono; kept = frame-layout; whole = whole }
