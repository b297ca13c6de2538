-- One frame more in a run of frames, as a text and as the program puts it; how long the text is; and that frames leave the layout as it is.
use Rattle.std.proofs.Common.{◌≡◌, ℕ, zero, suc, ◌+◌, ◌*◌, ◌/◌, ◌%◌, ◌^◌, ◌<◌, ◌≤◌, min, List, length, take, sym, refl, ap, ◌∙◌, mul-le-mul_left, zero-add, div-mul-le_self, add-one, arith, length-append}
use native.Mathlib.Nat.{lt-div-mul-add}
use lib.Ieee.{Float}
use Rattle.sequence.specs.History.{laid as start}
use Rattle.blocks.specs.Lists.{laid}
use Rattle.blocks.proofs.Lists.{none_yet, laid_append}
use Rattle.layout.specs.declared.Layout.{Layout}
use Rattle.chain.specs.declared.Chain.{Chain}
use Rattle.chain.specs.Chain.{Framed, frame_of}
use Rattle.frame_bytes.specs.Bytes.{bed_samples, frame_bytes, buffer_bytes, key_at, bed_at, kept_of}
use Rattle.frame_bytes.proofs.Samples.{bed-first}
use Rattle.frame_bytes.proofs.Sizes.{frame_least, frame_most}
use Rattle.line_text.specs.Line.{text_bytes, line_of, put_at}
use Rattle.ducklines.specs.Frames.{Ran, Written, AfterRead, heard_of, ran_of, count_of, frame_in, frames_in, among_in, after_read_in}
use Rattle.ducklines.specs.declared.Run.{Run}
use Rattle.line_text.proofs.Parts.{line-length}
use Rattle.ducklines.proofs.Layouts.{frame-layout}

-- ---- the layout

pub ran-count : (m : ℕ) (c : Chain) (n : ℕ) (b : List ℕ) (k : ℕ) → count_of (ran_of m c n b k).chain ≡ count_of c
unfolding ran_of
ran-count m c n b zero = refl
ran-count m c n b (suc k) = ap (λ (l : Layout). l.count) (frame-layout (ran_of m c n b k).chain (key_at m b k) (bed_at m b k)) ∙ ran-count m c n b k

-- ---- a text

ran-next : (m : ℕ) (c : Chain) (n : ℕ) (b : List ℕ) (k : ℕ) → ran_of m c n b (k + 1) ≡ heard_of (ran_of m c n b k) (key_at m b k) (bed_at m b k)
unfolding ran_of
ran-next m c n b k = ap (ran_of m c n b) (add-one k)

pub ran-length : (m : ℕ) (c : Chain) (n : ℕ) (b : List ℕ) (k : ℕ) → length (ran_of m c n b k).text ≤ 64 * k
unfolding ran_of
ran-length m c n b zero = omega arith
ran-length m c n b (suc k) =
    let r = ran_of m c n b k in
    let o = (frame_of r.chain (key_at m b k) (bed_at m b k)).outcome in
    omega (arith, ran-length m c n b k, length-append r.text (line_of r.number o), line-length r.number o)

-- ---- frames as the program runs them

-- a frame whose bed was put at the start of some places
pub heard-frame : (c : Chain) (b : List ℕ) (k : ℕ) (key before bed : List Float) (r : Framed)
    → r ≡ frame_of c key (take (bed_samples (count_of c)) bed) → key ≡ key_at (count_of c) b k → bed ≡ start (bed_at (count_of c) b k) before
    → r ≡ frame_of c (key_at (count_of c) b k) (bed_at (count_of c) b k)
heard-frame c b k key before bed r e f g = e ∙ (λ j. frame_of c (f j) (bed-first (count_of c) b k before bed g j))

-- a run and its text, from what was run and the text that is lent
abbrev written_in : Ran → List ℕ → Written
written_in r t = record { run = record { chain = r.chain; number = r.number; end = length r.text }; bytes = laid t 0 r.text }

pub frames_zero : (s : Run) (b t : List ℕ) → record { run = record { chain = s.chain; number = s.number; end = 0 }; bytes = t } ≡ frames_in s b 0 t
unfolding frames_in ran_of
frames_zero s b t = λ j. record { run = record { chain = s.chain; number = s.number; end = 0 }; bytes = (none_yet t 0).is j }

-- one frame more, whose bed has m channels
abbrev next_in : ℕ → Ran → List ℕ → ℕ → List ℕ → Written
next_in m r b k t =
    let f = frame_of r.chain (key_at m b k) (bed_at m b k) in
    let p = put_at (laid t 0 r.text) (length r.text) (line_of r.number f.outcome) in
    record { run = record { chain = f.chain; number = (r.number + 1) % 2 ^ 64; end = p.end }; bytes = p.bytes }

frames-next : (s : Run) (b : List ℕ) (k : ℕ) (t : List ℕ) → let w = frames_in s b k t in frame_in w.run b k w.bytes ≡ frames_in s b (k + 1) t
unfolding frames_in frame_in
frames-next s b k t =
    let m = count_of s.chain in
    let r = ran_of m s.chain s.number b k in
    let f = frame_of r.chain (key_at m b k) (bed_at m b k) in
    let l = line_of r.number f.outcome in
    ap (λ (x : ℕ). next_in x r b k t) (ran-count m s.chain s.number b k)
    ∙ sym (λ j. record { run = record { chain = f.chain; number = (r.number + 1) % 2 ^ 64; end = length-append r.text l j }; bytes = (laid_append r.text l t 0 ∙ ap (λ (n : ℕ). laid (laid t 0 r.text) n l) (zero-add _)) j })
    ∙ ap (λ (q : Ran). written_in q t) (sym (ran-next m s.chain s.number b k))

-- a turn of the loop over the frames
pub frames_turn : (w next : Written) (s : Run) (b : List ℕ) (k : ℕ) (t : List ℕ) → w ≡ frames_in s b k t → next ≡ frame_in w.run b k w.bytes → next ≡ frames_in s b (k + 1) t
frames_turn w next s b k t e f = f ∙ ap (λ (x : Written). frame_in x.run b k x.bytes) e ∙ frames-next s b k t

pub frames_end : (w : Written) (s : Run) (b : List ℕ) (k : ℕ) (t : List ℕ) → w ≡ frames_in s b k t → w.run.end ≤ 64 * k
unfolding frames_in
frames_end w s b k t e = omega (arith, ap (λ (x : Written). x.run.end) e, ran-length (count_of s.chain) s.chain s.number b k)

-- ---- after a read

-- 16 whole frames at most are in a buffer
pub few-frames : (m n f : ℕ) → f ≡ frame_bytes m → n ≤ buffer_bytes → n / f ≤ 16
few-frames m n f e h = let g : 3840 ≤ f = omega (arith, frame_least m) in omega (arith, div-mul-le_self n f, mul-le-mul_left (n / f) g)

-- less than a frame is held, so less than one of eight channels, and the text has room
pub read_held : (a : AfterRead) (s : Run) (b : List ℕ) (n : ℕ) (t : List ℕ) → a ≡ after_read_in s b n t → a.next.held < 17280
unfolding after_read_in among_in kept_of
read_held a s b n t e =
    let m = count_of s.chain in
    let some : 0 < frame_bytes m = omega (arith, frame_least m) in
    omega (arith, ap (λ (x : AfterRead). x.next.held) e, lt-div-mul-add {a = min n buffer_bytes} some, frame_most m)

pub read-end : (a : AfterRead) (s : Run) (b : List ℕ) (n : ℕ) (t : List ℕ) → a ≡ after_read_in s b n t → a.next.run.end ≤ text_bytes
unfolding after_read_in among_in frames_in
read-end a s b n t e =
    let m = count_of s.chain in
    let k = min n buffer_bytes / frame_bytes m in
    let few : k ≤ 16 = few-frames m (min n buffer_bytes) (frame_bytes m) refl (omega arith) in
    omega (arith, ap (λ (x : AfterRead). x.next.run.end) e, ran-length m s.chain s.number b k)
