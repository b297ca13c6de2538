-- The text does not depend on how the input is cut into reads.
use Rattle.std.proofs.Common.{◌≡◌, ℕ, zero, suc, ◌+◌, ◌-◌, ◌*◌, ◌/◌, ◌%◌, ◌^◌, ◌<◌, ◌≤◌, min, List, [], ◌++◌, length, take, drop, sym, refl, ap, ◌∙◌, append_assoc, append-nil, add-zero, add-suc, add-mul, zero-mul, div-mul-le_self, arith, length-append, length-drop, take-append-drop, length-take-le, drop-drop, take-add, drop_at}
use native.Mathlib.Nat.{zero-div, mul-add-div_right}
use lib.Seq.{drop-append-le}
use Rattle.blocks.specs.Lists.{laid}
use Rattle.blocks.proofs.Lists.{laid-start}
use Rattle.demands.specs.Calls.{Log, empty, ◌▹◌}
use Rattle.layout.specs.declared.Layout.{Layout}
use Rattle.chain.specs.declared.Chain.{Chain}
use Rattle.chain.specs.Chain.{frame_of}
use Rattle.frame_bytes.specs.Bytes.{buffer_bytes, bed_samples, frame_bytes, samples_at, key_at, bed_at, kept_of}
use Rattle.line_text.specs.Line.{text_bytes, line_of}
use Rattle.ducklines.specs.declared.Run.{Run}
use Rattle.ducklines.specs.Frames.{Ran, AfterRead, heard_of, ran_of, count_of, frames_in, among_in, after_read_in}
use Rattle.frame_bytes.proofs.Samples.{samples_append, samples-drop}
use Rattle.frame_bytes.proofs.Sizes.{frame_least, frame-samples}
use Rattle.frame_bytes.proofs.Kept.{kept-length}
use Rattle.ducklines.proofs.Ran.{ran-count, ran-length, few-frames}
use Rattle.ducklines.specs.Reads.{Reading, beginning, read_of, reads_of, joined, written_of, AnyReads}

-- ---- frames

-- bytes behind the frames don't count
ran_append : (m : ℕ) (c : Chain) (n : ℕ) (b d : List ℕ) (k : ℕ) → k * frame_bytes m ≤ length b → ran_of m c n (b ++ d) k ≡ ran_of m c n b k
unfolding ran_of
ran_append m c n b d zero h = refl
ran_append m c n b d (suc k) h =
    let size = frame-samples m in
    let least = frame_least m in
    λ j. heard_of
    (ran_append m c n b d k (omega arith) j)
    (samples_append b d (k * frame_bytes m) 480 (omega arith) j)
    (samples_append b d (k * frame_bytes m + 1920) (bed_samples m) (omega arith) j)

-- a run, and another that goes on from it
abbrev onward : Ran → Ran → Ran
onward r q = record { chain = q.chain; number = q.number; text = r.text ++ q.text }

ran-add : (m : ℕ) (c : Chain) (n : ℕ) (b : List ℕ) (i k : ℕ) → let r = ran_of m c n b i in ran_of m c n b (i + k) ≡ onward r (ran_of m r.chain r.number (drop (i * frame_bytes m) b) k)
unfolding ran_of
ran-add m c n b i zero =
    let r = ran_of m c n b i in
    ap (ran_of m c n b) (add-zero i) ∙ (λ j. record { chain = r.chain; number = r.number; text = sym (append-nil r.text) j })
ran-add m c n b i (suc k) =
    let f = frame_bytes m in
    let r = ran_of m c n b i in
    let d = drop (i * f) b in
    let q = ran_of m r.chain r.number d k in
    let g = frame_of q.chain (key_at m d k) (bed_at m d k) in
    ap (ran_of m c n b) (add-suc i k)
    ∙ (λ j. heard_of (ran-add m c n b i k j) (moved (k * f) ((i + k) * f) 480 (add-mul i k f) j) (moved (k * f + 1920) ((i + k) * f + 1920) (bed_samples m) (omega (arith, add-mul i k f)) j))
    ∙ (λ j. record { chain = g.chain; number = (q.number + 1) % 2 ^ 64; text = append_assoc r.text q.text (line_of q.number g.outcome) j })
  where
    moved : (at from count : ℕ) → from ≡ i * frame_bytes m + at → samples_at b from count ≡ samples_at (drop (i * frame_bytes m) b) at count
    moved at from count e = ap (λ (x : ℕ). samples_at b x count) e ∙ sym (samples-drop (i * frame_bytes m) b at count)

-- ---- two reads as one

module _ (m : ℕ) (c : Chain) (n : ℕ) (b got : List ℕ) where
  -- the bytes of a frame, the frames of the first read, and what it leaves
  abbrev size : ℕ
  size = frame_bytes m

  abbrev first : ℕ
  first = length b / size

  abbrev left : List ℕ
  left = drop (first * size) b ++ got

  abbrev second : ℕ
  second = length left / size

  frames-whole : first * size ≤ length b
  frames-whole = div-mul-le_self (length b) size

  left-whole : drop (first * size) (b ++ got) ≡ left
  left-whole = drop-append-le (first * size) b got frames-whole

  frames-add : length (b ++ got) / size ≡ first + second
  frames-add =
      let some : 0 < size = omega (arith, frame_least m) in
      let e : length (b ++ got) ≡ first * size + length left = omega (arith, frames-whole, length-append b got, length-append (drop (first * size) b) got, length-drop (first * size) b) in
      ap (λ (x : ℕ). x / size) e ∙ mul-add-div_right some first (length left)

  run-joined : let r = ran_of m c n b first in ran_of m c n (b ++ got) (length (b ++ got) / size) ≡ onward r (ran_of m r.chain r.number left second)
  run-joined =
      ap (ran_of m c n (b ++ got)) frames-add
      ∙ ran-add m c n (b ++ got) first second
      ∙ (λ j. let r = ran_append m c n b got first frames-whole j in onward r (ran_of m r.chain r.number (left-whole j) second))

  held-joined : drop (length (b ++ got) / size * size) (b ++ got) ≡ drop (second * size) left
  held-joined =
      let e : length (b ++ got) / size * size ≡ first * size + second * size = ap (λ (x : ℕ). x * size) frames-add ∙ add-mul first second size in
      ap (λ (x : ℕ). drop x (b ++ got)) e
      ∙ sym (drop-drop (second * size) (first * size) (b ++ got))
      ∙ ap (drop (second * size)) left-whole

-- a read of bytes that are held and others, where a frame has m channels
abbrev read_by : ℕ → Reading → List ℕ → Reading
read_by m s got =
    let b = s.held ++ got in
    let k = length b / frame_bytes m in
    let r = ran_of m s.chain s.number b k in
    record { chain = r.chain; number = r.number; held = drop (k * frame_bytes m) b; text = s.text ++ r.text }

read-joined : (l : Layout) (b got : List ℕ) → read_of (read_of (beginning l) b) got ≡ read_of (beginning l) (b ++ got)
unfolding read_of
read-joined l b got =
    let c = (beginning l).chain in
    let m = count_of c in
    let run = run-joined m c 1 b got in
    ap (λ (x : ℕ). read_by x (read_by m (beginning l) b) got) (ran-count m c 1 b (length b / frame_bytes m))
    ∙ sym (λ j. record { chain = (run j).chain; number = (run j).number; held = held-joined m c 1 b got j; text = (run j).text })

-- the first k frames of no bytes, and what is left behind n
abbrev read_first : Layout → ℕ → ℕ → Reading
read_first l k n =
    let c = (beginning l).chain in
    let r = ran_of (count_of c) c 1 [] k in
    record { chain = r.chain; number = r.number; held = drop n []; text = r.text }

same : (l : Layout) (rs : Log (List ℕ)) → reads_of l rs ≡ read_of (beginning l) (joined rs)
unfolding reads_of read_of ran_of
same l empty =
    let f = frame_bytes (count_of (beginning l).chain) in
    sym (λ j. read_first l (zero-div f j) ((ap (λ (k : ℕ). k * f) (zero-div f) ∙ zero-mul f) j))
same l (rs ▹ got) = ap (λ (s : Reading). read_of s got) (same l rs) ∙ read-joined l (joined rs) got

-- ---- what the code does with a read

drop_of_take : (m n : ℕ) (l : List ℕ) → m ≤ n → n ≤ length l → drop m (take n l) ≡ take (n - m) (drop m l)
drop_of_take m n l g h =
    let e : m + (n - m) ≡ n = omega arith in
    ap (λ (k : ℕ). drop m (take k l)) (sym e)
    ∙ ap (drop m) (take-add m (n - m) l)
    ∙ drop_at (take m l) (take (n - m) (drop m l)) m (length-take-le m l (omega arith))

-- what a read leads to, and the text so far in front
abbrev reading : List ℕ → AfterRead → Reading
reading text r = record {
  chain = r.next.run.chain;
  number = r.next.run.number;
  held = take r.next.held r.buffer;
  text = text ++ take r.next.run.end r.text;
}

module _ (s : Run) (b t held got : List ℕ) (n : ℕ) (there : n ≤ length b) (came : take n b ≡ held ++ got) where
  abbrev m : ℕ
  m = count_of s.chain

  abbrev whole : ℕ
  whole = n / frame_bytes m

  within : whole * frame_bytes m ≤ n
  within = div-mul-le_self n (frame_bytes m)

  taken : length (take n b) ≡ n
  taken = length-take-le n b there

  run-read : ran_of m s.chain s.number b whole ≡ ran_of m s.chain s.number (held ++ got) (length (held ++ got) / frame_bytes m)
  run-read =
      ap (λ (x : List ℕ). ran_of m s.chain s.number x whole) (sym (take-append-drop n b))
      ∙ ran_append m s.chain s.number (take n b) (drop n b) whole (omega (arith, within, taken))
      ∙ ap (λ (x : ℕ). ran_of m s.chain s.number (take n b) (x / frame_bytes m)) (sym taken)
      ∙ ap (λ (x : List ℕ). ran_of m s.chain s.number x (length x / frame_bytes m)) came

  held-read : let rest = take (n - whole * frame_bytes m) (drop (whole * frame_bytes m) b) in
      take (n - whole * frame_bytes m) (laid b 0 rest) ≡ drop (length (held ++ got) / frame_bytes m * frame_bytes m) (held ++ got)
  held-read =
      laid-start b (take (n - whole * frame_bytes m) (drop (whole * frame_bytes m) b)) (n - whole * frame_bytes m) (omega (arith, kept-length b (whole * frame_bytes m) (n - whole * frame_bytes m))) (omega arith)
      ∙ sym (drop_of_take (whole * frame_bytes m) n b within there)
      ∙ ap (λ (x : ℕ). drop (x / frame_bytes m * frame_bytes m) (take n b)) (sym taken)
      ∙ ap (λ (x : List ℕ). drop (length x / frame_bytes m * frame_bytes m) x) came

  text-read : n ≤ buffer_bytes → length t ≡ text_bytes → let r = ran_of m s.chain s.number b whole in take (length r.text) (laid t 0 r.text) ≡ r.text
  text-read small room =
      let r = ran_of m s.chain s.number b whole in
      laid-start t r.text (length r.text) refl (omega (arith, few-frames m n (frame_bytes m) refl small, ran-length m s.chain s.number b whole))

  code_reads : (text : List ℕ) → n ≤ buffer_bytes → length t ≡ text_bytes
      → reading text (after_read_in s b n t)
      ≡ read_of (record { chain = s.chain; number = s.number; held = held; text = text }) got
  unfolding after_read_in among_in frames_in kept_of read_of
  code_reads text small room =
      let all : min n buffer_bytes ≡ n = omega arith in
      ap (λ (x : ℕ). reading text (among_in s b x t)) all
      ∙ (λ j. record {
        chain = (run-read j).chain;
        number = (run-read j).number;
        held = held-read j;
        text = text ++ (text-read small room ∙ ap (λ (r : Ran). r.text) run-read) j;
      })

pub any_reads : AnyReads
any_reads = record {
  same = same;
  written = λ l rs. ap written_of (same l rs);
  code = λ s b t held got text n there small room came. code_reads s b t held got n there came text small room;
}
