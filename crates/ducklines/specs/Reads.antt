-- What duckline writes of an input, however the input comes: read by read, or all of it at once.
use Rattle.std.specs.Prelude.{◌≡◌, ℕ, ◌*◌, ◌/◌, ◌≤◌, List, [], ◌++◌, length, take, drop}
use Rattle.demands.specs.Calls.{Log, empty, ◌▹◌}
use Rattle.layout.specs.declared.Layout.{Layout}
use Rattle.chain.specs.declared.Chain.{Chain}
use Rattle.frame_bytes.specs.Bytes.{frame_bytes, buffer_bytes}
use Rattle.line_text.specs.Line.{text_bytes, short_line}
use Rattle.ducklines.specs.Frames.{count_of, fresh_run, ran_of, after_read_in}
use Rattle.ducklines.specs.declared.Run.{Run}

-- duckline between two reads: the chain, the number of the frame that comes next, the bytes that are held, and all text so far
pub record Reading : Type 0 where
  pub chain : Chain
  pub number : ℕ
  pub held : List ℕ
  pub text : List ℕ

-- before the first read, with this layout of the bed
abbrev pub beginning : Layout → Reading
beginning l = record { chain = (fresh_run l).chain; number = (fresh_run l).number; held = []; text = [] }

-- a read brings some bytes: the whole frames among those that are there now get their lines, and the rest is held
unfoldable pub read_of : Reading → List ℕ → Reading
read_of s got =
    let b = s.held ++ got in
    let m = count_of s.chain in
    let k = length b / frame_bytes m in
    let r = ran_of m s.chain s.number b k in
    record { chain = r.chain; number = r.number; held = drop (k * frame_bytes m) b; text = s.text ++ r.text }

-- after a list of reads
unfoldable pub reads_of : Layout → Log (List ℕ) → Reading
reads_of l empty = beginning l
reads_of l (rs ▹ got) = read_of (reads_of l rs) got

-- all that a list of reads brings
abbrev pub joined : Log (List ℕ) → List ℕ
joined empty = []
joined (rs ▹ got) = joined rs ++ got

-- what is written by the time that the input ends: all lines, and that of the bytes that are left over
abbrev pub written_of : Reading → List ℕ
written_of s = s.text ++ short_line (length s.held)

-- what is written of an input
abbrev pub output_of : Layout → List ℕ → List ℕ
output_of l b = written_of (read_of (beginning l) b)

-- THE PROMISE, for every layout of the bed
pub record AnyReads : Type 0 where
  -- reads lead to what one read leads to that brings all of it,
  pub same : (l : Layout) (rs : Log (List ℕ)) → reads_of l rs ≡ read_of (beginning l) (joined rs)
  -- so that the output is the input's, whatever the reads are
  pub written : (l : Layout) (rs : Log (List ℕ)) → written_of (reads_of l rs) ≡ output_of l (joined rs)
  -- The code does with a read what `read_of` says. The first n bytes of the buffer are those that were held and those that came; the text has room
  -- for 16 lines of 64 bytes, and begins with the new ones.
  pub code : (s : Run) (b t held got text : List ℕ) (n : ℕ) → n ≤ length b → n ≤ buffer_bytes → length t ≡ text_bytes → take n b ≡ held ++ got
      → let r = after_read_in s b n t in
      record {
        chain = r.next.run.chain;
        number = r.next.run.number;
        held = take r.next.held r.buffer;
        text = text ++ take r.next.run.end r.text;
      }
      ≡ read_of (record { chain = s.chain; number = s.number; held = held; text = text }) got
