-- What duckline does with bytes that it has read: frames one after the other, their lines, and what is left. Definitions only.
use Rattle.std.specs.Prelude.{ℕ, zero, suc, ◌+◌, ◌/◌, ◌%◌, ◌^◌, min, List, [], ◌++◌, length, Float}
use Rattle.blocks.specs.Lists.{laid}
use Rattle.layout.specs.declared.Layout.{Layout}
use Rattle.chain.specs.declared.Chain.{Chain}
use Rattle.chain.specs.Chain.{fresh_of, frame_of, layout_of}
use Rattle.frame_bytes.specs.Bytes.{frame_bytes, buffer_bytes, key_at, bed_at, kept_of}
use Rattle.line_text.specs.Line.{line_of, put_at}
use Rattle.ducklines.specs.declared.Run.{Run}
use Rattle.ducklines.specs.declared.Next.{Next}

-- a chain, the number of the frame that comes next, and text
pub record Ran : Type 0 where
  pub chain : Chain
  pub number : ℕ
  pub text : List ℕ

-- one frame more, and its line
abbrev pub heard_of : Ran → List Float → List Float → Ran
heard_of r key bed =
    let f = frame_of r.chain key bed in
    record { chain = f.chain; number = (r.number + 1) % 2 ^ 64; text = r.text ++ line_of r.number f.outcome }

-- the first k frames of some bytes, whose bed has m channels, on a chain, the first of them with number n
unfoldable pub ran_of : ℕ → Chain → ℕ → List ℕ → ℕ → Ran
ran_of m c n b zero = record { chain = c; number = n; text = [] }
ran_of m c n b (suc k) = heard_of (ran_of m c n b k) (key_at m b k) (bed_at m b k)

-- how many channels the bed of a chain has: a frame doesn't change that
abbrev pub count_of : Chain → ℕ
count_of c = c.surround.layout.count

-- ---- a run, as the program keeps it

-- a fresh chain that got this layout call, and frames are counted from 1
abbrev pub fresh_run : Layout → Run
fresh_run l = record { chain = (layout_of fresh_of l).chain; number = 1; end = 0 }

-- a run and its lent text
pub record Written : Type 0 where
  pub run : Run
  pub bytes : List ℕ

-- frame k of some bytes; its line is put behind those of the frames before it
unfoldable pub frame_in : Run → List ℕ → ℕ → List ℕ → Written
frame_in s b k t =
    let f = frame_of s.chain (key_at (count_of s.chain) b k) (bed_at (count_of s.chain) b k) in
    let p = put_at t s.end (line_of s.number f.outcome) in
    record { run = record { chain = f.chain; number = (s.number + 1) % 2 ^ 64; end = p.end }; bytes = p.bytes }

-- the first k frames of some bytes; their lines are put at the start
unfoldable pub frames_in : Run → List ℕ → ℕ → List ℕ → Written
frames_in s b k t =
    let r = ran_of (count_of s.chain) s.chain s.number b k in
    record { run = record { chain = r.chain; number = r.number; end = length r.text }; bytes = laid t 0 r.text }

-- ---- a read

-- after a read: what comes next, the buffer and the text
pub record AfterRead : Type 0 where
  pub next : Next
  pub buffer : List ℕ
  pub text : List ℕ

-- the first n bytes of a buffer are held: the whole frames among them get their lines, and what is left behind them is held
unfoldable pub among_in : Run → List ℕ → ℕ → List ℕ → AfterRead
among_in s b n t =
    let k = n / frame_bytes (count_of s.chain) in
    let w = frames_in s b k t in
    let h = kept_of (count_of s.chain) b k n in
    record { next = record { run = w.run; held = h.held }; buffer = h.bytes; text = w.bytes }

-- n bytes are held, or as many as the buffer has
unfoldable pub after_read_in : Run → List ℕ → ℕ → List ℕ → AfterRead
after_read_in s b n t = among_in s b (min n buffer_bytes) t
