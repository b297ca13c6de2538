-- `after_read` meets its contract: the frames, then what is left behind them.
use Rattle.std.proofs.Common.{ℕ, ◌/◌, List, ap, ◌∙◌, arith}
use Rattle.frame_bytes.specs.Bytes.{kept_of}
use Rattle.frame_bytes.proofs.Sizes.{frame_least}
use Rattle.ducklines.specs.Frames.{AfterRead, count_of, frames_in, among_in, after_read_in}
use Rattle.ducklines.specs.declared.Run.{Run}
use Rattle.ducklines.proofs.Ran.{few-frames, read_held, read-end}
use Rattle.ducklines.proofs.after_read.Goals as goal

-- what `among_in` says, where a frame has f bytes
abbrev among_by : Run → List ℕ → ℕ → ℕ → List ℕ → AfterRead
among_by s b n f t =
    let w = frames_in s b (n / f) t in
    let h = kept_of (count_of s.chain) b (n / f) n in
    record { next = record { run = w.run; held = h.held }; buffer = h.bytes; text = w.bytes }

pub nonzero_div-count : goal.nonzero_div-count
nonzero_div-count c = omega (arith, c.size.ensures, frame_least (count_of c.args.run.chain))

pub overflow_cast-count : goal.overflow_cast-count
overflow_cast-count c =
    let m = count_of c.args.run.chain in
    record { fits = omega (arith, few-frames m c.min-there.result c.size.result c.size.ensures (omega (arith, c.min-there.ensures))) }

pub frames-next-requires : goal.frames-next-requires
frames-next-requires c =
    let there = c.min-there in
    let size = c.size in
    few-frames (count_of c.args.run.chain) there.result size.result size.ensures (omega (arith, there.ensures))

pub returns-clause-next : goal.returns-clause-next
unfolding after_read_in among_in
returns-clause-next c =
    let a = c.args in
    let b = a.buffer.now in
    let there = c.min-there in
    let f = c.frames-next.ensures in
    let k = c.keep-left.ensures in
    ◌∙◌
    {b = among_by a.run b there.result c.size.result a.text.now}
    (λ i. record { next = record { run = (f i).run; held = (k i).held }; buffer = (k i).bytes; text = (f i).bytes })
    (ap (λ (x : ℕ). among_by a.run b there.result x a.text.now) c.size.ensures
    ∙ ap (λ (n : ℕ). among_in a.run b n a.text.now) there.ensures)

pub returns-clause-room : goal.returns-clause-room
returns-clause-room c = read-end _ _ _ _ _ (returns-clause-next c)

pub returns-clause-left : goal.returns-clause-left
returns-clause-left c = read_held _ _ _ _ _ (returns-clause-next c)
