-- `frame` meets its contract: the chain's frame of the key and of the bed, whose samples are put at the start of those that are lent, and its line.
use Rattle.std.proofs.Common.{◌+◌, ◌%◌, ◌^◌, ap, ◌∙◌}
use Rattle.chain.specs.Chain.{Framed}
use Rattle.line_text.specs.Line.{line_of, put_at}
use Rattle.ducklines.specs.Frames.{frame_in}
use Rattle.ducklines.proofs.Ran.{heard-frame}
use Rattle.ducklines.proofs.frame.Goals as goal

pub returns : goal.returns
unfolding frame_in
returns c =
    let a = c.args in
    let framed = heard-frame a.run.chain a.buffer.now a.i _ a.bed.now _ _ c.heard-f.ensures c.key-key.ensures c.bed.ensures in
    let line = c.frame.ensures ∙ ap (λ (f : Framed). put_at a.text.now a.run.end (line_of a.run.number f.outcome)) framed in
    λ j. record { run = record { chain = (framed j).chain; number = (a.run.number + 1) % 2 ^ 64; end = (line j).end }; bytes = (line j).bytes }
