-- `frame` meets its contract: the frame's number, then what its outcome has to say.
use Rattle.std.proofs.Common.{ℕ, ◌++◌, sym, ap, ◌∙◌, arith}
use Rattle.program.specs.Text.{ascii}
use Rattle.line_text.specs.Line.{decimal, line_of}
use Rattle.line_text.proofs.Parts.{refused-joined, decimal-end, bytes-end}
use Rattle.line_text.proofs.Putting.{promised, put_as, put_then}
use Rattle.line_text.proofs.frame.Goals as goal

pub put_answer-requires : goal.put_answer-requires
put_answer-requires c = omega (arith, decimal-end _ _ _ _ _ c.put_number-middle.ensures, c.ranges.at)

pub put-code-requires : goal.put-code-requires
put-code-requires c = omega (arith, decimal-end _ _ _ _ _ c.put_number-middle.ensures, c.ranges.at)

pub put_number-end-requires : goal.put_number-end-requires
put_number-end-requires c = omega (arith, decimal-end _ _ _ _ _ c.put_number-middle.ensures, bytes-end _ _ _ _ _ c.put-code.ensures, c.ranges.at)

pub put-requires : goal.put-requires
put-requires c = omega (arith, decimal-end _ _ _ _ _ c.put_number-middle.ensures, bytes-end _ _ _ _ _ c.put-code.ensures, decimal-end _ _ _ _ _ c.put_number-end.ensures, c.ranges.at)

pub returns-in-Ok : goal.returns-in-Ok
unfolding line_of
returns-in-Ok c =
    let a = c.args in
    (put_as (ap (line_of a.number) (sym c.in-Ok.is)) (put_then (promised _ _ _ _ _ c.put_number-middle.ensures) (promised _ _ _ _ _ c.put_answer.ensures))).is

pub returns-in-Err : goal.returns-in-Err
unfolding line_of
returns-in-Err c =
    let a = c.args in
    (put_as
    (ap (λ (k : ℕ). decimal a.number ++ ascii " refused " ++ decimal k ++ ascii "\n") c.from.ensures
    ∙ refused-joined (decimal a.number) _
    ∙ ap (line_of a.number) (sym c.in-Err.is))
    (put_then
    (put_then (put_then (promised _ _ _ _ _ c.put_number-middle.ensures) (promised _ _ _ _ _ c.put-code.ensures)) (promised _ _ _ _ _ c.put_number-end.ensures))
    (promised _ _ _ _ _ c.put.ensures))).is
