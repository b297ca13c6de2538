-- `short` meets its contract: nothing where no byte is left, else the line.
use Rattle.std.proofs.Common.{Bool, cond, [], ◌∷◌, sym, ap, ◌∙◌, arith, eq-eqb, ne_eqb}
use Rattle.blocks.proofs.Lists.{none_yet}
use Rattle.program.specs.Text.{ascii}
use Rattle.line_text.specs.Line.{decimal, line, short_line}
use Rattle.line_text.proofs.Parts.{short-joined, decimal-end, bytes-end}
use Rattle.line_text.proofs.Putting.{promised, put-laid, put_as, put_then}
use Rattle.line_text.proofs.short.Goals as goal

pub returns-then-left-eq0-clause-line : goal.returns-then-left-eq0-clause-line
unfolding short_line
returns-then-left-eq0-clause-line c =
    let a = c.args in
    (put_as
    {end = 0}
    (ap (λ (b : Bool). cond b [] (line (ascii "short" ∷ decimal a.left ∷ []))) (sym (eq-eqb a.left 0 c.if-left-eq0.true)))
    (put-laid (none_yet a.text.now 0) (omega arith))).is

pub put_number-end-requires : goal.put_number-end-requires
put_number-end-requires c = omega (arith, bytes-end _ _ _ _ _ c.put-number.ensures)

pub put-requires : goal.put-requires
put-requires c = omega (arith, bytes-end _ _ _ _ _ c.put-number.ensures, decimal-end _ _ _ _ _ c.put_number-end.ensures)

pub returns-clause-room : goal.returns-clause-room
returns-clause-room c =
    omega (arith, bytes-end _ _ _ _ _ c.put-number.ensures, decimal-end _ _ _ _ _ c.put_number-end.ensures, bytes-end _ _ _ _ _ c.put.ensures)

pub returns-clause-line : goal.returns-clause-line
unfolding short_line
returns-clause-line c =
    let a = c.args in
    (put_as
    (short-joined (decimal a.left) ∙ ap (λ (b : Bool). cond b [] (line (ascii "short" ∷ decimal a.left ∷ []))) (sym (ne_eqb a.left 0 c.if-left-eq0.false)))
    (put_then (put_then (promised _ _ _ _ _ c.put-number.ensures) (promised _ _ _ _ _ c.put_number-end.ensures)) (promised _ _ _ _ _ c.put.ensures))).is
