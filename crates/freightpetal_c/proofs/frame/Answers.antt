-- `frame` meets its contract: what opening the bytes gave, then the frame's outcome.
use mathlib.Core.Path.{refl}
use Rattle.std.proofs.lemmas.Result.{err_from_is_err_and}
use Rattle.freightpetal_c.proofs.Lent.{frame_ok, frame_err, framed-passed, framed-refused}
use Rattle.freightpetal_c.proofs.frame.Goals as goal

pub returns-in_err-opened : goal.returns-in_err-opened
returns-in_err-opened c =
    let p = err_from_is_err_and c.from_residual.result c.from_residual.ensures.1 in
    rw (p.1, p.2) (frame_err _ c.open-opened.ensures _ _ _ c.in_err-opened.was)

pub returns-in_err-a : goal.returns-in_err-a
returns-in_err-a c =
    let p = err_from_is_err_and c.from_residual-in_err-a.result c.from_residual-in_err-a.ensures.1 in
    rw (p.1, p.2) (frame_ok _ c.open-opened.ensures _ _ _ c.in_ok-opened.was c.frame-f.ensures.0 (framed-refused _ _ _ c.in_err-a.was refl))

pub returns : goal.returns
returns c = frame_ok _ c.open-opened.ensures _ _ _ c.in_ok-opened.was c.frame-f.ensures.0 (framed-passed _ _ _ c.in_ok-a.was c.save.ensures.1 c.answer.ensures)
