-- `put_answer` meets its contract: its words, one run behind another.
use Rattle.std.proofs.Common.{ℕ, ◌++◌, ap, ◌∙◌, arith}
use Rattle.program.specs.Text.{ascii}
use Rattle.line_text.specs.Line.{decimal, hundredths_of}
use Rattle.line_text.proofs.Parts.{state_part, active_part, answer-joined, bytes-end, state-room, active-room, decimal-end}
use Rattle.line_text.proofs.Putting.{promised, put_as, put_then}
use Rattle.line_text.proofs.put_answer.Goals as goal

pub put-key-requires : goal.put-key-requires
put-key-requires c = omega (arith, state-room c.args.a.status.state _ c.state_text.ensures, c.requires)

pub put-bed-requires : goal.put-bed-requires
put-bed-requires c =
    let a = c.args.a in
    omega (
      arith,
      bytes-end _ _ _ _ _ c.put-key.ensures,
      state-room a.status.state _ c.state_text.ensures,
      active-room a.key.speech_active _ c.active_text.ensures,
      c.requires,
    )

pub put-number-requires : goal.put-number-requires
put-number-requires c =
    let a = c.args.a in
    omega (
      arith,
      bytes-end _ _ _ _ _ c.put-key.ensures,
      bytes-end _ _ _ _ _ c.put-bed.ensures,
      state-room a.status.state _ c.state_text.ensures,
      active-room a.key.speech_active _ c.active_text.ensures,
      active-room a.bed.speech_active _ c.active_text-2.ensures,
      c.requires,
    )

pub put_number-end-requires : goal.put_number-end-requires
put_number-end-requires c =
    let a = c.args.a in
    omega (
      arith,
      bytes-end _ _ _ _ _ c.put-key.ensures,
      bytes-end _ _ _ _ _ c.put-bed.ensures,
      bytes-end _ _ _ _ _ c.put-number.ensures,
      state-room a.status.state _ c.state_text.ensures,
      active-room a.key.speech_active _ c.active_text.ensures,
      active-room a.bed.speech_active _ c.active_text-2.ensures,
      c.requires,
    )

pub put-requires : goal.put-requires
put-requires c =
    let a = c.args.a in
    omega (
      arith,
      bytes-end _ _ _ _ _ c.put-key.ensures,
      bytes-end _ _ _ _ _ c.put-bed.ensures,
      bytes-end _ _ _ _ _ c.put-number.ensures,
      decimal-end _ _ _ _ _ c.put_number-end.ensures,
      state-room a.status.state _ c.state_text.ensures,
      active-room a.key.speech_active _ c.active_text.ensures,
      active-room a.bed.speech_active _ c.active_text-2.ensures,
      c.requires,
    )

pub returns : goal.returns
returns c =
    let a = c.args.a in
    let h = c.hundredths in
    (put_as
    (ap (λ (n : ℕ). state_part a.status.state ++ active_part a.key.speech_active ++ active_part a.bed.speech_active ++ decimal n ++ ascii "\n") h.ensures
    ∙ answer-joined a.status.state a.key.speech_active a.bed.speech_active (decimal (hundredths_of a.status.reduction_db.0)))
    (put_then
    (put_then
    (put_then
    (put_then (put_as c.state_text.ensures (promised _ _ _ _ _ c.put-key.ensures)) (put_as c.active_text.ensures (promised _ _ _ _ _ c.put-bed.ensures)))
    (put_as c.active_text-2.ensures (promised _ _ _ _ _ c.put-number.ensures)))
    (promised _ _ _ _ _ c.put_number-end.ensures))
    (promised _ _ _ _ _ c.put.ensures))).is
