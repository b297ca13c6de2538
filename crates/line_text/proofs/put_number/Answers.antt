-- `put_number` meets its contract: the digits that `io::decimal` gives are those of `decimal`, at most 20.
use Rattle.std.proofs.Common.{length, ap, ◌∙◌, arith, rules}
use Rattle.line_text.specs.Line.{put_at}
use Rattle.line_text.proofs.Digits.{decimal-digits, decimal-length}
use Rattle.line_text.proofs.put_number.Goals as goal

pub put-requires : goal.put-requires
put-requires c =
    let n = c.args.n in
    let d = c.decimal-count in
    omega (arith, ap length (d.ensures.digits ∙ decimal-digits d.result n (search rules) d.ensures.len), decimal-length n)

pub returns : goal.returns
returns c =
    let a = c.args in
    let d = c.decimal-count in
    c.put.ensures ∙ ap (put_at a.text.now a.at) (d.ensures.digits ∙ decimal-digits d.result a.n (search rules) d.ensures.len)
