-- `read_on` meets its contract: the first bytes stay, and those of each read stand behind them.
use Rattle.std.proofs.Common.{◌<◌, ◌++◌, length, take, drop, ap, sym, subst, ◌∙◌, arith}
use Rattle.std.proofs.Math.Seq.{take-add}
use Rattle.recorded.specs.Reads.{ReadOn}
use Rattle.recorded.proofs.Brought.{read_more}
use Rattle.recorded.proofs.file.read_on.Goals as goal

pub loop-preserved : goal.loop-preserved
loop-preserved g c =
    let end = c.loop.end in
    let now = c.read.new.buffer in
    let room : end < length c.loop.buffer = omega arith in
    let front = take-add end c.in-Ok.read now ∙ ap (λ l. l ++ take c.in-Ok.read (drop end now)) c.in-Ok.ensures.kept in
    record {
      enough = omega (arith, c.in-Ok.ensures.count);
      within = omega (arith, c.in-Ok.ensures.count);
      kept = subst (ReadOn _ _ _) (sym front) (read_more _ _ _ _ _ _ c.loop.invariant.kept (c.in-Ok.ensures.brought room).0);
    }
