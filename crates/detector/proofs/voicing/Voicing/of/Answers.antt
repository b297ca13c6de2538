-- `Voicing::of` meets its contract: a full window holds all places.
use Rattle.std.proofs.Common.{rules}
use Rattle.detector.proofs.Scanned.{window-short, window-full}
use Rattle.detector.proofs.voicing.Voicing.of.Goals as goal

pub returns-then-decimated-lt-PITCH_WINDOW : goal.returns-then-decimated-lt-PITCH_WINDOW
returns-then-decimated-lt-PITCH_WINDOW c =
    window-short c.args.decimated.count c.args.decimated.list c.if-decimated-lt-PITCH_WINDOW.true

pub returns : goal.returns
returns c =
    let a = c.args.decimated in
    window-full a.count a.list _ (search rules) c.if-decimated-lt-PITCH_WINDOW.false c.widened.ensures _ c.window.ensures
