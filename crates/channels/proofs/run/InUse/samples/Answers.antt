-- `InUse::samples` meets its contract.
use Prim.Native.Nat.{ℕ, ◌+◌, ◌-◌, ◌*◌, min}
use mathlib.Core.Path.{ap, ◌∙◌}
use lib.ListN.{length, take, drop}
use Rattle.channels.proofs.Cut.{cut}
use Rattle.channels.proofs.run.InUse.samples.Goals as goal

pub returns : goal.returns
returns c =
    let a = c.args in
    let f = c.min-from in
    ap (λ (t : ℕ). take (t - f.result) (drop f.result a.self.now.xs.now)) c.min-to.ensures
    ∙ ap (λ (k : ℕ). take (min (k + 480) (length a.self.now.xs.now) - k) (drop k a.self.now.xs.now)) f.ensures
    ∙ cut a.self.now.xs.now (a.c * 480) 480
