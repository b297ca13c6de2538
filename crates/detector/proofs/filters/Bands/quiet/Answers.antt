-- `Bands::quiet` meets its contract.
use Rattle.std.proofs.Common.{◌≡◌, Bool, ◌&&◌, T, sym, ap, ◌∙◌, subst}
use Rattle.detector.specs.declared.filters.Bands.{Bands}
use Rattle.detector.specs.Filters.{step_of}
use Rattle.detector.specs.Rest.{still_of, quiet_of}
use Rattle.detector.proofs.Silent.{quiet}
use Rattle.detector.proofs.filters.Bands.quiet.Goals as goal

pub returns-then-all_same : goal.returns-then-all_same
unfolding quiet_of
returns-then-all_same c =
    let a = c.args in
    let s = c.all_same.ensures in
    let e = c.step-first.ensures in
    let h = c.still.ensures in (
      h.0 ∙ (λ i. (sym c.if-all_same.true ∙ s.0) i && still_of (e i) a.v),
      λ t. quiet a.self a.v a.xs.now (s.1 (subst T (sym c.if-all_same.true) tt)) (subst (λ (b : Bands). step_of b a.v ≡ b) e (h.1 t)),
    )

pub returns : goal.returns
unfolding quiet_of
returns c =
    let a = c.args in
    (ap (λ (b : Bool). b && still_of (step_of a.self a.v) a.v) (sym c.if-all_same.false ∙ c.all_same.ensures.0), λ t. absurd t)
