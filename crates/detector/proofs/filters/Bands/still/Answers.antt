-- `Bands::still` meets its contract: number by number.
use Rattle.std.proofs.Common.{◌≡◌, Bool, ◌&&◌, sym, ap, ◌∙◌}
use lib.Ieee.Fits.{and_l, and_r}
use Rattle.float.specs.Same.{same_of}
use Rattle.detector.specs.declared.filters.Bands.{Bands}
use Rattle.detector.specs.Filters.{step_of}
use Rattle.detector.specs.Rest.{same_filters, same_bands, still_of}
use Rattle.detector.proofs.filters.Bands.still.Goals as goal

-- the answer on what the step came to
told : (n m s : Bands) {f a b p : Bool} → n ≡ m → f ≡ same_filters n.filters s.filters → a ≡ same_of n.full s.full → b ≡ same_of n.band s.band → p ≡ same_of n.pitch s.pitch
    → f && a && b && p ≡ same_bands m s
unfolding same_bands
told n m s e f a b p = (λ i. f i && a i && b i && p i) ∙ ap (λ (k : Bands). same_bands k s) e

pub returns : goal.returns
unfolding still_of
returns c =
    let f = c.same in
    let a = c.same-2 in
    let b = c.same-3 in
    let p = c.same-4 in (
      told c.step-n.result (step_of c.args.self c.args.v) c.args.self c.step-n.ensures f.ensures.0 a.ensures.0 b.ensures.0 p.ensures.0,
      λ t.
          let u = and_l (f.result && a.result && b.result) p.result t in
          let v = and_l (f.result && a.result) b.result u in
          sym c.step-n.ensures
          ∙ (λ i. record {
            filters = f.ensures.1 (and_l f.result a.result v) i;
            full = a.ensures.1 (and_r f.result a.result v) i;
            band = b.ensures.1 (and_r (f.result && a.result) b.result u) i;
            pitch = p.ensures.1 (and_r (f.result && a.result && b.result) p.result t) i;
          }),
    )
