-- `Filters::same` meets its contract: section by section.
use Rattle.std.proofs.Common.{◌&&◌}
use lib.Ieee.Fits.{and_l, and_r}
use Rattle.detector.specs.Rest.{same_filters}
use Rattle.detector.proofs.filters.Filters.same.Goals as goal

pub returns : goal.returns
unfolding same_filters
returns c =
    let a = c.same_state in
    let b = c.same_state-2 in
    let p = c.same_state-3 in
    let q = c.same_state-4 in (
      λ i. a.ensures.0 i && b.ensures.0 i && p.ensures.0 i && q.ensures.0 i,
      λ t.
          let u = and_l (a.result && b.result && p.result) q.result t in
          let v = and_l (a.result && b.result) p.result u in
          λ i. record {
            high_pass = a.ensures.1 (and_l a.result b.result v) i;
            low_pass = b.ensures.1 (and_r a.result b.result v) i;
            pitch1 = p.ensures.1 (and_r (a.result && b.result) p.result u) i;
            pitch2 = q.ensures.1 (and_r (a.result && b.result && p.result) q.result t) i;
          },
    )
