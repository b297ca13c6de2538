-- `Means::of` meets its contract: the sum over 40 frames begins that over 300, and each divisor is the number of frames that were added, at least 1.
use Rattle.std.proofs.Common.{arith}
use Rattle.level.specs.Level.{means_of}
use Rattle.level.proofs.Sum.{momentary-mean, short_term-mean}
use Rattle.level.proofs.Means.of.Goals as goal

pub mean-requires : goal.mean-requires
mean-requires c = omega (arith, c.held-held.ensures.size)

pub mean-requires-2 : goal.mean-requires-2
mean-requires-2 c = omega (arith, c.held-held.ensures.size)

pub returns : goal.returns
unfolding means_of
returns c =
    let xs = c.held-held.result.now in
    rw (
      c.mean.ensures,
      c.mean-2.ensures,
      c.sum_newest-short_term.ensures,
      c.sum_newest-momentary.ensures,
      c.min-recent.ensures,
      ← c.held-held.ensures.values,
    )
    (λ i. record { momentary = momentary-mean xs i; short_term = short_term-mean xs (omega (arith, c.held-held.ensures.size)) i })
