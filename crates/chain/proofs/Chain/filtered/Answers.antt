-- `Chain::filtered` meets its contract: the filters of both over the samples that they hear.
use mathlib.Core.Path.{refl, ◌∙◌}
use Rattle.detector.specs.Filters.{no_samples, outputs_of}
use Rattle.detector.proofs.Finished.{samples_into}
use Rattle.paired_filters.specs.Pairs.{filtered_of}
use Rattle.chain.specs.StrandFrames.{filters_of, pitch_of}
use Rattle.chain.proofs.Chain.filtered.Goals as goal

pub returns : goal.returns
unfolding filters_of pitch_of no_samples
returns c =
    let a = c.args in
    let f = c.filter_frame.ensures in
    let xs = samples_into a.key.now _ _ c.samples.ensures refl in
    let ys = samples_into a.bed.now _ _ c.samples-2.ensures refl in
    let key-bands = c.begin.ensures in
    let bed-bands = c.begin-2.ensures in (
      f.0 ∙ (λ i. filtered_of (record { first = c.start.ensures i; second = c.start-2.ensures i }) (record { first = key-bands i; second = bed-bands i }) (xs i) (ys i)),
      f.1 ∙ (λ i. outputs_of (key-bands i) (xs i)),
      f.2 ∙ (λ i. outputs_of (bed-bands i) (ys i)),
    )
