-- `FeatureDetector::frame` meets its contract: the outputs fill the places for them.
use Rattle.std.proofs.Common.{◌≡◌, List, length, take, refl, ap, ◌∙◌, ap₂, arith, take_all, rules}
use lib.Ieee.{Float}
use Rattle.sequence.specs.History.{laid}
use Rattle.detector.proofs.Finished.{no-samples-length, samples_into, samples-length, filled}
use Rattle.detector.specs.declared.filters.Bands.{Bands}
use Rattle.detector.specs.Filters.{no_samples, samples_of, begun, run_of, outputs_of}
use Rattle.detector.specs.Detector.{finish_of}
use Rattle.detector.specs.Detector.{frame_of}
use Rattle.detector.proofs.FeatureDetector.frame.Goals as goal

pub slice_bounds-run-end : goal.slice_bounds-run-end
unfolding no_samples
slice_bounds-run-end c =
    let xs = c.args.xs.now in
    let x = samples_into xs _ _ c.samples.ensures refl in
    search (rules, ap length x ∙ samples-length xs)

pub returns : goal.returns
unfolding frame_of no_samples
returns c =
    let a = c.args in
    let xs = a.xs.now in
    let x = samples_into xs _ _ c.samples.ensures refl in
    let s = c.begin in
    let run = c.run-bands in
    let all : take (length no_samples) (samples_of xs) ≡ samples_of xs = take_all (length no_samples) (samples_of xs) (omega (arith, samples-length xs, no-samples-length)) in
    let bands = run.ensures.0
    ∙ ap₂ (λ (t : Bands) (l : List Float). run_of t (take (length no_samples) l)) s.ensures x
    ∙ ap (run_of (begun a.self.filters)) all in
    let outputs = run.ensures.1
    ∙ ap₂ (λ (t : Bands) (l : List Float). laid (outputs_of t (take (length no_samples) l)) no_samples) s.ensures x
    ∙ filled (begun a.self.filters) xs no_samples no-samples-length in
    c.finish.ensures ∙ ap₂ (finish_of a.self) bands outputs
