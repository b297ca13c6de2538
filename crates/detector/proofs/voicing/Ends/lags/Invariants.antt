-- `Ends::lags` meets its contract. The loop's invariant: the lags that are left, from the ends so far, come to the same.
use Rattle.std.proofs.Common.{◌≡◌, ◌-◌}
use Rattle.detector.specs.Voicing.{lags_of}
use Rattle.detector.proofs.voicing.Ends.lags.Given as goal

abbrev pub invariant-loop-lag : goal.invariant-loop-lag
invariant-loop-lag l = lags_of l.x (76 - l.lag) l.lag l.self ≡ lags_of l.x 61 15 l.initial.self
