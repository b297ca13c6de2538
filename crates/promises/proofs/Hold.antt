-- The promises hold: each part is a law of its crate.
use lib.Ieee.{binary64}
use Rattle.float.proofs.Whole.{rounded}
use Rattle.logarithm.proofs.Results.{log2-within, log2-value}
use Rattle.logarithm.proofs.Examples.{log_examples}
use Rattle.power.proofs.Table.{roots_rule}
use Rattle.power.proofs.Bounds.{exp2-bounds}
use Rattle.power.proofs.Values.{exp2-laws}
use Rattle.power.proofs.Scaled.{exp_laws, exp10_laws, exp60_laws}
use Rattle.power.proofs.Examples.{power-examples}
use Rattle.root.proofs.Nearest.{sqrt-nearest, nearest-is}
use Rattle.level.proofs.Bs1770.{level-bs1770, level-samples, early-frames, first_frame_lem}
use Rattle.level.proofs.Deque.{level-deque, level-deque-reading}
use Rattle.level.proofs.Valid.{fresh_valid, frame-valid}
use Rattle.detector.proofs.Examples.{smoothstep-examples}
use Rattle.vad.proofs.Examples.{hold-examples}
use Rattle.vad.proofs.Rust.{strand-agrees, strand-answers}
use Rattle.vad.proofs.Valid as strand
use Rattle.ratio.specs.Laws.{DuckerLaws}
use Rattle.ratio.proofs.Laws.{ducker-laws}
use Rattle.ratio.proofs.Examples.{ratio-examples}
use Rattle.promises.proofs.FastCoeff.{fast-coeff}
use Rattle.promises.specs.Loudness.{Loudness}
use Rattle.promises.specs.Voice.{Voice}
use Rattle.promises.specs.StandIns.{StandIns}
use Rattle.promises.specs.Examples.{Examples}

pub stand_ins : StandIns
stand_ins = record {
  logarithm_bounds = log2-within;
  logarithm_value = log2-value;
  roots_rule = roots_rule;
  power_bounds = exp2-bounds;
  power_laws = exp2-laws;
  exp_laws = exp_laws;
  exp10_laws = exp10_laws;
  exp60_laws = exp60_laws;
  root_nearest = sqrt-nearest;
  root_only = nearest-is;
  round_nearest = rounded binary64;
}

pub examples : Examples
examples = record { logarithm = log_examples; power = power-examples; smoothstep = smoothstep-examples; ratio = ratio-examples; hold = hold-examples }

pub loudness : Loudness
loudness = record {
  bs1770 = level-bs1770;
  samples = level-samples;
  early = early-frames;
  first = first_frame_lem;
  deque = level-deque;
  deque_reading = level-deque-reading;
  fresh = fresh_valid;
  kept = frame-valid;
  fast_coefficient = fast-coeff;
}

pub ducker : DuckerLaws
ducker = ducker-laws

pub voice : Voice
voice = record { agrees = strand-agrees; answers = strand-answers; fresh = strand.fresh_valid; reset = strand.reset-valid; kept = strand.frame-valid }
