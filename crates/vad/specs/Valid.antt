-- A strand that an image can hold: level and detector are, every number of the decision is finite and fits an f64, the hold is at most 6,000
-- frames, onsets minus offsets equals active, and the onsets are within their limit.
use Rattle.std.specs.Prelude.{◌≡◌, ◌+◌, ◌≤◌, T, from_bits, Float, IfSome}
use Rattle.std.specs.Float.{binary64}
use Rattle.std.specs.Float.Ieee.{le}
use Rattle.float.specs.Valid.{Num}
use Rattle.level.specs.Valid as level
use Rattle.detector.specs.Valid as detector
use Rattle.vad.specs.declared.VadSettings.{VadSettings}
use Rattle.vad.specs.declared.Decision.{Decision}
use Rattle.vad.specs.declared.Strand.{Strand}
use Rattle.vad.specs.Decision.{flag_of}

pub record DecisionValid (d : Decision) : Type 0 where
  pub probability : Num binary64 d.probability
  pub counts : d.onsets ≡ d.offsets + flag_of d.active
  pub onsets : d.onsets ≤ 4294967295
  pub hold : d.hold ≤ 6000
  pub power : IfSome d.power (Num binary64)

pub record Valid (t : Strand) : Type 0 where
  pub level : level.Valid t.level
  pub detector : detector.Valid t.detector
  pub decision : DecisionValid t.decision

-- 60,000 ms
abbrev pub longest_hold : Float
longest_hold = from_bits binary64 0x40ed4c0000000000

-- a hold that a settings call takes; its upper end is what matters here
abbrev pub HoldWithin : VadSettings → Type 0
HoldWithin s = T (le s.hold_ms longest_hold)
