-- The channels' weights by Recommendation ITU-R BS.1770-4 (table 4, for any place of a channel).
use Rattle.std.specs.Prelude.{Bool, cond, ◌&&◌, List, map, leb, ltb, eqb, replicate, Float}
use Rattle.std.specs.Float.{binary64}
use Rattle.std.specs.Float.Ieee.{of_bits}
use Rattle.sequence.specs.History.{filled}
use Rattle.float.specs.Arithmetic.{zero64, one64}
use Rattle.layout.specs.declared.Place.{Place}
use Rattle.layout.specs.declared.Layout.{Layout}
use Rattle.layout.specs.Layout.{most, size_of, used}

-- the f64 nearest to 1.41
abbrev pub surround_weight : Float
surround_weight = of_bits binary64 0x3ff68f5c28f5c28f

-- an elevation strictly between -30 and 30, and an azimuth from 60 to 120 on either side
unfoldable pub surround : Place → Bool
surround p = ltb (size_of p.elevation) 30 && leb 60 (size_of p.azimuth) && leb (size_of p.azimuth) 120

-- 0 for an LFE, 1.41 for a surround channel, 1 otherwise
unfoldable pub weight_of : Place → Float
weight_of p = cond (eqb p.lfe 0) (cond (surround p) surround_weight one64) zero64

-- those of the channels in use
abbrev pub used_weights : Layout → List Float
used_weights l = map weight_of (used l)

-- the same in eight places, and 0 after them
unfoldable pub no_weights : List Float
no_weights = replicate most zero64

unfoldable pub weights_of : Layout → List Float
weights_of l = filled zero64 most (used_weights l)
