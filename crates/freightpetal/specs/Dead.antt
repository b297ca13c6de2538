-- Dead units that save or restore wrongly: none of them meets the demands.
use Rattle.demands.specs.Calls.{Calls, all_calls, Port}
use Rattle.demands.specs.Demands.{Demand3b, Demand3c}
use Rattle.demands.specs.Dead.{OneImage, RestoresNothing}
use Rattle.rules.specs.Rules.{rules}
use Rattle.image.specs.Port.{images}

abbrev pub taken : Calls rules
taken = all_calls rules images

pub record NoDeadUnit (unit : Port rules taken) : Type 0 where
  -- one that writes one fixed image
  pub not_one_image : Demand3b rules taken unit images → OneImage rules images unit → ⊥
  -- one whose restore leaves the chain as it is
  pub not_restores_nothing : Demand3b rules taken unit images → Demand3c rules taken unit images → RestoresNothing rules images unit → ⊥

-- whatever the unit is
abbrev pub NoDeadUnits : Type 0
NoDeadUnits = (unit : Port rules taken) → NoDeadUnit unit
