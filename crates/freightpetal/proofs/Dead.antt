-- No dead unit that saves or restores meets the demands: the witness is a fresh chain, and one whose ducker was switched off.
use mathlib.Core.Path.{◌≡◌, refl, ap}
use mathlib.Core.Bool.{true, false, true≢false}
use lib.Ieee.{fits, lt, of_bits, neg}
use Rattle.demands.specs.Calls.{empty, ◌▹◌}
use Rattle.demands.specs.Demands.{state_of}
use Rattle.demands.specs.Dead.{TwoStates}
use Rattle.demands.proofs.Dead as dead
use Rattle.chain.specs.declared.Chain.{Chain}
use Rattle.settings.specs.declared.Settings.{Settings}
use Rattle.settings.specs.Settings.{outside_of, outside_strand, outside_duck, outside_settings, stored_of, stored_duck, fresh_strand, fresh_duck}
use Rattle.rules.specs.Rules.{HeldStrand, HeldDuck, Asked, settings, settings_number, rules}
use Rattle.image.specs.Port.{images}
use Rattle.freightpetal.specs.Dead.{NoDeadUnits}

abbrev off : Settings
off = record {
  key = fresh_strand;
  bed = fresh_strand;
  duck = record {
    enabled = false;
    target_lu = fresh_duck.target_lu;
    overvoice_lu = fresh_duck.overvoice_lu;
    max_reduction_db = fresh_duck.max_reduction_db;
    speed = fresh_duck.speed;
    bed_voice = true;
  };
}

strand-held : HeldStrand fresh_strand
unfolding fits of_bits neg
strand-held = (tt, tt, tt)

duck-held : HeldDuck off.duck
unfolding fits of_bits
duck-held = (tt, tt, tt, tt)

abbrev asked : Asked
asked = record { values = off; key = strand-held; bed = strand-held; duck = duck-held }

off-passes : settings_number off ≡ 0
unfolding settings_number outside_settings outside_strand outside_duck outside_of lt of_bits neg
off-passes = refl

two-states : TwoStates rules
unfolding state_of stored_of stored_duck
two-states = record {
  h = empty;
  h' = empty ▹ settings asked;
  lived = tt;
  lived' = (tt, off-passes);
  apart = λ p. true≢false (ap (λ (c : Chain). c.settings.duck.enabled) p);
}

pub no-dead_units : NoDeadUnits
no-dead_units unit = record {
  not_one_image = λ d. dead.not_one_image rules images unit d two-states;
  not_restores_nothing = λ d d'. dead.not_restores_nothing rules images unit d d' two-states;
}
