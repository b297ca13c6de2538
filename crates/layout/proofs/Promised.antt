-- What is promised of layouts.
use mathlib.Core.Path.{refl}
use Rattle.layout.specs.Layout.{size_of, within_of}
use Rattle.layout.specs.Weights.{surround, weight_of}
use Rattle.layout.specs.Laws.{LayoutLaws, Accepts, Weighs}
use Rattle.layout.proofs.Degrees.{size_degrees}
use Rattle.layout.proofs.Placed.{placed_within, weight_kinds}
use Rattle.layout.proofs.Stored.{mono_weights, stored_weights, stored_stored, stored_within, mono_valid, stored_valid, valid_stored}

-- the boundaries, computed
accepts : Accepts
unfolding within_of size_of
accepts = refl

weighs : Weighs
unfolding weight_of surround size_of
weighs = refl

pub layout-laws : LayoutLaws
layout-laws = record {
  size_degrees = size_degrees;
  weight_kinds = weight_kinds;
  mono_weights = mono_weights;
  stored_weights = stored_weights;
  stored_stored = stored_stored;
  placed_within = placed_within;
  stored_within = stored_within;
  mono_valid = mono_valid;
  stored_valid = stored_valid;
  valid_stored = valid_stored;
  accepts = accepts;
  weighs = weighs;
}
