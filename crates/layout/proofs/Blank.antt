-- Eight blank places, and eight weights of 0.
use mathlib.Core.Path.{◌≡◌, refl}
use lib.ListN.{length}
use Rattle.layout.specs.Layout.{most, blanks}
use Rattle.layout.specs.Weights.{no_weights}

pub blanks-length : length blanks ≡ most
unfolding blanks
blanks-length = refl

pub no-weights-length : length no_weights ≡ most
unfolding no_weights
no-weights-length = refl
