-- Whether all numbers of a list are finite.
use Rattle.std.specs.Prelude.{◌≡◌, Bool, true, ◌&&◌, List, [], ◌∷◌, Float, refl}
use Rattle.std.specs.Float.Ieee.Scale.{finite}
use Rattle.sequence.specs.All.{all}

unfoldable pub all_finite : List Float → Bool
all_finite xs = all finite xs

pub all-none : all_finite [] ≡ true
unfolding all_finite
all-none = refl

pub all-more : (x : Float) (xs : List Float) → all_finite (x ∷ xs) ≡ finite x && all_finite xs
unfolding all_finite
all-more x xs = refl
