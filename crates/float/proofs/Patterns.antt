-- Which bit patterns are a NaN's: those above the infinity's, the sign taken off. One law over both formats.
use Rattle.std.proofs.Common.{◌≡◌, ℕ, ◌*◌, ◌%◌, ◌<◌, ◌≤◌, Bool, not, T, sym, refl, ◌∙◌, subst, le-ltb, lt-ltb}
use lib.Ieee.{Float, nan, inf, fin, Format, hid, ones, top, is_nan, nan_bits, of_bits}
use lib.Ieee.Bits.{nan_bits_is, nan_bits_above}

is-nan : (x : Float) → T (is_nan x) → nan ≡ x
unfolding is_nan
is-nan nan h = refl
is-nan (inf s) h = absurd h
is-nan (fin s m e) h = absurd h

pub nan_pattern : (f : Format) (n : ℕ) → ones f * hid f < n % top f → nan ≡ of_bits f n
nan_pattern f n h = is-nan (of_bits f n) (subst T (sym (sym (nan_bits_is f n) ∙ nan_bits_above f n ∙ lt-ltb (ones f * hid f) (n % top f) h)) tt)

pub no-nan-pattern : (f : Format) (n : ℕ) → n % top f ≤ ones f * hid f → T (not (nan_bits f n))
no-nan-pattern f n h = subst (λ (t : Bool). T (not t)) (sym (nan_bits_above f n ∙ le-ltb (ones f * hid f) (n % top f) h)) tt
