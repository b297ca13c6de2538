-- What is read where a word breaks a rule, or several words one that joins them: an angle, a place, and the number of channels.
use mathlib.Core.Path.{◌≡◌, sym, ap, ◌∙◌, subst}
use mathlib.Core.Bool.{true, false}
use mathlib.Core.List.{List}
use Prim.Native.Nat.{ℕ, ◌+◌, ◌≤◌, ◌<◌}
use native.Mathlib.Omega.{arith}
use borrow.Author.Tests.{eq-eqb, ne_eqb, le-leb, lt-leb}
use lib.ListN.{get_or}
use Rattle.codec.specs.Fields.{capped, ruled}
use Rattle.codec.proofs.Kept.{true-T, ruled-same, ruled-other}
use Rattle.layout.specs.declared.Place.{Place}
use Rattle.layout.specs.Layout.{size_of, blank}
use Rattle.surround_image.specs.Surround.{angle_rule, angle, place_rule, to_place, place, count_rule, count}
use Rattle.surround_image.proofs.Codecs.{count_in, count-laws}

-- the word w, whose size is s, as an angle of at most m degrees
module _ (m w a s : ℕ) (ea : a ≡ w) (es : s ≡ size_of a) where
  pub angle_in : s ≤ m → a ≡ (angle m).read w
  angle_in h = sym (ap (angle m).read (sym ea) ∙ ruled-same (angle_rule m) 0 a (true-T (le-leb (size_of a) m (omega arith))))

  pub angle-out : m < s → 0 ≡ (angle m).read w
  angle-out h = sym (ap (angle m).read (sym ea) ∙ ruled-other (angle_rule m) 0 a (lt-leb (size_of a) m (omega arith)))

-- a place, of its three words
module _ (l : List ℕ) (i a e f : ℕ) (ea : a ≡ (angle 180).read (get_or l i 0)) (ee : e ≡ (angle 90).read (get_or l (i + 1) 0)) (ef : f ≡ capped 2 (get_or l (i + 2) 0)) where
  abbrev given : ℕ × (ℕ × ℕ)
  given = (a, (e, f))

  read : (w : ℕ × (ℕ × ℕ)) → ruled place_rule (0, (0, 0)) given ≡ w → to_place w ≡ place.dec l i
  unfolding place
  read w q =
      let i2 : i + 2 ≡ i + 1 + 1 = omega arith in
      ap {B = Place} to_place (sym q)
      ∙ ap {B = Place} (λ (p : ℕ × (ℕ × ℕ)). to_place (ruled place_rule (0, (0, 0)) p))
      (λ k. (ea k, (ee k, (ef ∙ ap (λ (n : ℕ). capped 2 (get_or l n 0)) i2) k)))

  pub place-good : place_rule given ≡ true → to_place given ≡ place.dec l i
  place-good h = read given (ruled-same place_rule (0, (0, 0)) given (true-T h))

  pub place_bad : place_rule given ≡ false → blank ≡ place.dec l i
  place_bad h = read (0, (0, 0)) (ruled-other place_rule (0, (0, 0)) given h)

-- the number of channels
module _ (l : List ℕ) (i n : ℕ) (e : n ≡ capped 9 (get_or l i 0)) where
  pub count_none : n ≡ 0 → 1 ≡ count.dec l i
  unfolding count
  count_none z = sym (ap (ruled count_rule 1) (sym e) ∙ ruled-other count_rule 1 n (rw (eq-eqb n 0 z)))

  pub count-some : (n ≡ 0 → ⊥) → n ≡ count.dec l i
  unfolding count
  count-some z = sym (ap (ruled count_rule 1) (sym e) ∙ ruled-same count_rule 1 n (rw (ne_eqb n 0 z) tt))

-- it is from 1 to 8
pub count-bounds : (l : List ℕ) (i n : ℕ) → n ≡ count.dec l i → (1 ≤ n) × (n ≤ 8)
count-bounds l i n e = count_in n (subst count.Ok (sym e) (count-laws.sound l i))
