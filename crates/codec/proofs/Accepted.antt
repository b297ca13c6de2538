-- The three laws of any codec.
use mathlib.Core.Path.{◌≡◌, sym, ap, ◌∙◌}
use mathlib.Core.List.{List}
use Prim.Native.Nat.{ℕ}
use Rattle.codec.specs.Codec.{Codec, CodecLaws}
use Rattle.codec.proofs.Kept.{here-all}

module _ {A : Type 0} {c : Codec A} (q : CodecLaws c) where
  -- the words of a good value are read as that value
  pub dec-enc : (a : A) → c.Ok a → c.dec (c.enc a) 0 ≡ a
  dec-enc a ok = q.back a (c.enc a) 0 ok (here-all (c.enc a))

  -- two good values with the same words are the same
  pub enc_inj : (a b : A) → c.Ok a → c.Ok b → c.enc a ≡ c.enc b → a ≡ b
  enc_inj a b oka okb e = sym (dec-enc a oka) ∙ ap (λ (l : List ℕ). c.dec l 0) e ∙ dec-enc b okb

  -- words are those of a good value exactly where writing what is read gives them again
  pub accepted : (l : List ℕ) → ((a : A) × c.Ok a × (c.enc a ≡ l) → c.enc (c.dec l 0) ≡ l) × (c.enc (c.dec l 0) ≡ l → (a : A) × c.Ok a × (c.enc a ≡ l))
  accepted l = (
    (λ w. ap (λ (m : List ℕ). c.enc (c.dec m 0)) (sym w.2) ∙ ap c.enc (dec-enc w.0 w.1) ∙ w.2),
    λ e. (c.dec l 0, q.sound l 0, e),
  )
