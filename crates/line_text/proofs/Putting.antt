-- Bytes put into a lent text, one run behind another.
use Rattle.std.proofs.Common.{◌≡◌, ℕ, ◌+◌, ◌-◌, min, List, ◌++◌, length, take, take_all, sym, ap, ◌∙◌, add_assoc, arith, length-append, length-take-le}
use native.Mathlib.Decide.{dec_le}
use borrow.Rule.Slice.PartMut.{put_mid}
use Rattle.blocks.specs.Lists.{laid, Laid}
use Rattle.blocks.proofs.Lists.{laid_append, laid-cut, laid-past, laid-part}
use Rattle.line_text.specs.Line.{Text, put_at}

-- a text, and the place after what was put into it
abbrev pub text : List ℕ → ℕ → Text
text t end = record { bytes = t; end = end }

-- t' is the text t with xs put at a place, and `end` the place after them
pub record Put (t : List ℕ) (at : ℕ) (xs t' : List ℕ) (end : ℕ) : Type 0 where
  pub is : text t' end ≡ put_at t at xs

-- n bytes have a place from s on, which is `at` or the end
pub laid_there : (t xs : List ℕ) (at s n : ℕ) → s ≡ min at (length t) → n ≡ min (length xs) (length t - s) → put_mid s n t (take n xs) ≡ laid t at xs
laid_there t xs at s n e f =
    laid-part t (take n xs) s n (omega arith) (length-take-le n xs (omega arith))
    ∙ elim (dec_le at (length t)) [
      | yes g ↦ let k : s ≡ at = omega arith in ap (λ (i : ℕ). laid t i (take n xs)) k ∙ placed
      | no g ↦ laid-past t s (take n xs) (omega arith) ∙ sym (laid-past t at xs (omega arith))
    ]
  where
    placed : laid t at (take n xs) ≡ laid t at xs
    placed = elim (dec_le (length xs) n) [
      | yes g ↦ ap (laid t at) (take_all n xs g)
      | no g ↦ laid-cut t at n xs (omega arith)
    ]

-- what a callee promises
pub promised : (t : List ℕ) (at : ℕ) (xs t' : List ℕ) (end : ℕ) → text t' end ≡ put_at t at xs → Put t at xs t' end
promised t at xs t' end e = record { is = e }

pub put-laid : {t t' xs : List ℕ} {at end : ℕ} → Laid t at xs t' → end ≡ at + length xs → Put t at xs t' end
put-laid p e = record { is = λ i. text (p.is i) (e i) }

pub put-end : {t t' xs : List ℕ} {at end : ℕ} → Put t at xs t' end → end ≡ at + length xs
put-end p = λ i. (p.is i).end

-- the same bytes, written otherwise
pub put_as : {t t' xs ys : List ℕ} {at end : ℕ} → xs ≡ ys → Put t at xs t' end → Put t at ys t' end
put_as {t} {t'} {xs} {ys} {at} {end} e p = record { is = p.is ∙ ap (put_at t at) e }

-- one run, and another behind it
pub put_then : {t t₁ t₂ xs ys : List ℕ} {at middle end : ℕ} → Put t at xs t₁ middle → Put t₁ middle ys t₂ end → Put t at (xs ++ ys) t₂ end
put_then {t} {t₁} {t₂} {xs} {ys} {at} {middle} {end} p q = record {
  is = q.is
      ∙ (λ i. put_at (p.is i).bytes (p.is i).end ys)
      ∙ (λ i. text (sym (laid_append xs ys t at) i) ((add_assoc at (length xs) (length ys) ∙ ap (λ (n : ℕ). at + n) (sym (length-append xs ys))) i));
}
