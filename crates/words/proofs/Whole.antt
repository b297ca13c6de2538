-- The three runs of words that an answer is laid in.
use mathlib.Core.Path.{◌≡◌, refl, sym, subst, ◌∙◌}
use mathlib.Core.List.{List}
use Prim.Native.Nat.{ℕ}
use lib.ListN.{length}
use Rattle.blocks.specs.Lists.{Laid}
use Rattle.blocks.proofs.Lists.{next, laid-all}
use Rattle.float.specs.declared.Db.{Db}
use Rattle.ratio.specs.declared.RatioStatus.{RatioStatus}
use Rattle.vad.specs.declared.VadState.{VadState}
use Rattle.chain.specs.declared.Answer.{Answer}
use Rattle.words.specs.Words.{status_words, strand_words, answer_words}

status-length : (r : Db) (s : RatioStatus) → length (status_words r s) ≡ 13
unfolding status_words
status-length r s = refl

strand-length : (s : VadState) → length (strand_words s) ≡ 14
unfolding strand_words
strand-length s = refl

pub answer-length : (a : Answer) → length (answer_words a) ≡ 41
unfolding answer_words status_words strand_words
answer-length a = refl

module _ (a : Answer) {l l₁ l₂ l₃ xs ys zs : List ℕ} where
  pub whole : length l ≡ 41 → xs ≡ status_words a.reduction a.status → ys ≡ strand_words a.key → zs ≡ strand_words a.bed
      → Laid l 0 xs l₁ → Laid l₁ 13 ys l₂ → Laid l₂ 27 zs l₃ → l₃ ≡ answer_words a
  unfolding answer_words
  whole n ex ey ez p q r =
      let p' = subst (λ (v : List ℕ). Laid l 0 v l₁) ex p in
      let q' = subst (λ (v : List ℕ). Laid l₁ 13 v l₂) ey q in
      let r' = subst (λ (v : List ℕ). Laid l₂ 27 v l₃) ez r in
      (next p' (status-length _ _) refl (next q' (strand-length _) refl r')).is ∙ laid-all l (answer_words a) (n ∙ sym (answer-length a))
