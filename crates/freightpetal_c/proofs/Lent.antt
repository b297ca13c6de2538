-- What the calls on a lent image leave, by the cases of their outcomes.
use Rattle.std.specs.Prelude.{Ok, Err}
use mathlib.Core.Path.{◌≡◌, sym, ap, ◌∙◌}
use mathlib.Core.List.{List}
use Prim.Native.Nat.{ℕ}
use lib.Ieee.{Float}
use Rattle.refusal.specs.declared.Refusal.{Refusal}
use Rattle.refusal.specs.Table.{number_of}
use Rattle.chain.specs.declared.Answer.{Answer}
use Rattle.chain.specs.declared.Chain.{Chain}
use Rattle.chain.specs.Chain.{Framed, Changed, frame_of}
use Rattle.image.specs.Image.{saved_in}
use Rattle.words.specs.Words.{answer_words}
use Rattle.freightpetal_c.specs.Lent.{Left, Answered, open_of, heard_in, framed_in, opened_frame, frame_in, changed_in, opened_by, change_in}

-- ---- after the call

pub framed-passed : (b a : List ℕ) (f : Framed) {b' w : List ℕ} {x : Answer} → f.outcome ≡ Ok x → b' ≡ saved_in f.chain b → w ≡ answer_words x
    → record { code = 0; bytes = b'; words = w } ≡ framed_in b a f
framed-passed b a f o p q = (λ i. record { code = 0; bytes = p i; words = q i }) ∙ ap (heard_in b a f.chain) (sym o)

pub framed-refused : (b a : List ℕ) (f : Framed) {k : ℕ} {r : Refusal} → f.outcome ≡ Err r → k ≡ number_of r
    → record { code = k; bytes = b; words = a } ≡ framed_in b a f
framed-refused b a f o e = (λ i. record { code = e i; bytes = b; words = a }) ∙ ap (heard_in b a f.chain) (sym o)

-- ---- before it: the lent bytes are opened

module _ (b : List ℕ) {o : Changed} (p : o ≡ open_of b) where
  module _ (a : List ℕ) (key bed : List Float) where
    opened : opened_frame b a key bed o.chain o.outcome ≡ frame_in b a key bed
    unfolding frame_in
    opened = ap (λ (r : Changed). opened_frame b a key bed r.chain r.outcome) p

    pub frame_ok : {x : Unit} {f : Framed} {l : Answered} → o.outcome ≡ Ok x → f ≡ frame_of o.chain key bed → l ≡ framed_in b a f → l ≡ frame_in b a key bed
    frame_ok e g h = h ∙ ap (framed_in b a) g ∙ ap (opened_frame b a key bed o.chain) (sym e) ∙ opened

    pub frame_err : {r : Refusal} → o.outcome ≡ Err r → record { code = number_of r; bytes = b; words = a } ≡ frame_in b a key bed
    frame_err e = ap (opened_frame b a key bed o.chain) (sym e) ∙ opened

  module _ (f : Chain → Changed) where
    changed_by : opened_by b f o.chain o.outcome ≡ change_in b f
    unfolding change_in
    changed_by = ap (λ (r : Changed). opened_by b f r.chain r.outcome) p

    pub change_ok : {x : Unit} {r : Changed} {l : Left} → o.outcome ≡ Ok x → r ≡ f o.chain → l ≡ changed_in b r → l ≡ change_in b f
    change_ok e g h = h ∙ ap (changed_in b) g ∙ ap (opened_by b f o.chain) (sym e) ∙ changed_by

    pub change_err : {r : Refusal} → o.outcome ≡ Err r → record { code = number_of r; bytes = b } ≡ change_in b f
    change_err e = ap (opened_by b f o.chain) (sym e) ∙ changed_by
