-- Calls on a lent image: the chain is restored from it, the call runs, and the chain is saved back. Definitions only.
use Rattle.chain.specs.declared.Answer.{Answer}
use Rattle.refusal.specs.declared.Refusal.{Refusal}
use Rattle.std.specs.Prelude.{cond, List, ℕ, eqb, length, Float, Result, Ok, Err}
use Rattle.refusal.specs.declared.Refusal.TheVariants.{WrongLength}
use Rattle.refusal.specs.Table.{number_of, code_of}
use Rattle.layout.specs.declared.Layout.{Layout}
use Rattle.chain.specs.declared.Chain.{Chain}
use Rattle.settings.specs.declared.Settings.{Settings}
use Rattle.chain.specs.Chain.{Framed, Changed, fresh_of, frame_of, unchanged, set_of, reset_of, layout_of}
use Rattle.image.specs.Layout.{image_bytes}
use Rattle.image.specs.Image.{save_verdict, saved_in, restore_of}
use Rattle.words.specs.Words.{answer_words}

-- a number and the lent bytes after a call
pub record Left : Type 0 where
  pub code : ℕ
  pub bytes : List ℕ

-- and the words of the lent answer
pub record Answered : Type 0 where
  pub code : ℕ
  pub bytes : List ℕ
  pub words : List ℕ

-- a fresh chain's image into lent bytes
abbrev pub fresh_in : List ℕ → Left
fresh_in b = record { code = code_of (save_verdict b); bytes = saved_in fresh_of b }

-- the chain whose image is lent: bytes of another length than a saved image's are refused, as a save into them is
unfoldable pub open_of : List ℕ → Changed
open_of b = cond (eqb (length b) image_bytes) (restore_of fresh_of b) (unchanged fresh_of WrongLength)

abbrev pub code_in : List ℕ → ℕ
code_in b = code_of (open_of b).outcome

-- ---- a frame

-- what it leaves of the bytes b and the words a, on a chain
abbrev pub heard_in : List ℕ → List ℕ → Chain → Result Answer Refusal → Answered
heard_in b a c (Ok x) = record { code = 0; bytes = saved_in c b; words = answer_words x }
heard_in b a c (Err r) = record { code = number_of r; bytes = b; words = a }

abbrev pub framed_in : List ℕ → List ℕ → Framed → Answered
framed_in b a f = heard_in b a f.chain f.outcome

-- where the bytes are an image; else 6, 7 or 8
abbrev pub opened_frame : List ℕ → List ℕ → List Float → List Float → Chain → Result Unit Refusal → Answered
opened_frame b a key bed c (Ok _) = framed_in b a (frame_of c key bed)
opened_frame b a key bed c (Err r) = record { code = number_of r; bytes = b; words = a }

unfoldable pub frame_in : List ℕ → List ℕ → List Float → List Float → Answered
frame_in b a key bed = opened_frame b a key bed (open_of b).chain (open_of b).outcome

-- ---- a settings call, a reset and a layout call: what f makes of the chain

abbrev pub saved_as : List ℕ → Chain → Result Unit Refusal → Left
saved_as b c (Ok _) = record { code = 0; bytes = saved_in c b }
saved_as b c (Err r) = record { code = number_of r; bytes = b }

abbrev pub changed_in : List ℕ → Changed → Left
changed_in b r = saved_as b r.chain r.outcome

abbrev pub opened_by : List ℕ → (Chain → Changed) → Chain → Result Unit Refusal → Left
opened_by b f c (Ok _) = changed_in b (f c)
opened_by b f c (Err r) = record { code = number_of r; bytes = b }

unfoldable pub change_in : List ℕ → (Chain → Changed) → Left
change_in b f = opened_by b f (open_of b).chain (open_of b).outcome

abbrev pub set_in : List ℕ → Settings → Left
set_in b s = change_in b (λ c. set_of c s)

abbrev pub reset_in : List ℕ → ℕ → Left
reset_in b n = change_in b (λ c. reset_of c n)

abbrev pub layout_in : List ℕ → Layout → Left
layout_in b l = change_in b (λ c. layout_of c l)

-- ---- a restore: bytes a of either edition, into the lent bytes b

unfoldable pub restore_in : List ℕ → List ℕ → Left
restore_in b a = cond (eqb (length b) image_bytes) (changed_in b (restore_of fresh_of a)) (record { code = number_of WrongLength; bytes = b })
