-- What duckline writes: the line of a frame, and that of leftover bytes. Definitions only.
use Rattle.refusal.specs.declared.Refusal.{Refusal}
use Rattle.std.specs.Prelude.{ℕ, zero, suc, ◌+◌, ◌/◌, ◌%◌, Bool, true, false, cond, List, [] as none, ◌∷◌ as ◌then◌, ◌++◌, length, ◌==◌, nat_lt, Float, Result, Ok, Err}
use Prim.Native.String.{String}
use Rattle.std.specs.Float.{binary64}
use Rattle.std.specs.Float.Ieee.{to_unsigned}
use Rattle.float.specs.Arithmetic.{◌⊗◌, hundred64}
use Rattle.float.specs.Whole.{round_of}
use Rattle.program.specs.Text.{ascii}
use Rattle.refusal.specs.Table.{number_of}
use Rattle.blocks.specs.Lists.{laid}
use Rattle.comis.specs.declared.mix_state.MixState.{MixState}
use Rattle.comis.specs.declared.mix_state.MixState.TheVariants.{ReleaseToUnity, DuckToTarget, InterviewPassthrough, DuckToOvervoice}
use Rattle.chain.specs.declared.Answer.{Answer}

-- bytes of the text of 16 lines, at most 64 each
abbrev pub text_bytes : ℕ
text_bytes = 1024

-- ---- text

-- a number's decimal digits without zeros in front; k is at least how many there are
unfoldable pub digits_within : ℕ → ℕ → List ℕ
digits_within zero n = none
digits_within (suc k) n = let last = (48 + n % 10) then none in cond (nat_lt n 10) last (digits_within k (n / 10) ++ last)

-- 20 digits hold every number below 2^64
unfoldable pub decimal : ℕ → List ℕ
decimal n = digits_within 20 n

-- words with a space between them and a line end behind the last
abbrev pub line : List (List ℕ) → List ℕ
line none = ascii "\n"
line (w then none) = w ++ ascii "\n"
line (w then v then ws) = w ++ (ascii " " ++ line (v then ws))

-- ---- a frame

abbrev pub state_name : MixState → String
state_name ReleaseToUnity = "release"
state_name DuckToTarget = "duck"
state_name InterviewPassthrough = "interview"
state_name DuckToOvervoice = "overvoice"

abbrev pub active_name : Bool → String
active_name true = "1"
active_name false = "0"

-- a reduction, dB, in hundredths of a dB: a hundred times it, to the nearest whole number; as Rust's cast has it, 0 where that is below 0
unfoldable pub hundredths_of : Float → ℕ
hundredths_of x = to_unsigned 64 (round_of binary64 (x ⊗ hundred64))

-- the words of an answer: the state, whether the key and the bed speak, and the rounded reduction
abbrev pub answer_words : Answer → List (List ℕ)
answer_words a =
    ascii (state_name a.status.state)
    then ascii (active_name a.key.speech_active)
    then ascii (active_name a.bed.speech_active)
    then decimal (hundredths_of a.status.reduction_db.0)
    then none

-- the words of frame n: its number, and its answer or why it was refused
abbrev pub frame_words : ℕ → Result Answer Refusal → List (List ℕ)
frame_words n (Ok a) = decimal n then answer_words a
frame_words n (Err r) = decimal n then ascii "refused" then decimal (number_of r) then none

unfoldable pub line_of : ℕ → Result Answer Refusal → List ℕ
line_of n o = line (frame_words n o)

-- the line of bytes that are left over, if there are any
unfoldable pub short_line : ℕ → List ℕ
short_line n = cond (n == 0) none (line (ascii "short" then decimal n then none))

-- ---- a lent text

-- a text, and the place after what was put into it
pub record Text : Type 0 where
  pub bytes : List ℕ
  pub end : ℕ

-- a lent text with some bytes put at a place
abbrev pub put_at : List ℕ → ℕ → List ℕ → Text
put_at t at xs = record { bytes = laid t at xs; end = at + length xs }
