-- The words of a line as they are put, one after the other, and how long a line is at most.
use Rattle.chain.specs.declared.Answer.{Answer}
use Rattle.refusal.specs.declared.Refusal.{Refusal}
use Rattle.std.specs.Prelude.{Result, Ok, Err}
use Rattle.std.proofs.Common.{◌≡◌, ℕ, ◌+◌, ◌≤◌, Bool, true, false, cond, eqb, List, [], ◌∷◌, ◌++◌, length, ap, append_assoc, arith, length-append}
use Rattle.comis.specs.declared.mix_state.MixState.{MixState}
use Rattle.comis.specs.declared.mix_state.MixState.TheVariants.{ReleaseToUnity, DuckToTarget, InterviewPassthrough, DuckToOvervoice}
use Rattle.program.specs.Text.{ascii}
use Rattle.line_text.specs.Line.{decimal, line, state_name, active_name, frame_words, line_of, short_line, put_at}
use Rattle.line_text.proofs.Digits.{decimal-length}
use Rattle.line_text.proofs.Putting.{text, promised, put-end}

-- a state's name between two spaces, and a flag with a space behind it
abbrev pub state_part : MixState → List ℕ
state_part s = ascii " " ++ ascii (state_name s) ++ ascii " "

abbrev pub active_part : Bool → List ℕ
active_part b = ascii (active_name b) ++ ascii " "

regrouped : (p s k b d e : List ℕ) → p ++ s ++ p ++ (k ++ p) ++ (b ++ p) ++ d ++ e ≡ p ++ (s ++ (p ++ (k ++ (p ++ (b ++ (p ++ (d ++ e)))))))
regrouped p s k b d e = simp append_assoc

pub answer-joined : (s : MixState) (k b : Bool) (d : List ℕ)
    → state_part s ++ active_part k ++ active_part b ++ d ++ ascii "\n"
    ≡ ascii " " ++ line (ascii (state_name s) ∷ ascii (active_name k) ∷ ascii (active_name b) ∷ d ∷ [])
answer-joined s k b d = regrouped (ascii " ") (ascii (state_name s)) (ascii (active_name k)) (ascii (active_name b)) d (ascii "\n")

pub refused-joined : (n d : List ℕ) → n ++ ascii " refused " ++ d ++ ascii "\n" ≡ line (n ∷ ascii "refused" ∷ d ∷ [])
refused-joined n d = simp append_assoc

pub short-joined : (d : List ℕ) → ascii "short " ++ d ++ ascii "\n" ≡ line (ascii "short" ∷ d ∷ [])
short-joined d = simp append_assoc

-- ---- the place after a part

pub bytes-end : (t : List ℕ) (at : ℕ) (xs t' : List ℕ) (end : ℕ) → text t' end ≡ put_at t at xs → end ≡ at + length xs
bytes-end t at xs t' end e = put-end (promised t at xs t' end e)

state-length : (s : MixState) → length (ascii (state_name s)) ≤ 9
state-length ReleaseToUnity = omega arith
state-length DuckToTarget = omega arith
state-length InterviewPassthrough = omega arith
state-length DuckToOvervoice = omega arith

active-length : (b : Bool) → length (ascii (active_name b)) ≤ 1
active-length true = omega arith
active-length false = omega arith

pub state-room : (s : MixState) (xs : List ℕ) → xs ≡ state_part s → length xs ≤ 11
state-room s xs e =
    omega (
      arith,
      ap length e,
      length-append (ascii " " ++ ascii (state_name s)) (ascii " "),
      length-append (ascii " ") (ascii (state_name s)),
      state-length s,
    )

pub active-room : (b : Bool) (xs : List ℕ) → xs ≡ active_part b → length xs ≤ 2
active-room b xs e = omega (arith, ap length e, length-append (ascii (active_name b)) (ascii " "), active-length b)

pub decimal-end : (t : List ℕ) (at n : ℕ) (t' : List ℕ) (end : ℕ) → text t' end ≡ put_at t at (decimal n) → end ≤ at + 20
decimal-end t at n t' end e = omega (arith, bytes-end t at (decimal n) t' end e, decimal-length n)

-- ---- a whole line

infixr 50 ◌also◌
-- each word has at most so many bytes
data Within : List (List ℕ) → List ℕ → Type 0 where
  all : Within [] []
  ◌also◌ : {w : List ℕ} {k : ℕ} {ws : List (List ℕ)} {ks : List ℕ} → length w ≤ k → Within ws ks → Within (w ∷ ws) (k ∷ ks)

-- all of them, with a byte behind each
abbrev room : List ℕ → ℕ
room [] = 1
room (k ∷ ks) = k + 1 + room ks

line-within : {ws : List (List ℕ)} {ks : List ℕ} → Within ws ks → length (line ws) ≤ room ks
line-within all = omega arith
line-within {ws = w ∷ []} (h also p) = omega (arith, length-append w (ascii "\n"))
line-within {ws = w ∷ v ∷ ws} (h also p) =
    omega (arith, length-append w (ascii " " ++ line (v ∷ ws)), length-append (ascii " ") (line (v ∷ ws)), line-within p)

pub line-length : (n : ℕ) (o : Result Answer Refusal) → length (line_of n o) ≤ 64
unfolding line_of
line-length n (Ok a) =
    let h : Within (frame_words n (Ok a)) (20 ∷ 9 ∷ 1 ∷ 1 ∷ 20 ∷ []) =
    decimal-length _ also state-length a.status.state also active-length a.key.speech_active also active-length a.bed.speech_active also decimal-length _ also all in
    omega (arith, line-within h)
line-length n (Err r) =
    let refused : length (ascii "refused") ≤ 7 = omega arith in
    let h : Within (frame_words n (Err r)) (20 ∷ 7 ∷ 20 ∷ []) = decimal-length _ also refused also decimal-length _ also all in
    omega (arith, line-within h)

at_most : (b : Bool) (xs : List ℕ) → length (cond b [] xs) ≤ length xs
at_most true xs = omega arith
at_most false xs = omega arith

pub short-length : (n : ℕ) → length (short_line n) ≤ 64
unfolding short_line
short-length n =
    let short : length (ascii "short") ≤ 5 = omega arith in
    let h : Within (ascii "short" ∷ decimal n ∷ []) (5 ∷ 20 ∷ []) = short also decimal-length _ also all in
    omega (arith, at_most (eqb n 0) (line (ascii "short" ∷ decimal n ∷ [])), line-within h)
