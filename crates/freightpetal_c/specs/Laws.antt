-- What the calls on a lent image come to: from any lent bytes on, over every list of frames, settings calls, resets, layout calls, saves
-- and restores.
use Rattle.std.specs.Prelude.{◌≡◌, cond, List, [], ℕ, eqb, Float, length}
use Rattle.refusal.specs.declared.Refusal.TheVariants.{WrongLength}
use Rattle.refusal.specs.Table.{number_of}
use Rattle.demands.specs.Calls.{Log, empty, ◌▹◌, Call, event, save, restore, Reply, refusal, passed, answer, done, Step, all_calls}
use Rattle.demands.specs.Demands.{from}
use Rattle.chain.specs.declared.Chain.{Chain}
use Rattle.chain.specs.Chain.{fresh_of}
use Rattle.rules.specs.Rules.{Event, frame, settings, reset, layout, Answered, shown, noted, rules}
use Rattle.chain.specs.Valid.{Valid}
use Rattle.image.specs.Layout.{image_bytes}
use Rattle.image.specs.Image.{image}
use Rattle.image.specs.Port.{images, port}
use Rattle.words.specs.Words.{answer_words}
use Rattle.freightpetal_c.specs.Lent as lent
use Rattle.freightpetal_c.specs.Lent.{Left, fresh_in, code_in, frame_in, set_in, reset_in, layout_in, restore_in}

-- ---- a caller's calls on lent bytes

-- the number that an event gets, and the lent bytes after it
abbrev pub left_by : List ℕ → Event → Left
left_by b (frame key bed) = record { code = (frame_in b [] key bed).code; bytes = (frame_in b [] key bed).bytes }
left_by b (settings a) = set_in b a.values
left_by b (reset n) = reset_in b n
left_by b (layout l) = layout_in b l

-- what a caller has of any call: its number, the bytes that it lends beside the image as they are after it, and the image's bytes after it
pub record Done : Type 0 where
  pub code : ℕ
  pub beside : List ℕ
  pub bytes : List ℕ

-- a save copies the lent bytes away, into a buffer of their length; a restore is `freightpetal_restore`
abbrev pub done_by : List ℕ → Call Event → Done
done_by b (event e) = record { code = (left_by b e).code; beside = []; bytes = (left_by b e).bytes }
done_by b (save l) =
    record { code = cond (eqb (length l) (length b)) 0 (number_of WrongLength); beside = cond (eqb (length l) (length b)) b l; bytes = b }
done_by b (restore a) = record { code = (restore_in b a).code; beside = a; bytes = (restore_in b a).bytes }

-- the lent bytes after a list of calls
unfoldable pub lent_from : List ℕ → Log (Call Event) → List ℕ
lent_from b empty = b
lent_from b (cs ▹ c) = (done_by (lent_from b cs) c).bytes

-- ---- the same of the demands' port, which has the chain itself

abbrev pub number_in : Reply Answered → ℕ
number_in (refusal n) = n
number_in (passed g) = 0

abbrev pub done_in : Step Chain Answered → Done
done_in s = record { code = number_in s.seen.reply; beside = s.seen.lent; bytes = image s.state }

-- the lent words after a frame: the answer's where it passed, else as they were
abbrev pub words_after : List ℕ → Reply Answered → List ℕ
words_after a (refusal n) = a
words_after a (passed (answer (shown x))) = answer_words x
words_after a (passed (answer noted)) = a
words_after a (passed done) = a

abbrev pub frame_done : List ℕ → Step Chain Answered → lent.Answered
frame_done a s = record { code = number_in s.seen.reply; bytes = image s.state; words = words_after a s.seen.reply }

abbrev pub chain_from : Chain → Log (Call Event) → Chain
chain_from c cs = from rules (all_calls rules images) port c cs

pub record LentLaws : Type 0 where
  -- a fresh image is a fresh chain's
  pub fresh : (b : List ℕ) → length b ≡ image_bytes → fresh_in b ≡ record { code = 0; bytes = image fresh_of }
  -- lent bytes that are no image get their refusal from every call, and nothing that is lent changes
  pub refused : (b : List ℕ) (e : Event) → (code_in b ≡ 0 → ⊥) → left_by b e ≡ record { code = code_in b; bytes = b }
  pub refused_frame : (b a : List ℕ) (key bed : List Float) → (code_in b ≡ 0 → ⊥) → frame_in b a key bed ≡ record { code = code_in b; bytes = b; words = a }
  -- all others mean a chain: they are its image
  pub means : (b : List ℕ) → code_in b ≡ 0 → (c : Chain) × Valid c × (image c ≡ b)
  -- from there on, after any list of calls, the lent bytes are the image of the chain that the demands' port has after it,
  pub bytes : (c : Chain) → Valid c → (cs : Log (Call Event)) → lent_from (image c) cs ≡ image (chain_from c cs)
  -- which is accepted, so that a copy of it can be put back at any time;
  pub accepted : (c : Chain) → Valid c → (cs : Log (Call Event)) → code_in (lent_from (image c) cs) ≡ 0
  -- the next call does what the port's does,
  pub calls : (c : Chain) → Valid c → (cs : Log (Call Event)) (d : Call Event) → done_by (lent_from (image c) cs) d ≡ done_in (port (chain_from c cs) d)
  -- and so does a frame, whatever words are lent for its answer
  pub frames : (c : Chain) → Valid c → (cs : Log (Call Event)) (key bed : List Float) (a : List ℕ)
      → frame_in (lent_from (image c) cs) a key bed ≡ frame_done a (port (chain_from c cs) (event (frame key bed)))
