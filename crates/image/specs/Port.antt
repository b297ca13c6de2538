-- A save and a restore as steps of a port, in the demands' words. Definitions only.
use Rattle.refusal.specs.declared.Refusal.{Refusal}
use Rattle.std.specs.Prelude.{cond, List, ℕ, Result, Ok, Err}
use Rattle.refusal.specs.declared.Refusal.TheVariants.{WrongLength}
use Rattle.refusal.specs.Table.{number_of}
use Rattle.demands.specs.Calls.{event, save, restore, Reply, refusal, passed, done, Step, gets, Images, all_calls, Port}
use Rattle.chain.specs.declared.Chain.{Chain}
use Rattle.rules.specs.Rules.{rules}
use Rattle.rules.specs.Rules as events
use Rattle.image.specs.Layout.{image_bytes}
use Rattle.image.specs.Image.{words_of, image, right_length, meaning, refuses_image, save_verdict, saved_in, restore_of}

module _ {Answer : Type 0} where
  -- what a verdict is to the caller
  abbrev pub reply_of : Result Unit Refusal → Reply Answer
  reply_of (Ok _) = passed done
  reply_of (Err r) = refusal (number_of r)

  abbrev pub on_save : Chain → List ℕ → Step Chain Answer
  on_save c b = gets (reply_of (save_verdict b)) (saved_in c b) c

  abbrev pub on_restore : Chain → List ℕ → Step Chain Answer
  on_restore c b = gets (reply_of (restore_of c b).outcome) b (restore_of c b).chain

-- a save's number in the specification's table; 0: it passes
abbrev pub refuses_save : List ℕ → ℕ
refuses_save b = cond (right_length b) 0 (number_of WrongLength)

-- the specification's rules of the images of both editions
abbrev pub images : Images rules
images = record { size = image_bytes; image = image; refuses_image = refuses_image; meaning = meaning; bits = words_of }

-- what all six functions do, as their contracts say it
abbrev pub port : Port rules (all_calls rules images)
port c (event e) = events.port c e
port c (save b) = on_save c b
port c (restore b) = on_restore c b
