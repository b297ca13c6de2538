-- What reads bring behind the bytes that are held. Definitions only.
use Rattle.std.specs.Prelude.{ℕ, List, Option}
use Rattle.std.specs.Io.{StartsWith, appended_bytes}
use Rattle.std.specs.Io.KnownBytes.{Consumes}

-- `before` was held and `after` is: `before`, and behind it what came off the front of the bytes that the reader had left, which were `old` and are `new`
-- where they are known
pub record ReadOn (old new : Option (List ℕ)) (before after : List ℕ) : Type 0 where
  pub kept : StartsWith after before
  pub brought : Consumes old new (appended_bytes before after)
