-- What a program's arguments ask for. Definitions only.
use Rattle.std.specs.Prelude.{Bool, cond, ◌||◌, List, ℕ, ltb, bytes_eq}
use Rattle.program.specs.Text.{ascii}
use Rattle.program.specs.declared.arguments.Request.{Request}
use Rattle.program.specs.declared.arguments.Request.TheVariants.{Run, Help, Option, OptionAlone, OptionAndMore, Unknown}

-- a word that asks for help
abbrev pub helps : List ℕ → Bool
helps w = bytes_eq w (ascii "--help") || bytes_eq w (ascii "-h")

-- the program's option is the first of `count` words, the program's own name among them: it takes one word more
unfoldable pub option_of : ℕ → Request
option_of count = cond (ltb count 3) OptionAlone (cond (ltb count 4) Option OptionAndMore)

-- `count` words, of which `first` is the one behind the program's name: its work where there is none, help where it asks for that, and what follows
-- it where it is `name`, the program's option
unfoldable pub request_of : ℕ → List ℕ → List ℕ → Request
request_of count first name = cond (ltb count 2) Run (cond (helps first) Help (cond (bytes_eq first name) (option_of count) Unknown))
