-- The bytes of an ASCII text. Definitions only.
use Prim.Native.Char.{code}
use Rattle.std.specs.Prelude.{ℕ, List, [] as none, ◌∷◌ as ◌then◌}
use Prim.Native.String.{String, [], ◌∷◌}

abbrev pub ascii : String → List ℕ
ascii [] = none
ascii (c ∷ s) = code c then ascii s
