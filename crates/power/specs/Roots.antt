-- The 24 roots that a power is made of, and their rule. Definitions only.
use Rattle.std.specs.Prelude.{ℕ, ◌+◌, ◌*◌, ◌^◌, Bool, true, ◌&&◌, List, [], ◌∷◌, leb, ltb}

-- x = floor (root of r * 2 ^ 30)
abbrev pub is_root : ℕ → ℕ → Bool
is_root r x = leb (x * x) (r * 2 ^ 30) && ltb (r * 2 ^ 30) ((x + 1) * (x + 1))

-- each entry is the root of the one before it, and the first is the root of r
abbrev pub chain : ℕ → List ℕ → Bool
chain r [] = true
chain r (x ∷ xs) = is_root r x && chain x xs

-- r1 to r24: 2 ^ (1 / 2), 2 ^ (1 / 4), .. 2 ^ (1 / 2 ^ 24), in units of 2 ^ -30. `roots_rule` shows that they are a chain from r0 = 2 ^ 31.
unfoldable pub roots : List ℕ
roots = 1518500249 ∷ 1276901416 ∷ 1170923761 ∷ 1121280435 ∷ 1097253707 ∷ 1085434105 ∷ 1079572135 ∷ 1076653032 ∷ 1075196442 ∷ 1074468886 ∷ 1074105293 ∷ 1073923543 ∷ 1073832679 ∷ 1073787250 ∷ 1073764536 ∷ 1073753179 ∷ 1073747501 ∷ 1073744662 ∷ 1073743242 ∷ 1073742532 ∷ 1073742177 ∷ 1073742000 ∷ 1073741911 ∷ 1073741867 ∷ []
