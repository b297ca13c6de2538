-- How one value is written as a word and read back. What breaks a rule is read as some good value. Definitions only.
use Rattle.std.specs.Prelude.{Bool, cond, ◌&&◌, ℕ, ◌*◌, ◌%◌, ltb, Float}
use Rattle.std.specs.Float.{Format}
use Rattle.std.specs.Float.Ieee.{hid, ones, top, of_bits}

-- the bits of an infinity below the sign: those of every finite number are below them
abbrev pub infinite : Format → ℕ
infinite f = ones f * hid f

-- +0
abbrev pub zero_of : Format → Float
zero_of f = of_bits f 0

-- the finite number that a word stands for by its bits; a word that stands for none counts as +0
unfoldable pub num_of : Format → ℕ → Float
num_of f w = cond (ltb (w % top f) (infinite f) && ltb w (2 * top f)) (of_bits f w) (zero_of f)

-- a number below n; any other counts as 0
unfoldable pub capped : ℕ → ℕ → ℕ
capped n w = cond (ltb w n) w 0

abbrev pub flag_bits : Bool → ℕ
flag_bits b = cond b 1 0

-- a, where it meets the rule p, and d where it doesn't
unfoldable pub ruled : {A : Type 0} → (A → Bool) → A → A → A
ruled p d a = cond (p a) a d
