-- What is left behind some frames is moved to the start of the buffer.
use Rattle.std.proofs.Common.{◌≡◌, ℕ, ◌+◌, ◌-◌, ◌<◌, ◌≤◌, min, List, ◌++◌, length, take, drop, get_or, sym, ap, ◌∙◌, arith, length-take, length-drop, length-take-le, take_all}
use native.Mathlib.Nat.{add_comm}
use native.Mathlib.Decide.{dec_le}
use lib.Seq.{paste, sets, sets-eq, paste-zero, get_or-take, get_or-drop}
use Rattle.blocks.specs.Lists.{laid}

-- byte k of what is left, where only the first k were written over
pub kept_byte : (b before : List ℕ) (k first left : ℕ) → drop k b ≡ drop k before → k < left
    → get_or b (first + k) 0 ≡ get_or (take left (drop first before)) k 0
kept_byte b before k first left e h =
    ap (λ (n : ℕ). get_or b n 0) (add_comm first k)
    ∙ sym (get_or-drop k b first 0)
    ∙ ap (λ (l : List ℕ). get_or l first 0) e
    ∙ get_or-drop k before first 0
    ∙ ap (λ (n : ℕ). get_or before n 0) (add_comm k first)
    ∙ sym (get_or-take left (drop first before) k 0 h ∙ get_or-drop first before k 0)

pub kept-length : (b : List ℕ) (first left : ℕ) → length (take left (drop first b)) ≡ min left (length b - first)
kept-length b first left = length-take left (drop first b) ∙ ap (min left) (length-drop first b)

-- the first h bytes are held, of which the buffer has those before `there`
module _ (b : List ℕ) (first h there : ℕ) (e : there ≡ min h (length b)) where
  same-part : take (h - first) (drop first b) ≡ take (there - first) (drop first b)
  same-part = elim (dec_le h (length b)) [
    | yes g ↦ let k : there ≡ h = omega arith in ap (λ (n : ℕ). take (n - first) (drop first b)) (sym k)
    | no g ↦
        take_all (h - first) (drop first b) (omega (arith, length-drop first b))
        ∙ sym (take_all (there - first) (drop first b) (omega (arith, length-drop first b)))
  ]

  pub kept_bytes : paste b 0 (drop first b) (there - first) ≡ laid b 0 (take (h - first) (drop first b))
  unfolding laid
  kept_bytes =
      let k = there - first in
      let part = take k (drop first b) in
      let n : length part ≡ k = length-take-le k (drop first b) (omega (arith, length-drop first b)) in
      sym
      (ap (sets b 0) same-part
      ∙ sets-eq part b 0 (omega (arith, n))
      ∙ ap (λ (m : ℕ). take 0 b ++ part ++ drop (0 + m) b) n)

  pub kept_none : there ≤ first → b ≡ laid b 0 (take (h - first) (drop first b))
  kept_none g = let k : there - first ≡ 0 = omega arith in paste-zero b 0 (drop first b) ∙ ap (paste b 0 (drop first b)) (sym k) ∙ kept_bytes
