-- Laws of the stores and of the loops that write or read a list.
use mathlib.Core.Path.{◌≡◌, refl, sym, ap, ◌∙◌, subst}
use mathlib.Core.List.{List, [], ◌∷◌, map}
use Prim.Native.Nat.{ℕ, suc, ◌+◌, ◌≤◌, ◌<◌}
use native.Mathlib.Nat.{add-zero}
use native.Mathlib.Omega.{arith}
use lib.ListN.{length, get_or, set, take, replicate, length-map, length-set, length-replicate, get_or-replicate}
use Rattle.blocks.specs.Lists.{Laid, table}
use Rattle.blocks.proofs.Lists.{next, stored, turn, finish, get_d_map, length-table, get_d_table}
use Rattle.sequence.proofs.Fill.{fill-turn, fill_end}
use Rattle.codec.specs.Fields.{capped}
use Rattle.codec.specs.Codec.{Cell, value_at}
use Rattle.codec.specs.Forms.{counted}

-- one word
pub put_one : {l l' : List ℕ} {i v : ℕ} (u : ℕ) → l' ≡ set l (i + 0) v → v ≡ u → Laid l i (u ∷ []) l'
put_one {l} {l'} {i} {v} u p e = subst (λ (z : List ℕ). Laid l i (u ∷ []) z) (sym (p ∙ ap (λ (n : ℕ). set l n v) (add-zero i))) (stored e)

-- one word more of the list xs
pub put-turn : {l l₁ l₂ : List ℕ} {i k v : ℕ} (xs : List ℕ) → Laid l i (take k xs) l₁ → k < length xs → v ≡ get_or xs k 0 → l₂ ≡ set l₁ (i + k) v
    → Laid l i (take (k + 1) xs) l₂
put-turn {l} {l₁} {l₂} {i} {k} {v} xs p h e q = subst (λ (z : List ℕ). Laid l i (take (k + 1) xs) z) (sym q) (turn xs p h e)

-- a word, and another behind it
pub both : {l l₁ l₂ : List ℕ} {i u v : ℕ} (b : ℕ) → Laid l i (u ∷ []) l₁ → v ≡ b → l₂ ≡ set l₁ (i + 1) v → Laid l i (u ∷ b ∷ []) l₂
both {l} {l₁} {l₂} {i} {u} {v} b p e q = subst (λ (z : List ℕ). Laid l i (u ∷ b ∷ []) z) (sym q) (next p refl refl (stored e))

-- the words of the first k of the values xs are laid behind place i, where the count stands
pub record Put {A : Type 0} (f : A → ℕ) (xs : List A) (l : List ℕ) (i k : ℕ) (l₁ : List ℕ) : Type 0 where
  pub over : Laid l (i + 1) (take k (map f xs)) l₁

module _ {A : Type 0} {f : A → ℕ} {xs : List A} {l l₁ : List ℕ} {i k : ℕ} (p : Put f xs l i k l₁) where
  pub put_next : {l₂ : List ℕ} {v : ℕ} (d : A) → k < length xs → v ≡ f (get_or xs k d) → l₂ ≡ set l₁ (i + (k + 1)) v → Put f xs l i (k + 1) l₂
  put_next {l₂} {v} d h e q =
      let g : i + (k + 1) ≡ i + 1 + k = omega arith in
      record { over = put-turn (map f xs) p.over (omega (arith, length-map xs f)) (e ∙ sym (get_d_map f xs k d h)) (q ∙ ap (λ (n : ℕ). set l₁ n v) g) }

  pub put_all : {l₀ : List ℕ} {m : ℕ} → Laid l₀ i (m ∷ []) l → length xs ≤ k → Laid l₀ i (m ∷ map f xs) l₁
  put_all c h = next c refl refl (finish {k = k} (map f xs) p.over (omega (arith, length-map xs f)))

-- zeros
pub zeros-turn : {l l₁ l₂ : List ℕ} {i k : ℕ} (n : ℕ) → Laid l i (take k (replicate n 0)) l₁ → k < n → l₂ ≡ set l₁ (i + k) 0 → Laid l i (take (k + 1) (replicate n 0)) l₂
zeros-turn {l} {l₁} {l₂} {i} {k} n p h q = put-turn (replicate n 0) p (omega (arith, length-replicate {A = ℕ} n 0)) (sym (get_or-replicate n k 0 0 h)) q

pub zeros-end : {l l₁ : List ℕ} {i k : ℕ} (n : ℕ) → Laid l i (take k (replicate n 0)) l₁ → n ≤ k → Laid l i (replicate n 0) l₁
zeros-end {l} {l₁} {i} {k} n p h = finish {k = k} (replicate n 0) p (omega (arith, length-replicate {A = ℕ} n 0))

-- the first k places of v are read: of the m numbers behind place i, and blanks past them
pub record Got {A : Type 0} (c : Cell A) (l : List ℕ) (i m : ℕ) (v₀ v : List A) (k : ℕ) : Type 0 where
  pub size : length v ≡ length v₀
  pub is : take k v ≡ take k (table (value_at c l (i + 1) m) (length v₀))

module _ {A : Type 0} (c : Cell A) (l : List ℕ) (i m : ℕ) (v₀ : List A) where
  pub got-turn : {v : List A} {k : ℕ} (x : A) → Got c l i m v₀ v k → k < length v → x ≡ value_at c l (i + 1) m k → Got c l i m v₀ (set v k x) (k + 1)
  got-turn {v} {k} x g h e =
      let f = value_at c l (i + 1) m in
      let n = length v₀ in
      let kn : k < n = omega (arith, g.size) in
      record {
        size = length-set v k x ∙ g.size;
        is = fill-turn c.blank v (table f n) x k g.is (e ∙ sym (get_d_table f n k c.blank kn)) h (omega (arith, length-table f n));
      }

  -- the list that is read, where m is its count
  pub got-all : {v : List A} {k : ℕ} → m ≡ capped (suc (length v₀)) (get_or l i 0) → Got c l i m v₀ v k → length v ≤ k
      → ◌≡◌ {A = ℕ × List A} (m, v) ((counted c (length v₀)).dec l i)
  got-all {v} {k} e g h =
      let n = length v₀ in
      let t = table (value_at c l (i + 1) m) n in
      ap (λ (z : List A). (m, z)) (fill_end v t k g.is h (omega (arith, g.size, length-table (value_at c l (i + 1) m) n)))
      ∙ ap (λ (z : ℕ). (z, table (value_at c l (i + 1) z) n)) e
