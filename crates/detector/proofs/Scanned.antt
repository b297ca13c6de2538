-- The laws of a scan over lags, and of the energies that a window shares.
use Rattle.std.proofs.Common.{◌≡◌, ℕ, suc, ◌+◌, ◌<◌, ◌≤◌, Bool, true, false, List, length, take, drop, sym, ap, ◌∙◌, ap₂, arith, length-drop, length-take, take_all, take-add, le-ltb, lt-ltb, refl}
use Rattle.std.proofs.lemmas.List.Sums.{fold-append}
use Rattle.std.specs.List.{fold}
use lib.Ieee.{Float}
use Rattle.float.specs.Arithmetic.{zero64}
use Rattle.sequence.specs.History.{held, latest}
use Rattle.sequence.proofs.Deque.{latest-all}
use Rattle.detector.specs.declared.voicing.Ends.{Ends}
use Rattle.detector.specs.declared.voicing.Voicing.{Voicing}
use Rattle.detector.specs.Voicing.{squared, energy_from, energy_of, lag_of, lags_of, uneven_of, silent, ends_of, start_of, window_of, voicing_of}

-- one lag is done, n are left
pub lags-turn : (x : List Float) (e next : Ends) (m n lag : ℕ) → next ≡ lag_of x e lag → m ≡ suc n → lags_of x n (lag + 1) next ≡ lags_of x m lag e
unfolding lags_of
lags-turn x e next m n lag p q = rw (p, q)

pub lags-end : (x : List Float) (e : Ends) (n lag : ℕ) → n ≡ 0 → e ≡ lags_of x n lag e
unfolding lags_of
lags-end x e n lag p = rw p

-- the energy of the first m values, and from it that of k more
pub energy-more : (s : Float) (x : List Float) (m k : ℕ) → energy_from (energy_from s (take m x)) (take k (drop m x)) ≡ energy_from s (take (m + k) x)
unfolding energy_from
energy-more s x m k =
    sym (fold-append squared s (take m x) (take k (drop m x))) ∙ ap (fold squared s) (sym (take-add m k x))

-- a full window holds all places
pub full-window : (count : ℕ) (places : List Float) → length places ≡ 240 → 240 ≤ count → latest 240 (held count places) ≡ places
full-window count places e h = latest-all 240 (held count places) (simp length-take (omega arith)) ∙ take_all count places (omega arith)

module _ (x : List Float) (size : length x ≡ 240) (first second : Float) (b : Bool)
    (one : first ≡ energy_from zero64 (take 120 x)) (two : second ≡ energy_from zero64 (take 120 (drop 120 x))) (u : b ≡ uneven_of first second) where
  rest : (n k : ℕ) → n + k ≡ 240 → take n (drop k x) ≡ drop k x
  rest n k e = take_all n (drop k x) (simp length-drop (omega arith))

  halves : uneven_of (energy_of (take 120 x)) (energy_of (drop 120 x)) ≡ b
  halves = ap₂ uneven_of (sym one) (ap energy_of (sym (rest 120 120 refl)) ∙ sym two) ∙ sym u

  pub window-uneven : b ≡ true → silent ≡ window_of x
  unfolding window_of
  window-uneven t = rw (halves, t)

  pub window-even : (head tail : Float) (e : Ends) → b ≡ false → head ≡ energy_from first (take 105 (drop 120 x))
      → tail ≡ energy_from zero64 (take 225 (drop 15 x))
      → e ≡ lags_of x 61 15 (record { head = head; tail = tail; best = zero64; worst = zero64; finite = true })
      → ends_of e ≡ window_of x
  unfolding window_of start_of
  window-even head tail e t h l p =
      let he : head ≡ energy_of (take 225 x) = h ∙ ap (λ (s : Float). energy_from s (take 105 (drop 120 x))) one ∙ energy-more zero64 x 120 105 in
      let ta : tail ≡ energy_of (drop 15 x) = l ∙ ap energy_of (rest 225 15 refl) in
      rw (halves, t)
      (ap ends_of (p ∙ ap₂ (λ (y z : Float). lags_of x 61 15 (record { head = y; tail = z; best = zero64; worst = zero64; finite = true })) he ta))

pub window-short : (count : ℕ) (places : List Float) → count < 240 → silent ≡ voicing_of (held count places)
unfolding voicing_of
window-short count places h = rw (lt-ltb (length (held count places)) 240 (simp length-take (omega arith)))

pub window-full : (count : ℕ) (places x : List Float) → length places ≡ 240 → 240 ≤ count → x ≡ places → (v : Voicing) → v ≡ window_of x
    → v ≡ voicing_of (held count places)
unfolding voicing_of
window-full count places x l h e v p =
    let full : 240 ≤ length (held count places) = simp length-take (omega arith) in
    rw (le-ltb (length (held count places)) 240 full) (p ∙ ap window_of (e ∙ sym (full-window count places l h)))
