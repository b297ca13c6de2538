-- A channel in silence whose filters rest: only its fast number and its energy change, and where they rest too, nothing does.
use Prim.Native.Nat.{ℕ, zero, suc, ◌<◌}
use native.Mathlib.Omega.{arith}
use mathlib.Core.Path.{◌≡◌, refl, ap, sym, subst, ◌∙◌}
use mathlib.Core.List.{List, [], ◌∷◌, foldl}
use mathlib.Core.Bool.{Bool, true, ◌&&◌}
use lib.Dec.{T}
use lib.ListN.{length, get_or, replicate}
use lib.Ieee.{Float, nan}
use lib.Ieee.Fits.{and_l, and_r}
use Rattle.biquad.specs.declared.Ticked.{Ticked}
use Rattle.biquad.specs.Sections.{k_shelf, k_high_pass}
use Rattle.biquad.specs.Tick.{tick_of}
use Rattle.level.specs.declared.Weighing.{Weighing}
use Rattle.float.specs.Arithmetic.{◌⊗◌, zero64}
use Rattle.level.specs.Rest.{shelf_output, still_step}
use Rattle.level.specs.Weighing.{clean_of, weighed, step_of, run_of}
use Rattle.channels.specs.declared.Channel.{Channel}
use Rattle.channels.specs.Channels.{begin_of}
use Rattle.channels.specs.Rest.{still_run, Silent}

-- nothing changes
pub still-same : (y2 : Float) (w : Weighing) (n : ℕ) → still_step y2 w ≡ w → w ≡ still_run y2 n w
unfolding still_run
still-same y2 w zero e = refl
still-same y2 w (suc n) e = still-same y2 w n e ∙ ap (still_run y2 n) (sym e)

-- so where the first step shows it
pub still-held : (y2 : Float) (w next : Weighing) (a b : Bool) (n : ℕ) → next ≡ still_step y2 w → a && b ≡ true → (T a → next.fast ≡ w.fast) → (T b → next.energy ≡ w.energy)
    → w ≡ still_run y2 n w
still-held y2 w next a b n e t f g =
    let both : T (a && b) = subst T (sym t) tt in
    let u = ap (λ (x : Weighing). x.fast) (sym e) ∙ f (and_l a b both) in
    let v = ap (λ (x : Weighing). x.energy) (sym e) ∙ g (and_r a b both) in
    still-same y2 w n (λ i. record { shelf = w.shelf; high_pass = w.high_pass; fast = u i; energy = v i })

-- ---- silence

pub silent-each : (xs : List Float) → ((k : ℕ) → k < length xs → clean_of (get_or xs k nan) ≡ zero64) → Silent xs
silent-each [] h = refl
silent-each (x ∷ xs) h =
    let first = h 0 (omega arith) in
    let rest = silent-each xs (λ k l. h (suc k) (omega arith)) in
    λ i. first i ∷ rest i

-- the high-pass's output for a sample 0
abbrev pub output : Weighing → Float
output w = (tick_of w.high_pass k_high_pass (shelf_output w zero64)).y

abbrev Shelf : Weighing → Type 0
Shelf w = (tick_of w.shelf k_shelf zero64).state ≡ w.shelf

abbrev HighPass : Weighing → Type 0
HighPass w = (tick_of w.high_pass k_high_pass (shelf_output w zero64)).state ≡ w.high_pass

still-step : (w : Weighing) → Shelf w → HighPass w → still_step (output w ⊗ output w) w ≡ step_of w zero64
unfolding step_of
still-step w s h = λ i. weighed w (record { state = sym s i; y = shelf_output w zero64 }) (record { state = sym h i; y = output w })

still-all : (n : ℕ) (w : Weighing) → Shelf w → HighPass w → still_run (output w ⊗ output w) n w ≡ foldl step_of w (replicate n zero64)
unfolding still_run
still-all zero w s h = refl
still-all (suc n) w s h =
    still-all n (still_step (output w ⊗ output w) w) s h ∙ ap (λ (u : Weighing). foldl step_of u (replicate n zero64)) (still-step w s h)

pub still-run : (w : Weighing) (xs : List Float) → Shelf w → HighPass w → Silent xs
    → still_run (output w ⊗ output w) (length xs) w ≡ run_of w xs
unfolding run_of
still-run w xs s h e = still-all (length xs) w s h ∙ ap (foldl step_of w) (sym e)

-- as the code finds it
module _ (t : Channel) (xs : List Float) (w : Weighing) (v : Float) (b : Ticked) (r : Weighing) (p q s : Bool) where
  pub rest-run : w ≡ begin_of t → v ≡ shelf_output w zero64 → b ≡ tick_of t.high_pass k_high_pass v → r ≡ still_run (b.y ⊗ b.y) (length xs) w
      → p ≡ true → (T p → (tick_of t.shelf k_shelf zero64).state ≡ t.shelf) → q ≡ true → (T q → (tick_of t.high_pass k_high_pass v).state ≡ t.high_pass)
      → s ≡ true → (T s → Silent xs) → r ≡ run_of (begin_of t) xs
  rest-run ew ev eb er pt sh qt hp st si =
      let out = ev ∙ ap (λ (u : Weighing). shelf_output u zero64) ew in
      let y = ap (λ (u : Ticked). u.y) eb ∙ ap (λ (x : Float). (tick_of t.high_pass k_high_pass x).y) out in
      let stays = subst (λ (x : Float). (tick_of t.high_pass k_high_pass x).state ≡ t.high_pass) out (hp (subst T (sym qt) tt)) in
      er
      ∙ (λ i. still_run (y i ⊗ y i) (length xs) (ew i))
      ∙ still-run (begin_of t) xs (sh (subst T (sym pt) tt)) stays (si (subst T (sym st) tt))
