-- The channels in whatever order they are run: one more that is right, and all that were to be run.
use Prim.Native.Nat.{ℕ, ◌*◌, ◌≤◌, ◌<◌, min}
use native.Mathlib.Omega.{arith}
use mathlib.Core.Bool.{Bool, true, false}
use mathlib.Core.Path.{◌≡◌, refl, ap, sym, subst, ◌∙◌}
use mathlib.Core.List.{List}
use lib.Dec.{T, eqb}
use lib.ListN.{length, take, drop, get_or, set, replicate, length-take, length-drop, length-set}
use lib.Seq.{get_or-take, get_or-set_same, get_or-set_other, ext_get_or}
use lib.Ieee.{Float}
use borrow.Author.Tests.{eqb-true, eqb-false}
use Rattle.sequence.proofs.Filled.{all-blank}
use Rattle.float.specs.AllFinite.{all_finite}
use Rattle.level.specs.declared.Weighing.{Weighing}
use Rattle.level.proofs.Finite.{all_take, all_drop}
use Rattle.layout.specs.Layout.{most}
use Rattle.channels.specs.declared.Channel.{Channel}
use Rattle.channels.specs.declared.run.Four.{Four}
use Rattle.std.proofs.Common.{Option, Some, None}
use Rattle.pairs.specs.declared.Pair.{Pair}
use Rattle.pairs.specs.declared.WeighedPairs.{WeighedPairs}
use Rattle.channels.specs.Runs.{past_weighing, weighing_of, put_four, Below, Right, Complete}
use Rattle.channels.specs.Channels.{samples_of, parts, weighings_of}
use Rattle.channels.specs.Fours.{Whole, four_of}
use Rattle.channels.proofs.Weighings.{parts-length, weighings-length, weighings-at}

-- ---- all that were to be run

pub complete_all : (cs : List Channel) (n : ℕ) (xs : List Float) (ws : List Weighing) → length cs ≡ most → Complete cs xs (min n most) ws → take n ws ≡ weighings_of cs n xs
complete_all cs n xs ws e c =
    let size : length (weighings_of cs n xs) ≡ min n most = weighings-length cs (parts n xs) ∙ omega (arith, e, parts-length n xs) in
    let taken : length (take n ws) ≡ min n most = length-take n ws ∙ omega (arith, c.places) in
    ext_get_or past_weighing (take n ws) (weighings_of cs n xs) (taken ∙ sym size)
    (λ i h. get_or-take n ws i past_weighing (omega (arith, taken)) ∙ c.each i (omega (arith, taken)) ∙ sym (weighings-at cs xs n i (omega (arith, taken)) (omega (arith, taken, e))))

-- where a slice has the samples of m channels, each of them has its 480, all finite where those of the slice are
pub whole-samples : (xs ys : List Float) (c m : ℕ) → ys ≡ samples_of c xs → c < m → m * 480 ≤ length xs → T (all_finite xs) → Whole ys
whole-samples xs ys c m e l h t = record {
  samples = ap (λ (r : List Float). length r) e ∙ length-take 480 (drop (c * 480) xs) ∙ omega (arith, length-drop (c * 480) xs, l, h);
  finite = subst (λ (r : List Float). T (all_finite r)) (sym e) (all_take 480 (drop (c * 480) xs) (all_drop (c * 480) xs t));
}

-- ---- what has been run is right

module _ (cs : List Channel) (xs : List Float) where
  pub right-none : Right cs xs (replicate most None)
  right-none = record {
    places = refl;
    right = λ c w h. absurd (none c w (sym (all-blank None most c) ∙ h));
  }
    where
      none : ℕ → (w : Weighing) → ◌≡◌ {A = Option Weighing} None (Some w) → ⊥
      none c w e = cc

  -- one more
  pub put_right : (r : List (Option Weighing)) → Right cs xs r → (c : ℕ) (w : Weighing) → c < most → w ≡ weighing_of cs xs c → Right cs xs (set r c (Some w))
  put_right r ok c w h e = record {
    places = length-set r c (Some w) ∙ ok.places;
    right = λ k v t. go k v t (eqb k c) refl;
  }
    where
      go : (k : ℕ) (v : Weighing) → get_or (set r c (Some w)) k None ≡ Some v → (b : Bool) → eqb k c ≡ b → v ≡ weighing_of cs xs k
      go k v t true q =
          let s = eqb-true k c q in
          let here : get_or (set r c (Some w)) c None ≡ Some w = get_or-set_same r c (Some w) None (omega (arith, ok.places)) in
          let there : get_or (set r c (Some w)) c None ≡ Some v = ap (λ (i : ℕ). get_or (set r c (Some w)) i None) (sym s) ∙ t in
          let same : v ≡ w = cc in
          same ∙ e ∙ ap (weighing_of cs xs) (sym s)
      go k v t false q = ok.right k v (sym (get_or-set_other r c k (Some w) None (eqb-false k c q)) ∙ t)

  pub put-four-right : (r next : List (Option Weighing)) (q : Pair WeighedPairs) (f : Four) → next ≡ put_four r f q → Right cs xs r
      → q ≡ four_of (weighing_of cs xs f.a) (weighing_of cs xs f.b) (weighing_of cs xs f.c) (weighing_of cs xs f.d) → Below most f → Right cs xs next
  unfolding put_four
  put-four-right r next q f n ok e h =
      let la = weighing_of cs xs f.a in
      let lb = weighing_of cs xs f.b in
      let lc = weighing_of cs xs f.c in
      let ld = weighing_of cs xs f.d in
      let ra = put_right r ok f.a la h.a refl in
      let rb = put_right (set r f.a (Some la)) ra f.b lb h.b refl in
      let rc = put_right (set (set r f.a (Some la)) f.b (Some lb)) rb f.c lc h.c refl in
      let rd = put_right (set (set (set r f.a (Some la)) f.b (Some lb)) f.c (Some lc)) rc f.d ld h.d refl in
      subst (Right cs xs) (sym (n ∙ ap (put_four r f) e)) rd

-- four of the first m channels are four of eight
pub below-most : (m : ℕ) (f : Four) → m ≤ most → Below m f → Below most f
below-most m f h b = record { a = omega (arith, b.a); b = omega (arith, b.b); c = omega (arith, b.c); d = omega (arith, b.d) }
