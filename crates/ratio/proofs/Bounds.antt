-- The reduction of an accepted frame lies between 0 and the deepest that the settings allow, whatever the loops held.
use mathlib.Core.Path.{◌≡◌, refl, subst}
use mathlib.Core.Bool.{Bool, true, false, not, ◌&&◌, cond}
use lib.Dec.{T}
use lib.Ieee.{Float, nan, inf, fin, lt, eq, le, is_nan, of_bits}
use lib.Ieee.Fits.{and_l, and_r}
use lib.Ieee.Scale.{finite}
use Rattle.float.specs.Arithmetic.{zero64}
use Rattle.float.specs.Choice.{clamp_of}
use Rattle.comis.specs.declared.loop_bank.Loops.{Loops}
use Rattle.comis.specs.LoopBank.{contributions_of}
use Rattle.comis.specs.Engine.{loop_config}
use Rattle.comis.proofs.Order.{clamp_between}
use Rattle.ratio.specs.declared.Duck.{Duck}
use Rattle.ratio.specs.declared.Inputs.{Inputs}
use Rattle.ratio.specs.declared.Framed.{Framed}
use Rattle.ratio.specs.Status.{config_of, status_of}
use Rattle.ratio.specs.Finite.{finite_loops, finite_status}
use Rattle.ratio.specs.Frame.{tick_of, fast_of, enabled_frame, disabled_frame, frame_of}

-- a NaN stays one when it is clamped
nothing-below : (y : Float) → lt y nan ≡ false
unfolding lt
nothing-below nan = refl
nothing-below (inf s) = refl
nothing-below (fin s m e) = refl

clamped_number : (x low high : Float) → T (finite (clamp_of x low high)) → T (not (is_nan x))
unfolding clamp_of lt is_nan
clamped_number nan low high h = subst (λ (b : Bool). T (finite (cond b high nan))) (nothing-below high) h
clamped_number (inf s) low high h = tt
clamped_number (fin s m e) low high h = tt

-- what an enabled frame's `finite` says
pub record Told (l : Loops) (d : Duck) (i : Inputs) : Type 0 where
  pub loops : T (finite_loops (enabled_frame l d i).loops)
  pub reduction : T (finite (enabled_frame l d i).reduction.0)
  pub status : T (finite_status (enabled_frame l d i).status)

pub told : (l : Loops) (d : Duck) (i : Inputs) → T (enabled_frame l d i).finite → Told l d i
unfolding enabled_frame
told l d i h =
    let t = tick_of l d i in
    let f = fast_of d i t in
    let c = contributions_of f.loops (loop_config (config_of d)) in
    let powers = t.updated.finite && f.finite in
    let stored = finite_loops f.loops in
    let reduced = finite c.total_db.0 in
    let shown = finite_status (status_of (config_of d) t.state c i) in
    let h' = and_l ((powers && stored) && reduced) shown h in
    record {
      loops = and_r powers stored (and_l (powers && stored) reduced h');
      reduction = and_r (powers && stored) reduced h';
      status = and_r ((powers && stored) && reduced) shown h;
    }

abbrev Between : Framed → Float → Type 0
Between f most = T (le zero64 f.reduction.0) × T (le f.reduction.0 most)

enabled_between : (l : Loops) (d : Duck) (i : Inputs) → T (le zero64 d.max_reduction_db.0) → T (enabled_frame l d i).finite → Between (enabled_frame l d i) d.max_reduction_db.0
unfolding enabled_frame contributions_of
enabled_between l d i m h = clamp_between _ zero64 d.max_reduction_db.0 (clamped_number _ zero64 d.max_reduction_db.0 (told l d i h).reduction) m

disabled_between : (d : Duck) → T (le zero64 d.max_reduction_db.0) → Between (disabled_frame d) d.max_reduction_db.0
unfolding disabled_frame lt eq le of_bits
disabled_between d m = (tt, m)

pub reduction_bounds : (l : Loops) (d : Duck) (i : Inputs) → T (le zero64 d.max_reduction_db.0) → T (frame_of l d i).finite → Between (frame_of l d i) d.max_reduction_db.0
unfolding frame_of
reduction_bounds l d i m = go d.enabled
  where
    go : (b : Bool) → T (cond b (enabled_frame l d i) (disabled_frame d)).finite → Between (cond b (enabled_frame l d i) (disabled_frame d)) d.max_reduction_db.0
    go true h = enabled_between l d i m h
    go false h = disabled_between d m
