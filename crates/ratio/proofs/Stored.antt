-- The loops that a frame stores are values of binary64, and finite where the frame is told finite: so they may stand in an image.
use mathlib.Core.Bool.{Bool, true, false, ◌&&◌, cond}
use lib.Dec.{T}
use lib.Ieee.{binary64, of_bits}
use lib.Ieee.Bits.{of_bits-fits}
use lib.Ieee.Fits.{and_l, and_r}
use lib.Ieee.Scale.{finite}
use Rattle.comis.specs.declared.loop_bank.Loops.{Loops}
use Rattle.comis.specs.LoopBank.{zero_loops}
use Rattle.comis.specs.Engine.{process_tick, process_fast}
use Rattle.comis.specs.Loops.{LoopsFit, LoopsStored}
use Rattle.comis.proofs.Fits.{tick-fits, fast-fits}
use Rattle.ratio.specs.declared.Duck.{Duck}
use Rattle.ratio.specs.declared.Inputs.{Inputs}
use Rattle.ratio.specs.Finite.{finite_loops}
use Rattle.ratio.specs.Frame.{enabled_frame, disabled_frame, frame_of}
use Rattle.ratio.proofs.Bounds.{told}

zero-fits : LoopsFit zero_loops
zero-fits = let z = of_bits-fits binary64 0 in record { slow = z; mid = z; fast = z; hold = z }

enabled-fits : (l : Loops) (d : Duck) (i : Inputs) → LoopsFit l → LoopsFit (enabled_frame l d i).loops
unfolding enabled_frame process_tick process_fast
enabled-fits l d i h = fast-fits _ _ _ _ _ (tick-fits _ l _ _ _ h)

pub frame-fits : (l : Loops) (d : Duck) (i : Inputs) → LoopsFit l → LoopsFit (frame_of l d i).loops
unfolding frame_of disabled_frame
frame-fits l d i h = go d.enabled
  where
    go : (b : Bool) → LoopsFit (cond b (enabled_frame l d i) (disabled_frame d)).loops
    go true = enabled-fits l d i h
    go false = zero-fits

finite-loops : (l : Loops) (d : Duck) (i : Inputs) → T (frame_of l d i).finite → T (finite_loops (frame_of l d i).loops)
unfolding frame_of disabled_frame finite_loops of_bits
finite-loops l d i = go d.enabled
  where
    go : (b : Bool) → T (cond b (enabled_frame l d i) (disabled_frame d)).finite → T (finite_loops (cond b (enabled_frame l d i) (disabled_frame d)).loops)
    go true h = (told l d i h).loops
    go false h = tt

both : (l : Loops) → T (finite_loops l) → LoopsFit l → LoopsStored l
unfolding finite_loops
both l h p =
    let a = finite l.slow.0 in
    let b = finite l.mid.0 in
    let c = finite l.fast.0 in
    let three = and_l ((a && b) && c) (finite l.hold_remaining_seconds) h in
    let two = and_l (a && b) c three in
    record {
      slow = (and_l a b two, p.slow);
      mid = (and_r a b two, p.mid);
      fast = (and_r (a && b) c three, p.fast);
      hold = (and_r ((a && b) && c) (finite l.hold_remaining_seconds) h, p.hold);
    }

pub frame_stored : (l : Loops) (d : Duck) (i : Inputs) → LoopsFit l → T (frame_of l d i).finite → LoopsStored (frame_of l d i).loops
frame_stored l d i p h = both (frame_of l d i).loops (finite-loops l d i h) (frame-fits l d i p)
