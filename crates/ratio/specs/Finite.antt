-- Whether what a frame stores and answers is finite. Definitions only.
use Rattle.std.specs.Prelude.{Bool, true, ◌&&◌}
use Rattle.std.specs.Float.Ieee.Scale.{finite}
use Rattle.comis.specs.declared.Shown.{Shown}
use Rattle.comis.specs.declared.Shown.TheVariants.{Silence, Level}
use Rattle.comis.specs.declared.loop_bank.Loops.{Loops}
use Rattle.ratio.specs.declared.RatioStatus.{RatioStatus}

unfoldable pub finite_shown : Shown → Bool
finite_shown Silence = true
finite_shown (Level x) = finite x

unfoldable pub finite_loops : Loops → Bool
finite_loops l = ((finite l.slow.0 && finite l.mid.0) && finite l.fast.0) && finite l.hold_remaining_seconds

unfoldable pub finite_status : RatioStatus → Bool
finite_status s =
    ((((((finite s.reduction_db.0 && finite s.slow_db.0) && finite s.mid_db.0) && finite s.fast_db.0)
    && finite s.target_lu) && finite_shown s.ratio_lu) && finite_shown s.dialogue_lufs) && finite_shown s.bed_lufs
