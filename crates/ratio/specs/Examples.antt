-- The examples of the specification for the ducker: target 5, bed -20, dialogue -20 needs 5; bed -100 needs nothing and its loop keeps its value. Definitions only.
use Rattle.std.specs.Prelude.{◌≡◌, T, pos, negsuc, Float}
use Rattle.std.specs.Float.{binary64}
use Rattle.std.specs.Float.Ieee.{of_int}
use Rattle.std.specs.Float.Ieee.Scale.{finite}
use Rattle.float.specs.Valid.{NoMinus}
use Rattle.float.specs.declared.Lufs.{Lufs}
use Rattle.comis.specs.declared.mix_state.MixState.{MixState}
use Rattle.comis.specs.declared.loop_bank.LoopBankConfig.{LoopBankConfig}
use Rattle.comis.specs.declared.loop_bank.Loops.{Loops}
use Rattle.comis.specs.declared.loop_bank.Need.TheVariants.{Nothing, Reduction}
use Rattle.comis.specs.MixState.{is_ducking}
use Rattle.comis.specs.LoopBank.{db, step_slow, step_mid, update_fast}
use Rattle.comis.specs.Engine.{required_reduction}

abbrev five : Float
five = of_int binary64 (pos 5)

-- -20 and -100 LUFS
abbrev minus_twenty : Lufs
minus_twenty = record { 0 = of_int binary64 (negsuc 19) }

abbrev minus_hundred : Lufs
minus_hundred = record { 0 = of_int binary64 (negsuc 99) }

pub record RatioExamples : Type 0 where
  pub need : required_reduction five minus_twenty minus_twenty ≡ Reduction (db five)
  pub no_need : required_reduction five minus_hundred minus_twenty ≡ Nothing
  pub slow_stays : (l : Loops) (c : LoopBankConfig) (s : MixState) (dt : Float) → (step_slow l c s (required_reduction five minus_hundred minus_twenty) dt).loops ≡ l
  pub mid_stays : (l : Loops) (c : LoopBankConfig) (s : MixState) (dt : Float) → (step_mid l c s (required_reduction five minus_hundred minus_twenty) dt).loops ≡ l
  -- fast is stepped toward itself, and stays where it is a finite number without a minus sign (-0 would become 0)
  pub fast_stays : (l : Loops) (c : LoopBankConfig) (s : MixState) (dt : Float) → T (is_ducking s) → NoMinus binary64 l.fast.0 → T (finite l.fast.0)
      → T (update_fast l c s (required_reduction five minus_hundred minus_twenty) dt).finite
      → (update_fast l c s (required_reduction five minus_hundred minus_twenty) dt).loops ≡ l
