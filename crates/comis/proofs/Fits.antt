-- Every number that an update stores is a value that binary64 holds: it is the result of an operation, a constant, or was there before.
use lib.Dec.{T}
use lib.Ieee.{Float, binary64, lt, fits}
use lib.Ieee.Fits.{add-fits, sub-fits, cond-fits}
use lib.Ieee.Bits.{of_bits-fits}
use Rattle.float.specs.Arithmetic.{zero64}
use Rattle.float.specs.Choice.{max_of}
use Rattle.float.specs.declared.Db.{Db}
use Rattle.comis.specs.declared.mix_state.MixState.{MixState}
use Rattle.comis.specs.declared.mix_state.MixState.TheVariants.{ReleaseToUnity, DuckToTarget, InterviewPassthrough, DuckToOvervoice}
use Rattle.comis.specs.declared.loop_bank.Ballistics.{Ballistics}
use Rattle.comis.specs.declared.loop_bank.LoopBankConfig.{LoopBankConfig}
use Rattle.comis.specs.declared.loop_bank.Loops.{Loops}
use Rattle.comis.specs.declared.loop_bank.Need.{Need}
use Rattle.comis.specs.declared.loop_bank.Need.TheVariants.{Nothing, Reduction}
use Rattle.comis.specs.declared.engine.AutomixEngineConfig.{AutomixEngineConfig}
use Rattle.comis.specs.declared.engine.LoudnessSnapshot.{LoudnessSnapshot}
use Rattle.comis.specs.Envelope.{process_of}
use Rattle.comis.specs.LoopBank.{step_of, step_slow, step_mid, update_slow_mid, update_fast, update_release, less_trim}
use Rattle.comis.specs.Engine.{tick_in}
use Rattle.comis.specs.Loops.{LoopsFit}

max-fits : (x y : Float) → T (fits binary64 x) → T (fits binary64 y) → T (fits binary64 (max_of x y))
unfolding max_of
max-fits x y p q = cond-fits binary64 (lt x y) y x q p

step_fits : (l : Loops) (config : LoopBankConfig) (state : MixState) (b : Ballistics) (value target : Db) (dt : Float) → T (fits binary64 (step_of l config state b value target dt).envelope.current)
unfolding step_of process_of
step_fits l config state b value target dt = add-fits binary64 target.0 _

slow-fits : (l : Loops) (config : LoopBankConfig) (state : MixState) (need : Need) (dt : Float) → LoopsFit l → LoopsFit (step_slow l config state need dt).loops
unfolding step_slow
slow-fits l config state Nothing dt h = h
slow-fits l config state (Reduction x) dt h = record { slow = step_fits l config state _ _ _ dt; mid = h.mid; fast = h.fast; hold = h.hold }

mid-fits : (l : Loops) (config : LoopBankConfig) (state : MixState) (need : Need) (dt : Float) → LoopsFit l → LoopsFit (step_mid l config state need dt).loops
unfolding step_mid
mid-fits l config state Nothing dt h = h
mid-fits l config state (Reduction x) dt h = record { slow = h.slow; mid = step_fits l config state _ _ _ dt; fast = h.fast; hold = h.hold }

pub slow-mid-fits : (l : Loops) (config : LoopBankConfig) (state : MixState) (slow mid : Need) (dt : Float) → LoopsFit l → LoopsFit (update_slow_mid l config state slow mid dt).loops
unfolding update_slow_mid
slow-mid-fits l config state slow mid dt h =
    mid-fits _ config state mid dt (slow-fits _ config state slow dt (record { slow = h.slow; mid = h.mid; fast = h.fast; hold = of_bits-fits binary64 0x3fe999999999999a }))

pub fast-fits : (l : Loops) (config : LoopBankConfig) (state : MixState) (need : Need) (dt : Float) → LoopsFit l → LoopsFit (update_fast l config state need dt).loops
unfolding update_fast
fast-fits l config state need dt h = record { slow = h.slow; mid = h.mid; fast = step_fits l config state _ _ _ dt; hold = h.hold }

zero-fits : T (fits binary64 zero64)
zero-fits = of_bits-fits binary64 0

less-fits : (slow trim : Float) → T (fits binary64 slow) → T (fits binary64 (less_trim slow trim))
unfolding less_trim
less-fits slow trim h = cond-fits binary64 (lt zero64 trim) _ slow (max-fits _ zero64 (sub-fits binary64 slow trim) zero-fits) h

pub release_fits : (l : Loops) (config : LoopBankConfig) (state : MixState) (dt : Float) → LoopsFit l → LoopsFit (update_release l config state dt).loops
unfolding update_release
release_fits l config state dt h =
    record {
      slow = less-fits _ _ (step_fits _ config state _ _ _ dt);
      mid = step_fits _ config state _ _ _ dt;
      fast = h.fast;
      hold = max-fits _ zero64 (sub-fits binary64 _ dt) zero-fits;
    }

pub tick-fits : (config : AutomixEngineConfig) (l : Loops) (state : MixState) (loudness : LoudnessSnapshot) (dt : Float) → LoopsFit l → LoopsFit (tick_in config l state loudness dt).loops
unfolding tick_in
tick-fits config l ReleaseToUnity loudness dt h = release_fits l _ ReleaseToUnity dt h
tick-fits config l DuckToTarget loudness dt h = slow-mid-fits l _ DuckToTarget _ _ dt h
tick-fits config l InterviewPassthrough loudness dt h = release_fits l _ InterviewPassthrough dt h
tick-fits config l DuckToOvervoice loudness dt h = slow-mid-fits l _ DuckToOvervoice _ _ dt h
