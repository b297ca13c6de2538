-- Without a need fast, which is stepped toward itself, stays where it is.
use Prim.Native.Nat.{ℕ, ◌-◌, ◌*◌, ◌<◌}
use native.Mathlib.Nat.{le_refl, mul-pos, zero-mul}
use native.Mathlib.Omega.{arith}
use mathlib.Core.Path.{◌≡◌, refl, sym, ap, ◌∙◌}
use mathlib.Core.Bool.{Bool, true, false, not, cond}
use borrow.Author.Tests.{le-ltb}
use lib.Dec.{T}
use lib.IntN.{pos}
use lib.Ieee.{Float, nan, inf, fin, binary64, up, down, size, neg, sum, add, sub, mul, round, is_nan, of_bits}
use lib.Ieee.Fits.{down_pos}
use lib.Ieee.Scale.{finite, round_same}
use Rattle.float.specs.Valid.{plus, NoMinus}
use Rattle.float.specs.Arithmetic.{zero64}
use Rattle.float.specs.declared.Db.{Db}
use Rattle.float.proofs.Exact.{nil, and_nil}
use Rattle.power.specs.Power.{exp_of}
use Rattle.power.proofs.Scaled.{exp_laws}
use Rattle.comis.specs.declared.mix_state.MixState.{MixState}
use Rattle.comis.specs.declared.mix_state.MixState.TheVariants.{ReleaseToUnity, DuckToTarget, InterviewPassthrough, DuckToOvervoice}
use Rattle.comis.specs.declared.envelope.Coefficient.{Coefficient}
use Rattle.comis.specs.declared.loop_bank.Ballistics.{Ballistics}
use Rattle.comis.specs.declared.loop_bank.LoopBankConfig.{LoopBankConfig}
use Rattle.comis.specs.declared.loop_bank.Loops.{Loops}
use Rattle.comis.specs.declared.loop_bank.Need.TheVariants.{Nothing}
use Rattle.comis.specs.Envelope.{time_constant, gradual, exponent, coeff_of, toward, process_of}
use Rattle.comis.specs.MixState.{is_ducking}
use Rattle.comis.specs.LoopBank.{fast_times, scaled_of, with_fast, step_of, duck_goal, fast_goal, update_fast}

-- ---- x + (x - x) c is x

none : (a : ℕ) → a - a ≡ 0
none a = omega arith

zero-round : (c : ℕ) → 0 < c → round binary64 false 0 c ≡ zero64
zero-round c p = round_same binary64 false 0 c 0 1 p (omega arith) (sym (zero-mul c)) ∙ zero
  where
    zero : round binary64 false 0 1 ≡ zero64
    zero = unfold round size of_bits in refl

less_itself : (x : Float) → T (finite x) → sub binary64 x x ≡ zero64
unfolding sub add neg sum
less_itself nan h = absurd h
less_itself (inf s) h = absurd h
less_itself (fin true m e) h = let a = m * up e * down e in simp (le-ltb a a (le_refl a), none a) (zero-round (down e * down e) (mul-pos (down_pos e) (down_pos e)))
less_itself (fin false m e) h = let a = m * up e * down e in simp (le-ltb a a (le_refl a), none a) (zero-round (down e * down e) (mul-pos (down_pos e) (down_pos e)))

zero_is : zero64 ≡ nil
unfolding of_bits
zero_is = refl

nil-times : (c : Float) → T (finite c) → T (plus c) → mul binary64 nil c ≡ zero64
unfolding mul
nil-times nan h p = absurd h
nil-times (inf s) h p = absurd h
nil-times (fin true k b) h p = absurd p
nil-times (fin false k b) h p =
    ap (λ (z : ℕ). round binary64 false z (1 * down b)) (zero-mul (k * up b)) ∙ zero-round (1 * down b) (mul-pos (down_pos (pos 0)) (down_pos b))

toward_itself : (x c : Float) → NoMinus binary64 x → T (finite x) → T (finite c) → T (plus c) → toward x x c ≡ x
toward_itself x c p h q r =
    ap (λ (z : Float). add binary64 x (mul binary64 z c)) (less_itself x h ∙ zero_is) ∙ ap (add binary64 x) (nil-times c q r ∙ zero_is) ∙ and_nil binary64 x p

-- ---- the coefficient

number : (x : Float) → T (finite x) → T (not (is_nan x))
unfolding is_nan
number nan h = absurd h
number (inf s) h = tt
number (fin s m e) h = tt

coeff-finite : (tc dt : Float) → T (coeff_of tc dt).finite → T (finite (coeff_of tc dt).value) × T (plus (coeff_of tc dt).value)
unfolding coeff_of
coeff-finite tc dt = go (gradual tc dt)
  where
    eased : Coefficient
    eased = record { value = exp_of (exponent tc dt); finite = finite (exponent tc dt) }

    jump : Coefficient
    jump = record { value = zero64; finite = true }

    go : (b : Bool) → T (cond b eased jump).finite → T (finite (cond b eased jump).value) × T (plus (cond b eased jump).value)
    go true h = (exp_laws.is_finite (exponent tc dt) (number (exponent tc dt) h), exp_laws.no_minus (exponent tc dt))
    go false h = unfold of_bits in (tt, tt)

-- ---- fast

-- a step from a value toward itself
step_itself : (l : Loops) (c : LoopBankConfig) (s : MixState) (b : Ballistics) (x : Db) (dt : Float) → NoMinus binary64 x.0 → T (finite x.0) → T (step_of l c s b x x dt).finite → (step_of l c s b x x dt).envelope.current ≡ x.0
unfolding step_of process_of
step_itself l c s b x dt p h t =
    let times = scaled_of c b l.hold_remaining_seconds s in
    let k = coeff-finite (time_constant x.0 x.0 times.attack_seconds times.release_seconds) dt t in
    toward_itself x.0 _ p h k.0 k.1

pub fast_stays : (l : Loops) (c : LoopBankConfig) (s : MixState) (dt : Float) → T (is_ducking s) → NoMinus binary64 l.fast.0 → T (finite l.fast.0) → T (update_fast l c s Nothing dt).finite → (update_fast l c s Nothing dt).loops ≡ l
unfolding update_fast fast_goal duck_goal
fast_stays l c ReleaseToUnity dt d p h t = absurd d
fast_stays l c DuckToTarget dt d p h t = ap (with_fast l) (step_itself l c DuckToTarget fast_times l.fast dt p h t)
fast_stays l c InterviewPassthrough dt d p h t = absurd d
fast_stays l c DuckToOvervoice dt d p h t = ap (with_fast l) (step_itself l c DuckToOvervoice fast_times l.fast dt p h t)
