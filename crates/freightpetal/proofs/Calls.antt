-- What each call does, and that it is what the port does.
use Rattle.refusal.specs.declared.Refusal.{Refusal}
use Rattle.std.specs.Prelude.{Result}
use mathlib.Core.Path.{◌≡◌, refl, ap}
use mathlib.Core.List.{List}
use Prim.Native.Nat.{ℕ}
use lib.Ieee.{Float}
use Rattle.demands.specs.Calls.{event, save, restore, Step}
use Rattle.chain.specs.declared.Chain.{Chain}
use Rattle.settings.specs.declared.Settings.{Settings}
use Rattle.layout.specs.declared.Layout.{Layout}
use Rattle.chain.specs.Chain.{Framed, Changed, frame_of, set_of, reset_of, layout_of}
use Rattle.rules.specs.Rules.{HeldStrand, HeldDuck, Asked, frame, settings, reset, layout, Answered, after_frame, after_change}
use Rattle.image.specs.Image.{save_verdict, saved_in, restore_of}
use Rattle.image.specs.Port.{port}
use Rattle.freightpetal.specs.Steps.{after_save, after_restore}

abbrev Does : Type 0
Does = Step Chain Answered

module _ (c : Chain) where
  pub on-frame : (key bed : List Float) (r : Framed) → r ≡ frame_of c key bed → (r ≡ frame_of c key bed) × (after_frame r ≡ port c (event (frame key bed)))
  on-frame key bed r e = (e, ap {B = Does} after_frame e)

  pub on-set : (s : Settings) (r : Changed) → r ≡ set_of c s → HeldStrand s.key → HeldStrand s.bed → HeldDuck s.duck
      → (r ≡ set_of c s) × ((a : Asked) × (a.values ≡ s) × (after_change r ≡ port c (event (settings a))))
  on-set s r e k b d = (e, (record { values = s; key = k; bed = b; duck = d }, refl, ap {B = Does} after_change e))

  pub on-reset : (n : ℕ) (r : Changed) → r ≡ reset_of c n → (r ≡ reset_of c n) × (after_change r ≡ port c (event (reset n)))
  on-reset n r e = (e, ap {B = Does} after_change e)

  pub on-layout : (l : Layout) (r : Changed) → r ≡ layout_of c l → (r ≡ layout_of c l) × (after_change r ≡ port c (event (layout l)))
  on-layout l r e = (e, ap {B = Does} after_change e)

  pub on-save : (b b' : List ℕ) (r : Result Unit Refusal) → r ≡ save_verdict b → b' ≡ saved_in c b
      → (r ≡ save_verdict b) × (b' ≡ saved_in c b) × (after_save c r b' ≡ port c (save b))
  on-save b b' r e f = (e, f, λ i. after_save c (e i) (f i))

  pub on-restore : (b : List ℕ) (r : Changed) → r ≡ restore_of c b → (r ≡ restore_of c b) × (after_restore r b ≡ port c (restore b))
  on-restore b r e = (e, ap {B = Does} (λ (s : Changed). after_restore s b) e)
