-- Two dead units are what they are said to be: one gives one reduction to every frame; the other remembers, from its first frame that passes on, its reduction.
use Prim.Native.Nat.{ℕ}
use mathlib.Core.Path.{◌≡◌, refl, sym, ap, ◌∙◌, subst}
use mathlib.Core.Bool.{Bool, true, false, cond, true≢false}
use mathlib.Core.List.{List, []}
use lib.Dec.{eqb}
use lib.Ieee.{Float, lt, of_bits}
use Rattle.refusal.specs.declared.Refusal.TheVariants.{BadSetting, NoStrand, BadLayout}
use Rattle.demands.specs.Calls.{Log, empty, ◌▹◌, Reply, answer, passed, Step, gets, Calls, event_calls}
use Rattle.demands.specs.Demands.{from, after, sees}
use Rattle.demands.specs.Dead.{None, First, now, earlier, Fixed, Repeats}
use Rattle.demands.proofs.Dead.{same_answer, always-fixed}
use Rattle.float.specs.Arithmetic.{zero64}
use Rattle.layout.specs.declared.Layout.{Layout}
use Rattle.layout.specs.Layout.{layout_within}
use Rattle.comis.specs.declared.loop_bank.Loops.{Loops}
use Rattle.chain.specs.declared.Chain.{Chain}
use Rattle.settings.specs.declared.Settings.{Settings}
use Rattle.settings.specs.Settings.{call_ranges, outside_settings, stored_of}
use Rattle.chain.specs.Chain.{fresh_of, changed, unchanged, with_settings, key_anew, bed_anew, laid_out, set_of, reset_of, layout_of}
use Rattle.rules.specs.Rules.{Event, frame, settings, reset, layout, Answered, shown, rules, port}
use Rattle.rules.specs.Rust.{rust}
use Rattle.dead_units.specs.Dead.{reduction_of, is_frame, answering, stuck, remembering, remembers, remembered, first_frame, repeating}

pub stuck_fixed : (x : Float) → Fixed rules is_frame rust reduction_of (stuck x)
stuck_fixed x = always-fixed rules is_frame rust reduction_of (shown (answering x)) port

-- ---- a settings call, a reset and a layout call leave the loops

set-loops : (c : Chain) (s : Settings) → (set_of c s).chain.loops ≡ c.loops
unfolding set_of
set-loops c s = go (outside_settings call_ranges s)
  where
    go : (b : Bool) → (cond b (unchanged c BadSetting) (changed (with_settings c (stored_of s)))).chain.loops ≡ c.loops
    go true = refl
    go false = refl

reset-loops : (c : Chain) (n : ℕ) → (reset_of c n).chain.loops ≡ c.loops
unfolding reset_of
reset-loops c n = go (eqb n 0) (eqb n 1)
  where
    go : (x y : Bool) → (cond x (changed (key_anew c)) (cond y (changed (bed_anew c)) (unchanged c NoStrand))).chain.loops ≡ c.loops
    go true y = refl
    go false true = refl
    go false false = refl

layout-loops : (c : Chain) (l : Layout) → (layout_of c l).chain.loops ≡ c.loops
unfolding layout_of
layout-loops c l = go (layout_within l)
  where
    go : (b : Bool) → (cond b (changed (laid_out c l)) (unchanged c BadLayout)).chain.loops ≡ c.loops
    go true = refl
    go false = refl

-- ---- the unit that repeats

abbrev U : Calls rules
U = event_calls rules

abbrev chain_after : Log Event → Chain
chain_after es = after rules U repeating es

-- whether loops hold a reduction, and that they hold the reduction x
abbrev holding : Loops → Bool
holding l = lt zero64 l.hold_remaining_seconds

abbrev Keeps : Chain → Float → Type 0
Keeps c x = c.loops ≡ remembering x

keeps-remembers : (c : Chain) (x : Float) → Keeps c x → remembers c ≡ true
unfolding lt of_bits
keeps-remembers c x k = ap holding k

fresh-forgets : remembers fresh_of ≡ false
unfolding lt of_bits
fresh-forgets = refl

-- before the first frame it remembers nothing
forgets : (es : Log Event) → None rules is_frame es → remembers (chain_after es) ≡ false
unfolding from
forgets empty n = fresh-forgets
forgets (es ▹ frame key bed) n = absurd (true≢false n.1)
forgets (es ▹ settings a) n = ap holding (set-loops (chain_after es) a.values) ∙ forgets es n.0
forgets (es ▹ reset k) n = ap holding (reset-loops (chain_after es) k) ∙ forgets es n.0
forgets (es ▹ layout l) n = ap holding (layout-loops (chain_after es) l) ∙ forgets es n.0

-- a frame, by whether the chain remembers
module _ (c : Chain) (key bed : List Float) where
  -- what is remembered, and the chain stays
  abbrev again : Step Chain Answered
  again = gets (passed (answer (shown (answering c.loops.slow.0)))) [] c

  first_frame_lem : remembers c ≡ false → repeating c (frame key bed) ≡ first_frame c (port c (frame key bed)).seen.reply
  first_frame_lem h = ap (λ (b : Bool). cond b again (first_frame c (port c (frame key bed)).seen.reply)) h

  later_frame : (x : Float) → Keeps c x → repeating c (frame key bed) ≡ again
  later_frame x k = ap (λ (b : Bool). cond b again (first_frame c (port c (frame key bed)).seen.reply)) (keeps-remembers c x k)

-- a reply that passes is remembered
keeps-reply : (c : Chain) (r : Reply Answered) (a : Answered) → r ≡ passed (answer a) → Keeps (remembered c r) (reduction_of a)
keeps-reply c r a e = subst (λ (r : Reply Answered). Keeps (remembered c r) (reduction_of a)) (sym e) refl

-- what is remembered stays
stays : (c : Chain) (e : Event) (x : Float) → Keeps c x → Keeps (repeating c e).state x
stays c (frame key bed) x k = ap (λ (s : Step Chain Answered). s.state.loops) (later_frame c key bed x k) ∙ k
stays c (settings a) x k = set-loops c a.values ∙ k
stays c (reset n) x k = reset-loops c n ∙ k
stays c (layout l) x k = layout-loops c l ∙ k

not-a-frame : {Q : Type 0} → ◌≡◌ {A = Bool} false true → Q
not-a-frame h = absurd (true≢false (sym h))

-- from the first frame on, if it passed, its reduction is remembered
begins : (bs : Log Event) (f : Event) (a : Answered) → None rules is_frame bs → is_frame f ≡ true → (sees rules U repeating bs f).reply ≡ passed (answer a)
    → Keeps (repeating (chain_after bs) f).state (reduction_of a)
begins bs (frame key bed) a n s q =
    let c = chain_after bs in
    let r = (port c (frame key bed)).seen.reply in
    let p = first_frame_lem c key bed (forgets bs n) in
    ap (λ (s : Step Chain Answered). s.state.loops) p ∙ keeps-reply c r a (sym (ap (λ (s : Step Chain Answered). s.seen.reply) p) ∙ q)
begins bs (settings b) a n s q = not-a-frame s
begins bs (reset k) a n s q = not-a-frame s
begins bs (layout l) a n s q = not-a-frame s

keeps : {es bs : Log Event} {f : Event} → First rules is_frame es bs f → (a : Answered) → (sees rules U repeating bs f).reply ≡ passed (answer a) → Keeps (chain_after es) (reduction_of a)
unfolding from
keeps (now {bs} {f} n s) a q = begins bs f a n s q
keeps (earlier {es} {e = e} p) a q = stays (chain_after es) e (reduction_of a) (keeps p a q)

-- a later frame gets what is remembered
repeated : (c : Chain) (e : Event) (x : Float) (a : Answered) → Keeps c x → is_frame e ≡ true → (repeating c e).seen.reply ≡ passed (answer a) → reduction_of a ≡ x
repeated c (frame key bed) x a k s q =
    let p = ap (λ (s : Step Chain Answered). s.seen.reply) (later_frame c key bed x k) in
    ap reduction_of (same_answer (sym q ∙ p)) ∙ ap (λ (l : Loops). l.slow.0) k
repeated c (settings b) x a k s q = not-a-frame s
repeated c (reset n) x a k s q = not-a-frame s
repeated c (layout l) x a k s q = not-a-frame s

alike : (h past : Log Event) (e f : Event) (a a₁ : Answered) → First rules is_frame (h ▹ e) past f → is_frame e ≡ true
    → (sees rules U repeating past f).reply ≡ passed (answer a₁) → (sees rules U repeating h e).reply ≡ passed (answer a) → reduction_of a ≡ reduction_of a₁
alike h past e f a a₁ (now n s) of q₁ q = ap reduction_of (same_answer (sym q ∙ q₁))
alike h past e f a a₁ (earlier p) of q₁ q = repeated (chain_after h) e (reduction_of a₁) a (keeps p a₁ q₁) of q

pub repeating_repeats : Repeats rules is_frame rust reduction_of repeating
repeating_repeats = record { repeats = λ h past e f a a₁ v. alike h past e f a a₁ }
