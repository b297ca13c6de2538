-- Every number of a valid chain is finite.
use Rattle.std.specs.Prelude.{Option, Some, None, IfSome, option_to_list}
use Prim.Native.Nat.{ℕ, suc, ◌-◌}
use mathlib.Core.Path.{◌≡◌, refl, subst, sym}
use mathlib.Core.Bool.{Bool, true, false}
use mathlib.Core.List.{List, [], ◌∷◌}
use lib.Dec.{T, ltb}
use lib.ListN.{get_or}
use lib.Ieee.{Float, Format, binary32, binary64, of_bits}
use lib.Ieee.Scale.{finite}
use borrow.Author.Tests.{ltb-true, ltb-false}
use Rattle.float.specs.Valid.{Num}
use Rattle.sequence.specs.Counted.{Counted}
use Rattle.float.specs.Arithmetic.{zero64}
use Rattle.float.specs.AllFinite.{all_finite}
use Rattle.level.specs.declared.Level.{Level}
use Rattle.level.specs.Valid as level
use Rattle.channels.specs.declared.Channel.{Channel}
use Rattle.channels.specs.declared.Surround.{Surround}
use Rattle.channels.specs.Channels.{resting}
use Rattle.channels.specs.Surround.{other_channels}
use Rattle.channels.specs.Valid.{ChannelValid, SurroundValid}
use Rattle.detector.specs.declared.FeatureDetector.{FeatureDetector}
use Rattle.detector.specs.Valid as detector
use Rattle.vad.specs.declared.VadSettings.{VadSettings}
use Rattle.vad.specs.declared.Strand.{Strand}
use Rattle.vad.specs.Valid as strand
use Rattle.level.proofs.Finite.{Alls, none, ◌more◌, ◌and◌, all-finite}
use Rattle.comis.specs.declared.loop_bank.Loops.{Loops}
use Rattle.comis.specs.Loops.{LoopsStored}
use Rattle.settings.specs.declared.Ranges.{Ranges}
use Rattle.settings.specs.declared.Settings.{Settings}
use Rattle.settings.specs.Settings.{image_ranges}
use Rattle.chain.specs.declared.Chain.{Chain}
use Rattle.chain.specs.Valid.{Valid}
use Rattle.settings.specs.Valid.{StrandSettingsValid, SettingsValid}
use Rattle.chain.specs.Numbers.{of_strand_settings, of_settings, of_loops, of_level, of_detector, of_strand, of_channel, of_channels, numbers_of}

-- ---- lists

each : (blank : Float) (xs : List Float) → ((k : ℕ) → T (finite (get_or xs k blank))) → Alls xs
each blank [] h = none
each blank (x ∷ xs) h = h 0 more each blank xs (λ k. h (suc k))

-- values, and blanks after them
counted-each : {A : Type 0} {Good : A → Type 0} (P : A → Type 0) (blank : A) (n count : ℕ) (places : List A) → ((x : A) → Good x → P x) → P blank
    → Counted Good blank n count places → (k : ℕ) → P (get_or places k blank)
counted-each P blank n count places f b c k = go (ltb k count) refl
  where
    go : (t : Bool) → ltb k count ≡ t → P (get_or places k blank)
    go true e = f _ (c.good k (ltb-true k count e))
    go false e = subst P (sym (c.rest k (ltb-false k count e))) b

counted : (f : Format) (blank : Float) (n count : ℕ) (places : List Float) → T (finite blank) → Counted (Num f) blank n count places → Alls places
counted f blank n count places b c = each blank places (counted-each (λ (x : Float). T (finite x)) blank n count places (λ x g. g.0) b c)

pub zero-finite : T (finite zero64)
unfolding of_bits
zero-finite = tt

zero32_finite : T (finite (of_bits binary32 0))
unfolding of_bits
zero32_finite = tt

-- ---- a chain

strand-settings : (r : Ranges) (s : VadSettings) → StrandSettingsValid r s → Alls (of_strand_settings s)
strand-settings r s v = v.threshold.number.0 more v.hold_ms.number.0 more v.gate_lufs.number.0 more none

maybe : (o : Option Float) → IfSome o (Num binary64) → Alls (option_to_list o)
maybe None v = none
maybe (Some x) v = v.0 more none

pub of-level : (l : Level) → level.Valid l → Alls (of_level l)
of-level l v =
    (v.shelf.z1.0 more v.shelf.z2.0 more v.high_pass.z1.0 more v.high_pass.z2.0 more v.fast.0 more none)
    and counted binary64 zero64 300 l.powers.count l.powers.list zero-finite v.powers

pub of-detector : (d : FeatureDetector) → detector.Valid d → Alls (of_detector d)
of-detector d v =
    let f = v.filters in
    let least : Alls (d.floor.window_min ∷ []) = v.floor.window_min.0 more none in
    (f.high_pass.z1.0 more f.high_pass.z2.0 more f.low_pass.z1.0 more f.low_pass.z2.0
    more f.pitch1.z1.0 more f.pitch1.z2.0 more f.pitch2.z1.0 more f.pitch2.z2.0 more none)
    and counted binary32 (of_bits binary32 0) 240 d.decimated.count d.decimated.list zero32_finite v.decimated
    and maybe d.floor.smoothed v.floor.smoothed
    and least
    and counted binary64 zero64 8 d.floor.minima.count d.floor.minima.list zero-finite v.floor.minima
    and counted binary64 zero64 40 d.history.count d.history.list zero-finite v.history

pub of-strand : (t : Strand) → strand.Valid t → Alls (of_strand t)
of-strand t v =
    of-level t.level v.level
    and of-detector t.detector v.detector
    and (v.decision.probability.0 more maybe t.decision.power v.decision.power)

pub of-settings : (s : Settings) → SettingsValid image_ranges s → Alls (of_settings s)
of-settings s v =
    let d = v.duck in
    strand-settings _ s.key v.key
    and strand-settings _ s.bed v.bed
    and (d.target_lu.number.0 more d.overvoice_lu.number.0 more d.max_reduction_db.number.0 more d.speed.number.0 more none)

pub of-loops : (l : Loops) → LoopsStored l → Alls (of_loops l)
of-loops l v = v.slow.0 more v.mid.0 more v.fast.0 more v.hold.0 more none

-- the bed's channels after the first, those at rest too
of-channel : (c : Channel) → ChannelValid c → Alls (of_channel c)
of-channel c v = v.shelf.z1.0 more v.shelf.z2.0 more v.high_pass.z1.0 more v.high_pass.z2.0 more v.fast.0 more none

of-resting : Alls (of_channel resting)
of-resting = zero-finite more zero-finite more zero-finite more zero-finite more zero-finite more none

of-channels : (cs : List Channel) → ((k : ℕ) → Alls (of_channel (get_or cs k resting))) → Alls (of_channels cs)
of-channels [] h = none
of-channels (c ∷ cs) h = h 0 and of-channels cs (λ k. h (suc k))

pub of-surround : (s : Surround) → SurroundValid s → Alls (of_channels s.others)
of-surround s v =
    of-channels s.others (counted-each (λ (c : Channel). Alls (of_channel c)) resting other_channels (s.layout.count - 1) s.others of-channel of-resting v.others)

pub valid-finite : (c : Chain) → Valid c → T (all_finite (numbers_of c))
unfolding numbers_of
valid-finite c v = all-finite (of-settings c.settings v.settings and of-strand c.key v.key and of-strand c.bed v.bed and of-loops c.loops v.loops and of-surround c.surround v.surround)
