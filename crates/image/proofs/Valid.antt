-- What the codecs of both editions hold good is what the modules call valid.
use mathlib.Core.Path.{◌≡◌, refl, sym, ap, ◌∙◌}
use mathlib.Core.Bool.{Bool, true, false, not, cond, ◌||◌, true≢false}
use borrow.Author.Tests.{eq-eqb, eqb-true, not-true}
use lib.Dec.{eqb}
use lib.Ieee.{Float, binary64, to_bits, of_bits, eq}
use lib.Ieee.Bits.{is_true, of_bits-to_bits}
use Rattle.sequence.proofs.Tests.{neither, both}
use Rattle.float.specs.Arithmetic.{zero64}
use Rattle.float.specs.Valid.{Num}
use Rattle.vad.specs.declared.VadSettings.{VadSettings}
use Rattle.ratio.specs.declared.Duck.{Duck}
use Rattle.comis.specs.declared.loop_bank.Loops.{Loops}
use Rattle.comis.specs.Loops.{LoopsStored}
use Rattle.settings.specs.declared.Settings.{Settings}
use Rattle.settings.specs.declared.Range.{Range}
use Rattle.settings.specs.declared.Ranges.{Ranges}
use Rattle.channels.specs.declared.Surround.{Surround}
use Rattle.channels.specs.Surround.{mono_surround}
use Rattle.channels.specs.Valid.{SurroundValid}
use Rattle.channels.proofs.Valid.{surround_fresh}
use Rattle.chain.specs.declared.Chain.{Chain}
use Rattle.chain.specs.Base.{Base, widened, base_of}
use Rattle.settings.specs.Settings.{image_ranges, outside_of, outside_strand, outside_duck, outside_settings, zeroed_of}
use Rattle.chain.specs.Valid.{Valid}
use Rattle.settings.specs.Valid.{SettingValid, StrandSettingsValid, DuckValid, SettingsValid}
use Rattle.strand_image.proofs.Codecs.{zero_bits}
use Rattle.strand_image.proofs.Valid.{strand-valid, valid-strand}
use Rattle.surround_image.proofs.Valid.{surround-valid, valid-surround}
use Rattle.image.specs.Chain.{strand_settings, duck, signed_of, signed_strand, signed_duck, signed_settings, numbers, settings, loops, body, with_surround, chain}
use Rattle.image.specs.Edition1.{base}

-- ---- tests

pub false_or : {a b : Bool} → a ≡ false → b ≡ false → (a || b) ≡ false
false_or {a} {b} p q = rw (p, q)

-- ---- one setting

-- no negative zero: what is stored is the number itself
stored-plain : (x : Float) → Num binary64 x → signed_of x ≡ false → zeroed_of x ≡ x
unfolding signed_of zeroed_of
stored-plain x n h = go (eq x zero64) h
  where
    go : (t : Bool) → cond t (not (eqb (to_bits binary64 x) 0)) false ≡ false → cond t zero64 x ≡ x
    go false e = refl
    go true e = go₂ (eqb (to_bits binary64 x) 0) refl e
      where
        go₂ : (z : Bool) → eqb (to_bits binary64 x) 0 ≡ z → not z ≡ false → zero64 ≡ x
        go₂ true q r = sym (sym (of_bits-to_bits binary64 x n.1) ∙ ap (of_bits binary64) (eqb-true (to_bits binary64 x) 0 q))
        go₂ false q r = absurd (true≢false r)

plain-stored : (x : Float) → zeroed_of x ≡ x → signed_of x ≡ false
unfolding signed_of zeroed_of
plain-stored x h = go (eq x zero64) h
  where
    go : (t : Bool) → cond t zero64 x ≡ x → cond t (not (eqb (to_bits binary64 x) 0)) false ≡ false
    go false e = refl
    go true e = rw (eq-eqb (to_bits binary64 x) 0 (ap (to_bits binary64) (sym e) ∙ zero_bits))

setting_valid : (r : Range) (x : Float) → Num binary64 x → outside_of r x ≡ false → signed_of x ≡ false → SettingValid r x
setting_valid r x n i s = record { number = n; inside = i; stored = stored-plain x n s }

-- ---- the settings

module _ (r : Ranges) where
  strand_in : (s : VadSettings) → strand_settings.Ok s → outside_strand r s ≡ false → signed_strand s ≡ false → StrandSettingsValid r s
  unfolding strand_settings outside_strand signed_strand
  strand_in s ok o g =
      let a = neither (outside_of r.threshold s.threshold || outside_of r.hold_ms s.hold_ms) (outside_of r.gate_lufs s.gate_lufs.0) o in
      let b = neither (outside_of r.threshold s.threshold) (outside_of r.hold_ms s.hold_ms) a.0 in
      let c = neither (signed_of s.threshold || signed_of s.hold_ms) (signed_of s.gate_lufs.0) g in
      let d = neither (signed_of s.threshold) (signed_of s.hold_ms) c.0 in
      record {
        threshold = setting_valid r.threshold s.threshold ok.0 b.0 d.0;
        hold_ms = setting_valid r.hold_ms s.hold_ms ok.1.0 b.1 d.1;
        gate_lufs = setting_valid r.gate_lufs s.gate_lufs.0 ok.1.1 a.1 c.1;
      }

  in_strand : (s : VadSettings) → StrandSettingsValid r s → strand_settings.Ok s × (outside_strand r s ≡ false) × (signed_strand s ≡ false)
  unfolding strand_settings outside_strand signed_strand
  in_strand s v = (
    (v.threshold.number, (v.hold_ms.number, v.gate_lufs.number)),
    false_or (false_or v.threshold.inside v.hold_ms.inside) v.gate_lufs.inside,
    false_or
        (false_or (plain-stored s.threshold v.threshold.stored) (plain-stored s.hold_ms v.hold_ms.stored))
        (plain-stored s.gate_lufs.0 v.gate_lufs.stored),
  )

  duck_in : (s : Duck) → duck.Ok s → outside_duck r s ≡ false → signed_duck s ≡ false → DuckValid r s
  unfolding duck outside_duck signed_duck
  duck_in s ok o g =
      let a = neither ((outside_of r.ratio_lu s.target_lu || outside_of r.ratio_lu s.overvoice_lu) || outside_of r.max_reduction_db s.max_reduction_db.0) (outside_of r.speed s.speed) o in
      let b = neither (outside_of r.ratio_lu s.target_lu || outside_of r.ratio_lu s.overvoice_lu) (outside_of r.max_reduction_db s.max_reduction_db.0) a.0 in
      let c = neither (outside_of r.ratio_lu s.target_lu) (outside_of r.ratio_lu s.overvoice_lu) b.0 in
      let d = neither ((signed_of s.target_lu || signed_of s.overvoice_lu) || signed_of s.max_reduction_db.0) (signed_of s.speed) g in
      let e = neither (signed_of s.target_lu || signed_of s.overvoice_lu) (signed_of s.max_reduction_db.0) d.0 in
      let f = neither (signed_of s.target_lu) (signed_of s.overvoice_lu) e.0 in
      record {
        target_lu = setting_valid r.ratio_lu s.target_lu ok.1.0 c.0 f.0;
        overvoice_lu = setting_valid r.ratio_lu s.overvoice_lu ok.1.1.0 c.1 f.1;
        max_reduction_db = setting_valid r.max_reduction_db s.max_reduction_db.0 ok.1.1.1.0 b.1 e.1;
        speed = setting_valid r.speed s.speed ok.1.1.1.1.0 a.1 d.1;
      }

  in_duck : (s : Duck) → DuckValid r s → duck.Ok s × (outside_duck r s ≡ false) × (signed_duck s ≡ false)
  unfolding duck outside_duck signed_duck
  in_duck s v = (
    (tt, (v.target_lu.number, (v.overvoice_lu.number, (v.max_reduction_db.number, (v.speed.number, tt))))),
    false_or (false_or (false_or v.target_lu.inside v.overvoice_lu.inside) v.max_reduction_db.inside) v.speed.inside,
    false_or
        (false_or
        (false_or (plain-stored s.target_lu v.target_lu.stored) (plain-stored s.overvoice_lu v.overvoice_lu.stored))
        (plain-stored s.max_reduction_db.0 v.max_reduction_db.stored))
        (plain-stored s.speed v.speed.stored),
  )

settings-valid : (s : Settings) → settings.Ok s → SettingsValid image_ranges s
unfolding settings numbers outside_settings signed_settings
settings-valid s ok =
    let r = image_ranges in
    let t = both (not (outside_settings image_ranges s)) (not (signed_settings s)) (is_true _ ok.1) in
    let a = neither (outside_strand r s.key || outside_strand r s.bed) (outside_duck r s.duck) (not-true _ t.0) in
    let b = neither (outside_strand r s.key) (outside_strand r s.bed) a.0 in
    let c = neither (signed_strand s.key || signed_strand s.bed) (signed_duck s.duck) (not-true _ t.1) in
    let d = neither (signed_strand s.key) (signed_strand s.bed) c.0 in
    record {
      key = strand_in r s.key ok.0.0 b.0 d.0;
      bed = strand_in r s.bed ok.0.1.0 b.1 d.1;
      duck = duck_in r s.duck ok.0.1.1 a.1 c.1;
    }

valid-settings : (s : Settings) → SettingsValid image_ranges s → settings.Ok s
unfolding settings numbers outside_settings signed_settings
valid-settings s v =
    let r = image_ranges in
    let k = in_strand r s.key v.key in
    let b = in_strand r s.bed v.bed in
    let d = in_duck r s.duck v.duck in
    let o : ((outside_strand r s.key || outside_strand r s.bed) || outside_duck r s.duck) ≡ false = false_or (false_or k.1 b.1) d.1 in
    let g : ((signed_strand s.key || signed_strand s.bed) || signed_duck s.duck) ≡ false = false_or (false_or k.2 b.2) d.2 in
    ((k.0, (b.0, d.0)), (rw (o, g) tt))

-- ---- the body

loops-valid : (l : Loops) → loops.Ok l → LoopsStored l
unfolding loops
loops-valid l ok = record { slow = ok.0; mid = ok.1.0; fast = ok.1.1.0; hold = ok.1.1.1 }

valid-loops : (l : Loops) → LoopsStored l → loops.Ok l
unfolding loops
valid-loops l v = (v.slow, (v.mid, (v.fast, v.hold)))

-- a body is good exactly where it is valid with any valid channels beside it
pub body-valid : (b : Base) (s : Surround) → body.Ok b → SurroundValid s → Valid (with_surround b s)
unfolding body
body-valid b s ok v = record {
  settings = settings-valid b.settings ok.0;
  key = strand-valid b.key ok.1.0;
  bed = strand-valid b.bed ok.1.1.0;
  loops = loops-valid b.loops ok.1.1.1;
  surround = v;
}

pub valid-body : (c : Chain) → Valid c → body.Ok (base_of c)
unfolding body
valid-body c v =
    (valid-settings c.settings v.settings, (valid-strand c.key v.key, (valid-strand c.bed v.bed, valid-loops c.loops v.loops)))

-- ---- edition 1

pub base-valid : (b : Base) → base.Ok b → Valid (widened b)
unfolding base
base-valid b ok = body-valid b mono_surround ok.1.0 surround_fresh

pub valid-base : (b : Base) → Valid (widened b) → base.Ok b
unfolding base
valid-base b v = (tt, (valid-body (widened b) v, tt))

-- ---- the chain

pub chain-valid : (c : Chain) → chain.Ok c → Valid c
unfolding chain
chain-valid c ok = body-valid (base_of c) c.surround ok.1.0 (surround-valid c.surround ok.1.1.0)

pub valid-chain : (c : Chain) → Valid c → chain.Ok c
unfolding chain
valid-chain c v = (tt, (valid-body c v, (valid-surround c.surround v.surround, tt)))
