-- The 1,386 words of a chain, as codecs: each is how a part is written and read, and which values it holds. Definitions only.
use Rattle.std.specs.Prelude.{Bool, false, not, cond, ◌&&◌, ◌||◌, [], ◌∷◌, replicate, eqb, Float}
use Rattle.std.specs.Float.{binary64}
use Rattle.std.specs.Float.Ieee.{to_bits, eq}
use Rattle.codec.specs.Codec.{Codec}
use Rattle.codec.specs.Forms.{f64, flag, one, fixed, pair, as_a, also}
use Rattle.float.specs.Arithmetic.{zero64}
use Rattle.vad.specs.declared.VadSettings.{VadSettings}
use Rattle.ratio.specs.declared.Duck.{Duck}
use Rattle.comis.specs.declared.loop_bank.Loops.{Loops}
use Rattle.settings.specs.declared.Settings.{Settings}
use Rattle.channels.specs.declared.Surround.{Surround}
use Rattle.chain.specs.declared.Chain.{Chain}
use Rattle.chain.specs.Base.{Base, base_of}
use Rattle.settings.specs.Settings.{image_ranges, outside_settings, fresh_settings}
use Rattle.comis.specs.LoopBank.{db}
use Rattle.strand_image.specs.Strand.{strand}
use Rattle.surround_image.specs.Surround.{surround}
use Rattle.image.specs.Layout.{edition, block_count, unused_words}
use Rattle.image.specs.Edition.{Edition}

-- ---- settings

unfoldable pub strand_settings : Codec VadSettings
strand_settings = as_a (λ s. (s.threshold, (s.hold_ms, s.gate_lufs.0))) (λ p. record { threshold = p.0; hold_ms = p.1.0; gate_lufs = record { 0 = p.1.1 } })
    (pair (one f64) (pair (one f64) (one f64)))

abbrev pub from_duck : Duck → Bool × (Float × (Float × (Float × (Float × Bool))))
from_duck s = (s.enabled, (s.target_lu, (s.overvoice_lu, (s.max_reduction_db.0, (s.speed, s.bed_voice)))))

abbrev pub to_duck : Bool × (Float × (Float × (Float × (Float × Bool)))) → Duck
to_duck p = record {
  enabled = p.0;
  target_lu = p.1.0;
  overvoice_lu = p.1.1.0;
  max_reduction_db = db p.1.1.1.0;
  speed = p.1.1.1.1.0;
  bed_voice = p.1.1.1.1.1;
}

unfoldable pub duck : Codec Duck
duck = as_a from_duck to_duck (pair (one flag) (pair (one f64) (pair (one f64) (pair (one f64) (pair (one f64) (one flag))))))

-- negative zero: equal to zero, and by its bits another
unfoldable pub signed_of : Float → Bool
signed_of x = cond (eq x zero64) (not (eqb (to_bits binary64 x) 0)) false

unfoldable pub signed_strand : VadSettings → Bool
signed_strand s = (signed_of s.threshold || signed_of s.hold_ms) || signed_of s.gate_lufs.0

unfoldable pub signed_duck : Duck → Bool
signed_duck d = ((signed_of d.target_lu || signed_of d.overvoice_lu) || signed_of d.max_reduction_db.0) || signed_of d.speed

unfoldable pub signed_settings : Settings → Bool
signed_settings s = (signed_strand s.key || signed_strand s.bed) || signed_duck s.duck

-- in the image's ranges, and no negative zero
abbrev pub settings_rule : Settings → Bool
settings_rule s = not (outside_settings image_ranges s) && not (signed_settings s)

-- the twelve numbers, whatever their values
unfoldable pub numbers : Codec Settings
numbers = as_a (λ s. (s.key, (s.bed, s.duck))) (λ p. record { key = p.0; bed = p.1.0; duck = p.1.1 })
    (pair strand_settings (pair strand_settings duck))

unfoldable pub settings : Codec Settings
settings = also settings_rule fresh_settings numbers

-- ---- the ducker's loops

unfoldable pub loops : Codec Loops
loops = as_a (λ s. (s.slow.0, (s.mid.0, (s.fast.0, s.hold_remaining_seconds))))
    (λ p. record { slow = db p.0; mid = db p.1.0; fast = db p.1.1.0; hold_remaining_seconds = p.1.1.1 })
    (pair (one f64) (pair (one f64) (pair (one f64) (one f64))))

-- ---- the body: words 1 to 1,272, for the settings, key strand, bed strand and loops

unfoldable pub body : Codec Base
body = as_a (λ b. (b.settings, (b.key, (b.bed, b.loops)))) (λ p. record { settings = p.0; key = p.1.0; bed = p.1.1.0; loops = p.1.1.1 })
    (pair settings (pair strand (pair strand loops)))

-- ---- the chain: the edition, the body, the bed's channels, and the unused words

abbrev pub with_surround : Base → Surround → Chain
with_surround b s = record { settings = b.settings; key = b.key; bed = b.bed; loops = b.loops; surround = s }

unfoldable pub chain : Codec Chain
chain = as_a (λ c. (tt, (base_of c, (c.surround, tt)))) (λ p. with_surround p.1.0 p.1.1.0)
    (pair (fixed (edition ∷ [])) (pair body (pair surround (fixed (replicate unused_words 0)))))

abbrev pub second_edition : Edition Chain
second_edition = record { blocks = block_count; words = chain }
