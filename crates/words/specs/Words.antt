-- An answer as 41 words of 64 bits, settings from 12, and a layout from its count and 24. A float is its bits, a flag 0 or 1, an absent value 0. Definitions only.
use Rattle.std.specs.Prelude.{ℕ, ◌+◌, Bool, not, List, [], ◌∷◌, ◌++◌, eqb, get_or, Float, is_some, unwrap_or}
use Rattle.std.specs.Float.{binary64}
use Rattle.std.specs.Float.Ieee.{to_bits, of_bits}
use Rattle.float.specs.declared.Db.{Db}
use Rattle.float.specs.Arithmetic.{zero64}
use Rattle.codec.specs.Fields.{flag_bits}
use Rattle.layout.specs.declared.Place.{Place}
use Rattle.layout.specs.declared.Layout.{Layout}
use Rattle.comis.specs.Shown.{shown_flag, shown_value}
use Rattle.comis.specs.MixState.{state_number}
use Rattle.ratio.specs.declared.Duck.{Duck}
use Rattle.ratio.specs.declared.RatioStatus.{RatioStatus}
use Rattle.vad.specs.declared.VadSettings.{VadSettings}
use Rattle.vad.specs.declared.VadState.{VadState}
use Rattle.chain.specs.declared.Answer.{Answer}
use Rattle.settings.specs.declared.Settings.{Settings}

abbrev pub bits : Float → ℕ
bits x = to_bits binary64 x

-- ---- an answer

-- 13 words: state, unrounded reduction, reduction, slow, mid, fast, target; ratio, dialogue and bed, each as flag and value
unfoldable pub status_words : Db → RatioStatus → List ℕ
status_words r s =
    state_number s.state
    ∷ bits r.0
    ∷ bits s.reduction_db.0
    ∷ bits s.slow_db.0
    ∷ bits s.mid_db.0
    ∷ bits s.fast_db.0
    ∷ bits s.target_lu
    ∷ shown_flag s.ratio_lu
    ∷ bits (shown_value s.ratio_lu)
    ∷ shown_flag s.dialogue_lufs
    ∷ bits (shown_value s.dialogue_lufs)
    ∷ shown_flag s.bed_lufs
    ∷ bits (shown_value s.bed_lufs)
    ∷ []

-- 14 words: active, probability, speech level as flag and value, level, momentary, gated, short-term, onsets, offsets, over floor,
-- modulation, voicing, anti
unfoldable pub strand_words : VadState → List ℕ
strand_words s =
    flag_bits s.speech_active
    ∷ bits s.speech_probability
    ∷ flag_bits (is_some s.speech_level)
    ∷ bits (unwrap_or s.speech_level zero64)
    ∷ bits s.level_dbfs
    ∷ bits s.momentary_lufs.0
    ∷ flag_bits s.gated
    ∷ bits s.short_term_lufs.0
    ∷ s.speech_onsets
    ∷ s.speech_offsets
    ∷ bits s.features.over_floor_db
    ∷ bits s.features.modulation_db
    ∷ bits s.features.voicing
    ∷ bits s.features.anti
    ∷ []

unfoldable pub answer_words : Answer → List ℕ
answer_words a = status_words a.reduction a.status ++ (strand_words a.key ++ strand_words a.bed)

-- ---- settings, in the image's order

abbrev pub number_at : List ℕ → ℕ → Float
number_at w k = of_bits binary64 (get_or w k 0)

-- 0 or not
abbrev pub flag_at : List ℕ → ℕ → Bool
flag_at w k = not (eqb (get_or w k 0) 0)

unfoldable pub strand_from : ℕ → ℕ → ℕ → VadSettings
strand_from t h g = record {
  threshold = of_bits binary64 t;
  hold_ms = of_bits binary64 h;
  gate_lufs = record { 0 = of_bits binary64 g };
}

unfoldable pub duck_from : List ℕ → Duck
duck_from w = record {
  enabled = flag_at w 6;
  target_lu = number_at w 7;
  overvoice_lu = number_at w 8;
  max_reduction_db = record { 0 = number_at w 9 };
  speed = number_at w 10;
  bed_voice = flag_at w 11;
}

unfoldable pub settings_from : List ℕ → Settings
settings_from w = record {
  key = strand_from (get_or w 0 0) (get_or w 1 0) (get_or w 2 0);
  bed = strand_from (get_or w 3 0) (get_or w 4 0) (get_or w 5 0);
  duck = duck_from w;
}

-- ---- a layout: for each of eight channels azimuth, elevation, LFE flag

unfoldable pub place_from : List ℕ → ℕ → Place
place_from w k = record { azimuth = get_or w k 0; elevation = get_or w (k + 1) 0; lfe = get_or w (k + 2) 0 }

unfoldable pub layout_from : ℕ → List ℕ → Layout
layout_from n w = record {
  count = n;
  places =
      place_from w 0
      ∷ place_from w 3
      ∷ place_from w 6
      ∷ place_from w 9
      ∷ place_from w 12
      ∷ place_from w 15
      ∷ place_from w 18
      ∷ place_from w 21
      ∷ [];
}
